use Rattle.std.proofs.Common.{refl, ◌∙◌}
use Rattle.bac_values.specs.Moments.{IsMoment}
use Rattle.ground_io.specs.Trace.{still}
use Rattle.alarm_server.proofs.DressedEnds.{dressed, over_inner, some_to}
use Rattle.alarm_server.proofs.dressed.serve_over.Goals as goal

pub returns-clause-serves : goal.returns-clause-serves
returns-clause-serves g c =
    some_to _ _ _
    (λ count s.
    dressed _ g.G.Ground.told g.G.Ground.size g.G.Ground.disk_faults g.G.Ground.emit_faults g.L.Link.left g.L.Link.faults IsMoment (still (g.S.Source.left c.args.site.now) (g.S.Source.left c.serve-device.new.site)) count c.args.link c.into_inner-2.result c.args.device c.into_inner.result c.serve-device.result.2 _ _
    c.new-device.result c.serve-device.result.0 c.new-link.result c.serve-device.result.1 refl c.new-device.ensures.made (over_inner _ _ _ _ c.new-link.ensures.made c.new-waking.ensures.made) c.into_inner.ensures.inner (c.into_inner-2.ensures.inner ∙ c.into_inner-waking.ensures.inner) s c.serve-device.ensures.link)
    c.serve-device.ensures.serves
