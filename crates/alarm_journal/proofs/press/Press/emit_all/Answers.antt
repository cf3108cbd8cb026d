use Rattle.std.proofs.Common.{subst}
use Rattle.alarm_journal.specs.Journal.{Site, Content}
use Rattle.alarm_journal.specs.Press.{Settled, Lasts, Throughout, PressState}
use Rattle.alarm_journal.proofs.Emitting.{settled_still, throughout}
use Rattle.alarm_journal.proofs.Rest.{lasts}
use Rattle.alarm_journal.proofs.press.Press.emit_all.Goals as goal

pub emit_each-requires : goal.emit_each-requires
emit_each-requires g c = record { stands = λ site content settled. lasts site c.self.inside.layout (g.G.Ground.told c.self.inside.device) content (g.G.Ground.size c.self.inside.device) c.self.invariant settled }

pub returns-clause-settled : goal.returns-clause-settled
returns-clause-settled g c =
    let x = c.self.inside in
    subst (λ (s : PressState _). (site : Site) (content : Content) → Settled site s.layout (g.G.Ground.told s.device) content → Settled site x.layout (g.G.Ground.told c.emit_each.new.device) content) c.self.view_is
    (λ site content settled. settled_still site x.layout content c.args.sends.now c.emit_each.result.sent c.emit_each.result.lost _ _ c.emit_each.ensures.told settled)

pub returns-clause-lasts : goal.returns-clause-lasts
returns-clause-lasts g c =
    let x = c.self.inside in
    subst (λ (s : PressState _). (site : Site) (content : Content) → Settled site s.layout (g.G.Ground.told s.device) content → Lasts site (g.G.Ground.told c.emit_each.new.device) content) c.self.view_is
    (λ site content settled. lasts site x.layout _ content (g.G.Ground.size x.device) c.self.invariant (settled_still site x.layout content c.args.sends.now c.emit_each.result.sent c.emit_each.result.lost _ _ c.emit_each.ensures.told settled))

pub returns-clause-any_moment : goal.returns-clause-any_moment
returns-clause-any_moment g c =
    let x = c.self.inside in
    subst (λ (s : PressState _). (site : Site) (content : Content) → Settled site s.layout (g.G.Ground.told s.device) content → Throughout site content (g.G.Ground.told s.device) (g.G.Ground.told c.emit_each.new.device)) c.self.view_is
    (λ site content settled. throughout site x.layout content (g.G.Ground.size x.device) c.args.sends.now c.emit_each.result.sent c.emit_each.result.lost _ _ c.self.invariant c.emit_each.ensures.told settled)
