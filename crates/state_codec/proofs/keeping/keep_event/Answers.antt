use Rattle.std.proofs.Common.{◌∷◌, [], ◌∙◌}
use Rattle.state_codec.proofs.Committing.{nothing_committed, one_record}
use Rattle.state_codec.proofs.keeping.keep_event.Goals as goal

pub returns-in-Err-clause-keeps : goal.returns-in-Err-clause-keeps
returns-in-Err-clause-keeps g c = λ journal older stands holds.
    rw c.into_ground.ensures.same (nothing_committed journal c.args.core.now.site older (c.args.event.now ∷ older) c.args.press.layout (g.G.Ground.told c.args.press.device) holds)

pub returns-clause-holds : goal.returns-clause-holds
returns-clause-holds g c = λ journal older stands holds.
    c.keep_events.ensures.holds journal (c.args.event.now ∷ []) older (one_record c.as_slice.result.now c.args.event.now (c.as_slice.ensures.value ∙ c.in-Ok.ensures.text) c.requires.record c.event_fits.ensures.fits) stands holds

pub returns-clause-keeps : goal.returns-clause-keeps
returns-clause-keeps g c = λ journal older stands holds.
    c.keep_events.ensures.keeps journal (c.args.event.now ∷ []) older (one_record c.as_slice.result.now c.args.event.now (c.as_slice.ensures.value ∙ c.in-Ok.ensures.text) c.requires.record c.event_fits.ensures.fits) stands holds
