use Rattle.std.proofs.Common.{sym, subst}
use Rattle.alarm_journal.specs.Press.{Between}
use Rattle.state_codec.specs.Work.{content_with}
use Rattle.state_codec.specs.declared.work.Work.{Work}
use Rattle.state_codec.proofs.Works.{between_now}
use Rattle.state_codec.proofs.work.write_work.Goals as goal

pub returns-in-Nothing-clause-any_moment : goal.returns-in-Nothing-clause-any_moment
returns-in-Nothing-clause-any_moment g c = λ journal content rests.
    let told = g.G.Ground.told c.args.press.device in
    subst (λ (w : Work). Between journal content (content_with w content) told told) (sym c.in-Nothing.is) (between_now journal content content told rests.1)
