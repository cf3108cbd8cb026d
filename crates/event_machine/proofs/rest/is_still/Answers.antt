use Rattle.std.proofs.Common.{◌≡◌, subst, sym, IsTrue, ◌↔◌, [], ◌∷◌}
use Rattle.event_machine.specs.Given.{point_of}
use Rattle.event_machine.specs.AlarmSteps.{next_look}
use Rattle.event_machine.specs.Points.{Looked}
use Rattle.event_machine.specs.Detection.{moves_at}
use Rattle.event_machine.proofs.Resting.{still, still_after}
use Rattle.event_machine.proofs.rest.is_still.Goals as goal

pub returns-clause-still : goal.returns-clause-still
returns-clause-still c =
    let algorithm = c.args.snapshot.now.algorithm in
    let point = point_of c.args.snapshot.now c.args.point.now in
    subst (λ b. IsTrue b ↔ ((next_look algorithm point c.args.alarm.now).moves ≡ [])) (sym c.would_rest.ensures.rests) (still algorithm point c.args.alarm.now)

pub returns-clause-course : goal.returns-clause-course
returns-clause-course c = λ first later course after.
    let algorithm = c.args.snapshot.now.algorithm in
    let point = point_of c.args.snapshot.now c.args.point.now in
    subst (λ b. IsTrue b ↔ (moves_at algorithm first (Looked point ∷ later) ≡ [])) (sym c.would_rest.ensures.rests)
    (still_after algorithm first later point c.args.alarm.now course after)
