use Rattle.std.proofs.Common.{sym, subst, ◌∷◌}
use Rattle.event_machine.specs.Points.{Acknowledged}
use Rattle.event_machine.specs.Summary.{AlarmState, IsAfter}
use Rattle.event_machine.specs.AlarmSteps.{acknowledged}
use Rattle.event_machine.proofs.Keeping.{after_acknowledgement}
use Rattle.event_machine.proofs.alarm.Alarm.acknowledge.Goals as goal

pub returns-clause-course : goal.returns-clause-course
returns-clause-course c = λ algorithm first later after.
    let transition = c.args.transition in
    let IsLonger = λ (alarm : AlarmState). IsAfter algorithm first (Acknowledged transition ∷ later) (acknowledged transition alarm) in
    rw c.place.ensures.place (subst IsLonger (sym c.self.view_is) (after_acknowledgement algorithm first later transition c.args.self.now after))
