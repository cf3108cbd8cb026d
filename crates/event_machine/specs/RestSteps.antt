-- Whether nothing moves at one more look.
use Rattle.std.specs.Prelude.{Bool, ◌&&◌, ◌||◌, if◌then◌else◌, is_none}
use Rattle.algorithm_rules.specs.declared.table.Algorithm.{Algorithm}
use Rattle.event_machine.specs.Points.{Point}
use Rattle.bac_values.specs.EventStates.{is_fault, is_normal}
use Rattle.event_machine.specs.Detection.{fault_target}
use Rattle.event_machine.specs.AlarmSteps.{next_runs, rule_lasting}
use Rattle.event_machine.specs.Summary.{AlarmState}

-- no fault comes, changes or ends; and the object is in FAULT, or inhibited in NORMAL, or the run of no rule has gone on for its delay
abbrev pub rests : Algorithm → Point → AlarmState → Bool
rests algorithm point alarm =
    is_none (fault_target point.reliability alarm.last_reliability alarm.state)
    && (is_fault alarm.state
    || (if point.inhibited then is_normal alarm.state
    else is_none (rule_lasting algorithm point alarm.state (next_runs algorithm point alarm.state alarm.cause alarm.runs))))
