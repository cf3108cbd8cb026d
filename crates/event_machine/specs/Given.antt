-- A look and its answer, and the parts of an alarm, as the program has them.
use Rattle.std.specs.Prelude.{List, ◌++◌}
use Rattle.std.specs.Option.{option_to_list}
use Rattle.algorithm_rules.specs.declared.snapshot.Snapshot.{Snapshot}
use Rattle.algorithm_rules.specs.Facts.{facts_of}
use Rattle.event_machine.specs.declared.point.PointFacts.{PointFacts}
use Rattle.event_machine.specs.declared.moves.Move.{Move}
use Rattle.event_machine.specs.declared.moves.Changed.{Changed}
use Rattle.event_machine.specs.declared.parts.AlarmParts.{AlarmParts}
use Rattle.event_machine.specs.Points.{Point}
use Rattle.event_machine.specs.Summary.{AlarmState}

-- the point of a snapshot and of what else is seen
abbrev pub point_of : Snapshot → PointFacts → Point
point_of snapshot point = record {
  moment = point.moment;
  stamp = point.stamp;
  facts = facts_of snapshot;
  reliability = point.reliability;
  inhibited = point.inhibited;
  ack_required = point.ack_required;
}

-- the moves of an answer, the earliest first
abbrev pub moves_in : Changed → List Move
moves_in changed = option_to_list changed.first ++ option_to_list changed.second

-- the alarm of some parts
abbrev pub alarm_of_parts : AlarmParts → AlarmState
alarm_of_parts parts = record {
  state = parts.state;
  acked = parts.acked;
  stamps = parts.stamps;
  last_states = parts.last_states;
  cause = parts.cause;
  last_reliability = parts.last_reliability;
  runs = parts.runs;
}
