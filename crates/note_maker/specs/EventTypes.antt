-- The event types of notifications (ANSI/ASHRAE 135-2020, 13.3, 13.4 and clause 21, BACnetEventType).
use Rattle.std.specs.Prelude.{ℕ, if◌then◌else◌}
use Rattle.bac_values.specs.EventTypes.{change_of_reliability_type}
use Rattle.bac_values.specs.declared.event_state.EventState.{EventState}
use Rattle.algorithm_rules.specs.declared.table.Algorithm.{Algorithm}
use Rattle.algorithm_rules.specs.EventTypes.{event_type_of}
use Rattle.event_machine.specs.declared.moves.Move.{Move}
use Rattle.bac_values.specs.EventStates.{is_fault}

-- the event type of a transition: that of the algorithm, and CHANGE_OF_RELIABILITY where the object's reliability made it
abbrev pub transition_type : Algorithm → Move → ℕ
transition_type algorithm made = if made.by_fault then change_of_reliability_type else event_type_of algorithm

-- the event type of an acknowledgement, by the state that is acknowledged
abbrev pub acknowledgement_type : Algorithm → EventState → ℕ
acknowledgement_type algorithm acknowledged = if is_fault acknowledged then change_of_reliability_type else event_type_of algorithm
