-- The alarm record of each transition of an object: its entries in Event_Time_Stamps and Acked_Transitions (ANSI/ASHRAE 135-2020, 13.2.2 and 13.5), and the state that it entered.
use Rattle.std.specs.Prelude.{◌==◌, Bool, true, false, not, Option, Some, None, List, [], ◌∷◌, find, replicate, slice_index_or}
use Rattle.bac_values.specs.declared.event_state.EventState.{EventState}
use Rattle.bac_values.specs.declared.stamp.Stamp.{Stamp}
use Rattle.bac_values.specs.declared.transition.Transition.{Transition}
use Rattle.bac_values.specs.EventStates.{transition_to, place_of_transition}
use Rattle.algorithm_rules.specs.declared.table.Algorithm.{Algorithm}
use Rattle.event_machine.specs.declared.moves.Move.{Move}
use Rattle.event_machine.specs.Points.{Point, Incident, Looked, Acknowledged}
use Rattle.event_machine.specs.Detection.{moves_at}

-- a state was entered at a point, or a transition was acknowledged
pub data Mark : Type 0 where
  Entered : Point → EventState → Mark
  Acked : Transition → Mark

-- the moves at a point, the earliest first, go before the earlier marks
abbrev pub marks_with : Point → List Move → List Mark → List Mark
marks_with point [] marks = marks
marks_with point (move ∷ moves) marks = marks_with point moves (Entered point move.to ∷ marks)

-- the marks of a course, the newest first
unfoldable pub marks_of : Algorithm → Point → List Incident → List Mark
marks_of algorithm first [] = []
marks_of algorithm first (Looked point ∷ older) = marks_with point (moves_at algorithm first (Looked point ∷ older)) (marks_of algorithm first older)
marks_of algorithm first (Acknowledged transition ∷ older) = Acked transition ∷ marks_of algorithm first older

abbrev pub is_same : Transition → Transition → Bool
is_same a b = place_of_transition a == place_of_transition b

-- whether a mark is the coming of a transition
abbrev pub is_coming : Transition → Mark → Bool
is_coming transition (Entered point state) = is_same transition (transition_to state)
is_coming transition (Acked other) = false

-- whether a mark is the coming of a transition, or its acknowledgement
abbrev pub is_of : Transition → Mark → Bool
is_of transition (Entered point state) = is_same transition (transition_to state)
is_of transition (Acked other) = is_same transition other

-- whether a point's notification class wants a transition acknowledged
abbrev pub wants_ack : Transition → Point → Bool
wants_ack transition point = slice_index_or point.ack_required (place_of_transition transition) false

-- the stamp of what has never been: each octet is unspecified
abbrev pub never : Stamp
never = record { octets = replicate 8 255 }

abbrev pub stamp_in : Option Mark → Stamp
stamp_in (Some (Entered point state)) = point.stamp
stamp_in (Some (Acked transition)) = never
stamp_in None = never

abbrev pub state_in : Option Mark → Option EventState
state_in (Some (Entered point state)) = Some state
state_in (Some (Acked transition)) = None
state_in None = None

abbrev pub acked_in : Option Mark → Bool
acked_in (Some (Entered point state)) = not (wants_ack (transition_to state) point)
acked_in (Some (Acked transition)) = true
acked_in None = true

pub record AlarmRecord : Type 0 where
  pub stamp : Stamp
  pub last_state : Option EventState
  pub acked : Bool

-- The alarm record of a transition, by looking back over the marks of its object: the stamp of the point at which it last came and the state that it then entered; it is acknowledged where it never came, where it didn't want it when it last came, or where it was acknowledged since.
abbrev pub record_of : Transition → List Mark → AlarmRecord
record_of transition marks = record {
  stamp = stamp_in (find (is_coming transition) marks);
  last_state = state_in (find (is_coming transition) marks);
  acked = acked_in (find (is_of transition) marks);
}
