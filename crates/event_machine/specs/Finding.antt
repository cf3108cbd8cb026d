-- What is found under an identifier, and which of its transitions may be acknowledged (ANSI/ASHRAE 135-2020, 13.5).
use Rattle.std.specs.Prelude.{◌≡◌, Bool, true, false, IsTrue, Option, Some, None, slice_index_or}
use Rattle.bac_values.specs.EventStates.{place_of_transition, transition_to}
use Rattle.bac_values.specs.declared.event_state.EventState.{EventState}
use Rattle.bac_values.specs.declared.event_state.EventState.TheVariants.{Normal, Fault, Offnormal, HighLimit, LowLimit}
use Rattle.bac_values.specs.declared.transition.Transition.{Transition}
use Rattle.event_machine.specs.declared.found.Found.{Found}
use Rattle.event_machine.specs.declared.found.Found.TheVariants.{NoObject, NoAlarm, Has}
use Rattle.event_machine.specs.Summary.{AlarmState}

-- no object; an object that has no event detection, or whose detection isn't enabled; or an alarm
pub data Finding : Type 0 where
  NoSuchObject : Finding
  WithoutAlarm : Finding
  WithAlarm : AlarmState → Finding

-- what the program found, apart from where it lies in memory
abbrev pub as_finding : Found → Finding
as_finding NoObject = NoSuchObject
as_finding NoAlarm = WithoutAlarm
as_finding (Has alarm) = WithAlarm alarm.now

-- a state names the one that was last entered; OFFNORMAL stands for the limits too
abbrev pub names_state : EventState → EventState → Bool
names_state Normal Normal = true
names_state Fault Fault = true
names_state Offnormal Offnormal = true
names_state HighLimit HighLimit = true
names_state LowLimit LowLimit = true
names_state HighLimit Offnormal = true
names_state LowLimit Offnormal = true
names_state last named = false

abbrev pub names_last : Option EventState → EventState → Bool
names_last None named = false
names_last (Some last) named = names_state last named

-- the transition is the one by which the state is entered, it came and entered that state, and it isn't acknowledged
pub record IsUnacknowledged (alarm : AlarmState) (transition : Transition) (named : EventState) : Type 0 where
  pub transition_is : transition_to named ≡ transition
  pub last : IsTrue (names_last (slice_index_or alarm.last_states (place_of_transition transition) None) named)
  pub unacknowledged : slice_index_or alarm.acked (place_of_transition transition) true ≡ false

abbrev pub MayAcknowledge : Finding → Transition → EventState → Type 0
MayAcknowledge NoSuchObject transition named = ⊥
MayAcknowledge WithoutAlarm transition named = ⊥
MayAcknowledge (WithAlarm alarm) transition named = IsUnacknowledged alarm transition named
