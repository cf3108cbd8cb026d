-- Event states and transitions (ANSI/ASHRAE 135-2020, 13.2.2 and clause 21, BACnetEventState).
use Rattle.std.specs.Prelude.{ℕ, ◌==◌, Bool, true, false, Option, List, [], ◌∷◌, find}
use Rattle.bac_values.specs.declared.event_state.EventState.{EventState}
use Rattle.bac_values.specs.declared.event_state.EventState.TheVariants.{Normal, Fault, Offnormal, HighLimit, LowLimit}
use Rattle.bac_values.specs.declared.transition.Transition.{Transition}
use Rattle.bac_values.specs.declared.transition.Transition.TheVariants.{ToOffnormal, ToFault, ToNormal}

-- the number of each state
abbrev pub number_of_state : EventState → ℕ
number_of_state Normal = 0
number_of_state Fault = 1
number_of_state Offnormal = 2
number_of_state HighLimit = 3
number_of_state LowLimit = 4

abbrev pub event_states : List EventState
event_states = Normal ∷ Fault ∷ Offnormal ∷ HighLimit ∷ LowLimit ∷ []

-- the state with a number
abbrev pub state_of_number : ℕ → Option EventState
state_of_number number = find (λ state. number_of_state state == number) event_states

abbrev pub is_normal : EventState → Bool
is_normal Normal = true
is_normal _ = false

abbrev pub is_fault : EventState → Bool
is_fault Fault = true
is_fault _ = false

-- the transition by which a state is entered: to-normal for NORMAL, to-fault for FAULT, to-offnormal for every other
abbrev pub transition_to : EventState → Transition
transition_to Normal = ToNormal
transition_to Fault = ToFault
transition_to Offnormal = ToOffnormal
transition_to HighLimit = ToOffnormal
transition_to LowLimit = ToOffnormal

-- the place of each transition in strings of three bits and lists of three stamps or priorities
abbrev pub place_of_transition : Transition → ℕ
place_of_transition ToOffnormal = 0
place_of_transition ToFault = 1
place_of_transition ToNormal = 2
