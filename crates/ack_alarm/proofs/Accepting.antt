-- What is accepted may be acknowledged.
use Rattle.std.proofs.Common.{◌≡◌, ℕ, ◌==◌, Bool, true, false, not, if◌then◌else◌, Option, Some, None, refl, ap, ◌∙◌, sym, subst, slice_index_or}
use Rattle.bac_values.specs.Errors.{invalid_event_state_error, invalid_time_stamp_error}
use Rattle.bac_values.specs.EventStates.{number_of_state, place_of_transition, state_of_number, transition_to}
use Rattle.bac_values.specs.declared.event_state.EventState.{EventState}
use Rattle.bac_values.specs.declared.event_state.EventState.TheVariants.{Normal, Fault, Offnormal, HighLimit, LowLimit}
use Rattle.bac_values.specs.declared.transition.Transition.{Transition}
use Rattle.bac_values.specs.declared.transition.Transition.TheVariants.{ToOffnormal, ToFault, ToNormal}
use Rattle.event_machine.specs.Finding.{IsUnacknowledged, names_last}
use Rattle.event_machine.specs.Summary.{AlarmState}
use Rattle.event_services.specs.declared.acknowledge.AckRequest.{AckRequest}
use Rattle.ack_alarm.specs.declared.verdict.Verdict.TheVariants.{Accept, Already}
use Rattle.ack_alarm.specs.Verdicts.{error_of, is_stamp, transition_named, verdict_on, verdict_with}

-- the transition that a number names is the one by which the state with that number is entered
named_by : (normal fault offnormal high low : Bool) (named : EventState) →
    (if normal then Some Normal else (if fault then Some Fault else (if offnormal then Some Offnormal else (if high then Some HighLimit else (if low then Some LowLimit else None))))) ≡ Some named →
    transition_to named ≡ (if normal then ToNormal else (if fault then ToFault else ToOffnormal))
named_by true fault offnormal high low named e = let s : Normal ≡ named = cc in ap transition_to (sym s)
named_by false true offnormal high low named e = let s : Fault ≡ named = cc in ap transition_to (sym s)
named_by false false true high low named e = let s : Offnormal ≡ named = cc in ap transition_to (sym s)
named_by false false false true low named e = let s : HighLimit ≡ named = cc in ap transition_to (sym s)
named_by false false false false true named e = let s : LowLimit ≡ named = cc in ap transition_to (sym s)
named_by false false false false false named e = absurd cc

named_is : (number : ℕ) (named : EventState) → state_of_number number ≡ Some named → transition_to named ≡ transition_named number
named_is number named e =
    named_by (number_of_state Normal == number) (number_of_state Fault == number) (number_of_state Offnormal == number) (number_of_state HighLimit == number) (number_of_state LowLimit == number) named e

-- what an accepting cascade says
record Accepted (last acked : Bool) (transition accepted : Transition) (state named : EventState) : Type 0 where
  transition_is : transition ≡ accepted
  state_is : state ≡ named
  last_is : last ≡ true
  unacknowledged : acked ≡ false

accepting : (last acked : Bool) (transition accepted : Transition) (state named : EventState) →
    (if not last then error_of invalid_event_state_error else (if acked then Already else Accept transition state)) ≡ Accept accepted named → Accepted last acked transition accepted state named
accepting false acked transition accepted state named e = absurd cc
accepting true true transition accepted state named e = absurd cc
accepting true false transition accepted state named e = record { transition_is = cc; state_is = cc; last_is = refl; unacknowledged = refl }

abbrev last_in : AlarmState → Transition → Option EventState
last_in alarm transition = slice_index_or alarm.last_states (place_of_transition transition) None

abbrev acked_in : AlarmState → Transition → Bool
acked_in alarm transition = slice_index_or alarm.acked (place_of_transition transition) true

named_accepts : (alarm : AlarmState) (number : ℕ) (found : Option EventState) → state_of_number number ≡ found → (accepted : Transition) (named : EventState) →
    verdict_with (last_in alarm (transition_named number)) (acked_in alarm (transition_named number)) (transition_named number) found ≡ Accept accepted named →
    IsUnacknowledged alarm accepted named
named_accepts alarm number None is accepted named e = absurd cc
named_accepts alarm number (Some state) is accepted named e =
    let transition = transition_named number in
    let told = accepting (names_last (last_in alarm transition) state) (acked_in alarm transition) transition accepted state named e in
    let entered : transition_to named ≡ accepted = ap transition_to (sym told.state_is) ∙ (named_is number state is ∙ told.transition_is) in
    let last : names_last (last_in alarm transition) named ≡ true = ap (names_last (last_in alarm transition)) (sym told.state_is) ∙ told.last_is in
    record {
      transition_is = entered;
      last = subst (λ t. names_last (last_in alarm t) named ≡ true) told.transition_is last;
      unacknowledged = subst (λ t. acked_in alarm t ≡ false) told.transition_is told.unacknowledged;
    }

stamp_accepts : (alarm : AlarmState) (request : AckRequest) (stamped : Bool) (accepted : Transition) (named : EventState) →
    (if not stamped then error_of invalid_time_stamp_error
    else verdict_with (last_in alarm (transition_named request.state)) (acked_in alarm (transition_named request.state)) (transition_named request.state) (state_of_number request.state)) ≡ Accept accepted named →
    IsUnacknowledged alarm accepted named
stamp_accepts alarm request false accepted named e = absurd cc
stamp_accepts alarm request true accepted named e = named_accepts alarm request.state (state_of_number request.state) refl accepted named e

pub accepts : (alarm : AlarmState) (request : AckRequest) (accepted : Transition) (named : EventState) →
    verdict_on alarm (transition_named request.state) request ≡ Accept accepted named → IsUnacknowledged alarm accepted named
accepts alarm request accepted named e = stamp_accepts alarm request (is_stamp alarm (transition_named request.state) request.stamp) accepted named e
