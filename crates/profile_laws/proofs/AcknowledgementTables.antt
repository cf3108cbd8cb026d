-- An acknowledgement is answered with the first error of its table.
use Rattle.std.proofs.Common.{ℕ, cond, ◌==◌, ◌≡◌, Bool, true, false, true≢false, not, if◌then◌else◌, Option, Some, None, is_some, get_or, List, [], ◌∷◌, refl, sym, subst}
use Rattle.bac_values.specs.EventStates.{place_of_transition, state_of_number}
use Rattle.bac_values.specs.Errors.{invalid_event_state_error, invalid_time_stamp_error, no_alarm_configured_error, unknown_object_error}
use Rattle.bac_values.specs.declared.event_state.EventState.{EventState}
use Rattle.bac_values.specs.declared.event_state.EventState.TheVariants.{Fault, HighLimit, LowLimit, Normal, Offnormal}
use Rattle.bac_values.specs.declared.service_error.ServiceError.{ServiceError}
use Rattle.bac_values.specs.declared.transition.Transition.{Transition}
use Rattle.bac_values.specs.declared.transition.Transition.TheVariants.{ToFault, ToNormal, ToOffnormal}
use Rattle.event_machine.specs.Finding.{names_last}
use Rattle.event_machine.specs.Summary.{AlarmState}
use Rattle.event_services.specs.declared.acknowledge.AckRequest.{AckRequest}
use Rattle.event_services.specs.declared.time_stamp.AckStamp.{AckStamp}
use Rattle.event_services.specs.declared.time_stamp.AckStamp.TheVariants.{DateTime}
use Rattle.ack_alarm.specs.declared.verdict.Verdict.{Verdict}
use Rattle.ack_alarm.specs.declared.verdict.Verdict.TheVariants.{Accept, Already, Error}
use Rattle.ack_alarm.specs.Verdicts.{acknowledgement_verdict, error_of, is_stamp, transition_named, verdict_on, verdict_with}
use Rattle.alarm_core.specs.Found.{alarm_or_new, finding_of}
use Rattle.alarm_core.specs.State.{DetectedObjectState}
use Rattle.profile_laws.specs.AcknowledgementErrors.{last_entered, names_entered, names_stamp, transition_of}
use Rattle.profile_laws.specs.ErrorTables.{first_error}

-- a verdict is the error, or that it is accepted, now or already
abbrev pub IsAcceptance : Verdict → Type 0
IsAcceptance (Accept transition named) = Unit {0}
IsAcceptance Already = Unit {0}
IsAcceptance (Error class code) = ⊥

abbrev pub VerdictSays : Option ServiceError → Verdict → Type 0
VerdictSays (Some error) verdict = verdict ≡ error_of error
VerdictSays None verdict = IsAcceptance verdict

-- the rows of an alarm
abbrev pub alarm_rows : AlarmState → AckRequest → List (Bool × ServiceError)
alarm_rows alarm request =
    (not (names_stamp alarm (transition_of (state_of_number request.state)) request.stamp), invalid_time_stamp_error)
    ∷ (not (names_entered (last_entered alarm (transition_of (state_of_number request.state))) (state_of_number request.state)), invalid_event_state_error)
    ∷ []

abbrev pub rows : Bool → Bool → AlarmState → AckRequest → List (Bool × ServiceError)
rows known detected alarm request = (not known, unknown_object_error) ∷ (not detected, no_alarm_configured_error) ∷ alarm_rows alarm request

already_or_not : (acked : Bool) (transition : Transition) (named : EventState) → IsAcceptance (if acked then Already else Accept transition named)
already_or_not true transition named = tt
already_or_not false transition named = tt

-- ---- the state

abbrev named_verdict : Bool → Bool → Transition → EventState → Verdict
named_verdict last acked transition named = if not last then error_of invalid_event_state_error else (if acked then Already else Accept transition named)

named_says : (last acked : Bool) (transition : Transition) (named : EventState) → VerdictSays (if not last then Some invalid_event_state_error else None) (named_verdict last acked transition named)
named_says true acked transition named = already_or_not acked transition named
named_says false acked transition named = refl

state_says : (last : Option EventState) (acked : Bool) (transition : Transition) (named : Option EventState) →
    VerdictSays (if not (names_entered last named) then Some invalid_event_state_error else None) (verdict_with last acked transition named)
state_says last acked transition None = refl
state_says last acked transition (Some named) = named_says (names_last last named) acked transition named

-- ---- the transition and the stamp

by_number : (normal fault offnormal high low : Bool) →
    transition_of (cond normal (Some Normal) (cond fault (Some Fault) (cond offnormal (Some Offnormal) (cond high (Some HighLimit) (cond low (Some LowLimit) None)))))
    ≡ (if normal then ToNormal else (if fault then ToFault else ToOffnormal))
by_number true fault offnormal high low = refl
by_number false true offnormal high low = refl
by_number false false true high low = refl
by_number false false false true low = refl
by_number false false false false true = refl
by_number false false false false false = refl

same_transition : (number : ℕ) → transition_of (state_of_number number) ≡ transition_named number
same_transition number = by_number (0 == number) (1 == number) (2 == number) (3 == number) (4 == number)

same_stamp : (alarm : AlarmState) (transition : Transition) (stamp : AckStamp) → names_stamp alarm transition stamp ≡ is_stamp alarm transition stamp
same_stamp alarm transition (DateTime stamp) = refl
same_stamp alarm transition _ = refl

stamp_says : (stamped : Bool) (state : Option ServiceError) (verdict : Verdict) → VerdictSays state verdict →
    VerdictSays (if not stamped then Some invalid_time_stamp_error else state) (if not stamped then error_of invalid_time_stamp_error else verdict)
stamp_says true state verdict h = h
stamp_says false state verdict h = refl

alarm_says : (alarm : AlarmState) (transition : Transition) (request : AckRequest) →
    VerdictSays
    (if not (is_stamp alarm transition request.stamp) then Some invalid_time_stamp_error
    else (if not (names_entered (last_entered alarm transition) (state_of_number request.state)) then Some invalid_event_state_error else None))
    (if not (is_stamp alarm transition request.stamp) then error_of invalid_time_stamp_error
    else verdict_with (last_entered alarm transition) (get_or alarm.acked (place_of_transition transition) true) transition (state_of_number request.state))
alarm_says alarm transition request =
    stamp_says (is_stamp alarm transition request.stamp)
    (if not (names_entered (last_entered alarm transition) (state_of_number request.state)) then Some invalid_event_state_error else None)
    (verdict_with (last_entered alarm transition) (get_or alarm.acked (place_of_transition transition) true) transition (state_of_number request.state))
    (state_says (last_entered alarm transition) (get_or alarm.acked (place_of_transition transition) true) transition (state_of_number request.state))

-- the rows of an alarm, in the words of its verdict
abbrev first_of : AlarmState → AckRequest → Bool → Transition → Option ServiceError
first_of alarm request stamped transition =
    if not stamped then Some invalid_time_stamp_error
    else (if not (names_entered (last_entered alarm transition) (state_of_number request.state)) then Some invalid_event_state_error else None)

rows_say : (alarm : AlarmState) (request : AckRequest) → VerdictSays (first_error (alarm_rows alarm request)) (verdict_on alarm (transition_named request.state) request)
rows_say alarm request =
    let verdict = verdict_on alarm (transition_named request.state) request in
    let named = transition_of (state_of_number request.state) in
    subst (λ (stamped : Bool). VerdictSays (first_of alarm request stamped named) verdict) (sym (same_stamp alarm named request.stamp))
    (subst (λ (transition : Transition). VerdictSays (first_of alarm request (is_stamp alarm transition request.stamp) transition) verdict) (sym (same_transition request.state))
    (alarm_says alarm (transition_named request.state) request))

-- ---- the object

undetected : (request : AckRequest) (alarm : AlarmState) (known there : Bool) → known ≡ there → VerdictSays (first_error (rows known false alarm request)) (acknowledgement_verdict (finding_of None there) request)
undetected request alarm true true e = refl
undetected request alarm false false e = refl
undetected request alarm true false e = absurd (true≢false e)
undetected request alarm false true e = absurd (true≢false (sym e))

pub verdict_says : (request : AckRequest) (found : Option DetectedObjectState) (known detected there : Bool) → detected ≡ is_some found → (detected ≡ true → known ≡ true) → known ≡ there →
    VerdictSays (first_error (rows known detected (alarm_or_new found) request)) (acknowledgement_verdict (finding_of found there) request)
verdict_says request (Some found) known detected there d k e =
    subst (λ (b : Bool). VerdictSays (first_error (rows b detected found.alarm request)) (acknowledgement_verdict (finding_of (Some found) there) request)) (sym (k d))
    (subst (λ (b : Bool). VerdictSays (first_error (rows true b found.alarm request)) (acknowledgement_verdict (finding_of (Some found) there) request)) (sym d)
    (rows_say found.alarm request))
verdict_says request None known detected there d k e =
    subst (λ (b : Bool). VerdictSays (first_error (rows known b (alarm_or_new None) request)) (acknowledgement_verdict (finding_of None there) request)) (sym d)
    (undetected request (alarm_or_new None) known there e)
