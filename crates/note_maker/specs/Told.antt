-- What a notification tells of a transition (ANSI/ASHRAE 135-2020, 13.3, 13.4 and clause 21, BACnetNotificationParameters).
use Rattle.std.specs.Prelude.{ℕ, ◌^◌, nat_lt, ◌==◌, ◌&&◌, ◌⊎◌, ℤ, pos, negsuc, Bool, true, false, not, if◌then◌else◌, Option, Some, None, List, slice_get, option_and_then}
use Rattle.bac_values.specs.Reliabilities.{number_of_reliability}
use Rattle.bac_values.specs.declared.event_state.EventState.{EventState}
use Rattle.bac_values.specs.declared.event_state.EventState.TheVariants.{Normal, Fault, Offnormal, HighLimit, LowLimit}
use Rattle.bac_values.specs.declared.reliability.Reliability.{Reliability}
use Rattle.bac_values.specs.declared.status_flags.StatusFlags.{StatusFlags}
use Rattle.bac_values.specs.declared.value.Value.{Value}
use Rattle.bac_values.specs.declared.value.Value.TheVariants as values
use Rattle.algorithm_rules.specs.declared.table.Algorithm.{Algorithm}
use Rattle.algorithm_rules.specs.declared.table.Algorithm.TheVariants.{ChangeOfBitstring, ChangeOfState, CommandFailure, UnsignedRange, SignedOutOfRange, UnsignedOutOfRange, ChangeOfCharacterstring}
use Rattle.algorithm_rules.specs.Facts.{Facts}
use Rattle.event_machine.specs.declared.moves.Move.{Move}
use Rattle.bac_values.specs.EventStates.{is_normal}
use Rattle.event_machine.specs.Detection.{cause_on}
use Rattle.event_services.specs.declared.notification.EventValues.{EventValues}
use Rattle.event_services.specs.declared.notification.EventValues.TheVariants as told

-- Status_Flags in a state with a reliability: in-alarm unless the state is NORMAL, fault unless the reliability is NO_FAULT_DETECTED, and never overridden
abbrev pub flags_in : EventState → Reliability → Bool → StatusFlags
flags_in state reliability out_of_service = record {
  in_alarm = not (is_normal state);
  fault = not (number_of_reliability reliability == 0);
  overridden = false;
  out_of_service = out_of_service;
}

-- a value that one element can tell: a date with a time is two, and what was read over is none
abbrev pub one_value : Value → Option Value
one_value (values.DateTime stamp) = None
one_value (values.Opaque tag why) = None
one_value values.Null = Some values.Null
one_value (values.Bool b) = Some (values.Bool b)
one_value (values.Unsigned n) = Some (values.Unsigned n)
one_value (values.Signed z) = Some (values.Signed z)
one_value (values.Text text) = Some (values.Text text)
one_value (values.Bits string) = Some (values.Bits string)
one_value (values.Enumerated n) = Some (values.Enumerated n)
one_value (values.Object id) = Some (values.Object id)

-- ---- limits

-- the state whose limit is told: the one that is entered, and on a return to NORMAL the one that is left
abbrev pub told_state : Move → EventState
told_state made = if is_normal made.to then made.from else made.to

-- the limit that a value exceeds in a state
abbrev pub limit_in : EventState → Facts → Option ℤ
limit_in HighLimit f = Some f.high
limit_in LowLimit f = Some f.low
limit_in Normal f = None
limit_in Fault f = None
limit_in Offnormal f = None

abbrev pub exceeded_limit : Move → Facts → Option ℤ
exceeded_limit made f = limit_in (told_state made) f

-- a number of 32 bits without a sign, and one with it
abbrev pub as_unsigned : ℤ → Option ℕ
as_unsigned (pos n) = if nat_lt n (2 ^ 32) then Some n else None
as_unsigned (negsuc n) = None

abbrev pub as_signed : ℤ → Option ℤ
as_signed (pos n) = if nat_lt n (2 ^ 31) then Some (pos n) else None
as_signed (negsuc n) = if nat_lt n (2 ^ 31) then Some (negsuc n) else None

-- ---- alarm texts

abbrev pub text_in : Value → Option (List ℕ)
text_in (values.Text text) = Some text
text_in _ = None

-- the alarm value that is told: on entering OFFNORMAL the first that matches, else the one by which OFFNORMAL was last entered
abbrev pub told_alarm : Move → Facts → Option ℕ → Option Value
told_alarm made f cause = option_and_then (λ place. slice_get f.alarm_values place) (cause_on made.to f cause)

-- ---- by algorithm

abbrev pub bitstring_told : Value → StatusFlags → Option EventValues
bitstring_told (values.Bits string) flags = Some (told.Bitstring string flags)
bitstring_told _ flags = None

-- a binary value is an enumeration, and a multi-state value a number
abbrev pub state_told : Value → StatusFlags → Option EventValues
state_told (values.Enumerated n) flags = Some (told.State true n flags)
state_told (values.Unsigned n) flags = Some (told.State false n flags)
state_told _ flags = None

abbrev pub command_told : Option Value → Option Value → StatusFlags → Option EventValues
command_told (Some command) (Some feedback) flags = Some (told.Command command flags feedback)
command_told _ _ flags = None

abbrev pub range_told : Value → Option ℕ → StatusFlags → Option EventValues
range_told (values.Unsigned n) (Some limit) flags = Some (told.UnsignedRange n flags limit)
range_told _ _ flags = None

abbrev pub signed_told : Value → ℕ → Option ℤ → StatusFlags → Option EventValues
signed_told (values.Signed z) deadband (Some limit) flags = Some (told.SignedOutOfRange z flags deadband limit)
signed_told _ deadband _ flags = None

abbrev pub unsigned_told : Value → ℕ → Option ℕ → StatusFlags → Option EventValues
unsigned_told (values.Unsigned n) deadband (Some limit) flags = Some (told.UnsignedOutOfRange n flags deadband limit)
unsigned_told _ deadband _ flags = None

abbrev pub text_told : Value → Option (List ℕ) → StatusFlags → Option EventValues
text_told (values.Text text) (Some alarm) flags = Some (told.Characterstring text flags alarm)
text_told _ _ flags = None

-- What is told of a transition that the algorithm made, or the inhibition: by the algorithm, from what it sees at the point. There is none where the value isn't of the algorithm's type, or has no such limit or alarm value.
abbrev pub algorithm_values : Algorithm → Facts → Move → Option ℕ → StatusFlags → Option EventValues
algorithm_values ChangeOfBitstring f made cause flags = bitstring_told f.value flags
algorithm_values ChangeOfState f made cause flags = state_told f.value flags
algorithm_values CommandFailure f made cause flags = command_told (one_value f.value) (option_and_then one_value f.feedback) flags
algorithm_values UnsignedRange f made cause flags = range_told f.value (option_and_then as_unsigned (exceeded_limit made f)) flags
algorithm_values SignedOutOfRange f made cause flags = signed_told f.value f.deadband (option_and_then as_signed (exceeded_limit made f)) flags
algorithm_values UnsignedOutOfRange f made cause flags = unsigned_told f.value f.deadband (option_and_then as_unsigned (exceeded_limit made f)) flags
algorithm_values ChangeOfCharacterstring f made cause flags = text_told f.value (option_and_then text_in (told_alarm made f cause)) flags

-- What is told of a transition that the reliability made: the reliability, and the Present_Value of an object that has one.
abbrev pub reliability_values : Reliability → StatusFlags → Option Value → EventValues
reliability_values reliability flags present_value = told.Reliability reliability flags (option_and_then one_value present_value)

-- What is told of a transition at its point, where the state that it left had this cause.
abbrev pub values_at : Algorithm → Facts → Move → Option ℕ → Reliability → StatusFlags → Option Value → Option EventValues
values_at algorithm f made cause reliability flags present_value =
    if made.by_fault then Some (reliability_values reliability flags present_value)
    else algorithm_values algorithm f made cause flags
