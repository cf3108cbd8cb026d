-- When an object's condition holds: the rules of the event algorithms (13.3), and the reliability by the fault algorithms (13.4).
use Rattle.std.specs.Prelude.{ℕ, ℤ, pos, Bool, true, false, ◌==◌, ◌&&◌, ◌||◌, not, int_lt, ◌+ℤ◌, ◌-ℤ◌, if◌then◌else◌}
use Rattle.std.specs.Prelude.{Option, Some, None, is_some, is_none, option_and_then, option_to_list, unwrap_or}
use Rattle.std.specs.Prelude.{List, [], ◌∷◌, ◌++◌, position, find, bytes_eq, take, length}
use Rattle.profile.specs.Numbers.{Identifier, is, maybe, Value, Null, Truth, Unsigned, Signed, Text, Bits, Enumerated, Named}
use Rattle.profile.specs.Numbers.{EventState, Normal, Offnormal, HighLimit, LowLimit, Algorithm}
use Rattle.profile.specs.Numbers.{CommandFailure, UnsignedRange, SignedOutOfRange, UnsignedOutOfRange}
use Rattle.profile.specs.Numbers.{BACnetReliability, NoFaultDetected, OverRange, UnderRange, MultiStateFault, MonitoredObjectFault}
use Rattle.profile.specs.Numbers.{is_reliable}
use Rattle.profile.specs.Sites.{Detection, Object, object_of}

-- what an algorithm looks at (13.3): the settings, the monitored value, and the feedback, where there is one
pub record Seen : Type 0 where
  pub settings : Detection
  pub value : Value
  pub feedback : Option Value

-- ---- which values match an alarm value or a fault value

-- whether a text occurs in another one, at its beginning or anywhere behind it
abbrev pub occurs_in : List ℕ → List ℕ → Bool
occurs_in part [] = length part == 0
occurs_in part (octet ∷ octets) = bytes_eq part (take (length part) (octet ∷ octets)) || occurs_in part octets

-- an alarm text that isn't empty matches each text in which it occurs; the empty one matches the empty text alone (13.3)
abbrev pub text_matches : List ℕ → List ℕ → Bool
text_matches [] text = length text == 0
text_matches (octet ∷ octets) text = occurs_in (octet ∷ octets) text

abbrev pub same : Bool → Bool → Bool
same a b = if a then b else not b

-- strings of bits match that have one length, and the same bit wherever the mask has one that is set (13.3); without a mask all count
abbrev pub bits_match : Option (List Bool) → List Bool → List Bool → Bool
bits_match mask [] [] = true
bits_match None (a ∷ alarm) (b ∷ bits) = same a b && bits_match None alarm bits
bits_match (Some []) alarm bits = length alarm == length bits
bits_match (Some (counts ∷ mask)) (a ∷ alarm) (b ∷ bits) = (not counts || same a b) && bits_match (Some mask) alarm bits
bits_match mask alarm bits = false

-- whether a value matches an alarm value or a fault value; two of different datatypes never match (13.3)
abbrev pub matches : Option (List Bool) → Value → Value → Bool
matches mask (Truth a) (Truth b) = same a b
matches mask (Unsigned a) (Unsigned b) = a == b
matches mask (Signed a) (Signed b) = not (int_lt a b) && not (int_lt b a)
matches mask (Enumerated a) (Enumerated b) = a == b
matches mask (Bits a) (Bits b) = bits_match mask a b
matches mask (Text a) (Text b) = text_matches a b
matches mask a b = false

-- whether a feedback is equal to a value: texts as a whole, and any other two that are one (13.3)
abbrev pub equal : Value → Value → Bool
equal Null Null = true
equal (Text a) (Text b) = bytes_eq a b
equal (Named a) (Named b) = is a b
equal a b = matches None a b

-- the position of the first alarm value that matches
abbrev pub first_match : Seen → Option ℕ
first_match seen = position (λ alarm. matches seen.settings.bit_mask alarm seen.value) seen.settings.alarm_values

-- ---- the rules

-- for how long a condition has to last: Time_Delay, Time_Delay_Normal, or no time (13.3)
pub data Delay : Type 0 where
  TimeDelay TimeDelayNormal NoDelay : Delay

-- in seconds; where there is no Time_Delay_Normal, Time_Delay counts in its place
abbrev pub seconds : Delay → Detection → ℕ
seconds TimeDelay settings = settings.time_delay
seconds TimeDelayNormal settings = unwrap_or settings.time_delay_normal settings.time_delay
seconds NoDelay settings = 0

-- A rule: which state it leads to, the key of its condition, which is none where that doesn't hold, and the delay. The key may depend on
-- the alarm value by which the present state was entered, the cause.
pub record Rule : Type 0 where
  pub target : EventState
  pub key : Option ℕ → Seen → Option ℕ
  pub delay : Delay

-- a rule with a condition that holds or doesn't
abbrev pub to : EventState → (Seen → Bool) → Delay → Rule
to target condition delay = record { target = target; key = λ cause seen. if condition seen then Some 0 else None; delay = delay }

-- the key of the rule on another alarm value than the cause: the position of that value
abbrev pub another : Option ℕ → Seen → Option ℕ
another cause seen = option_and_then (λ n. if maybe cause false (λ entered. entered == n) then None else Some n) (first_match seen)

-- the number in a value, where it is one, and whether it is above or below a limit; the limit itself is neither
abbrev pub number_in : Value → Option ℤ
number_in (Signed number) = Some number
number_in (Unsigned number) = Some (pos number)
number_in value = None

abbrev pub above : ℤ → Value → Bool
above limit value = maybe (number_in value) false (λ number. int_lt limit number)

abbrev pub below : ℤ → Value → Bool
below limit value = maybe (number_in value) false (λ number. int_lt number limit)

-- CHANGE_OF_BITSTRING, CHANGE_OF_STATE, CHANGE_OF_CHARACTERSTRING (13.3)
abbrev pub change_rules : EventState → List Rule
change_rules Normal = to Offnormal (λ seen. is_some (first_match seen)) TimeDelay ∷ []
change_rules Offnormal =
    to Normal (λ seen. is_none (first_match seen)) TimeDelayNormal ∷ record { target = Offnormal; key = another; delay = TimeDelay } ∷ []
change_rules state = []

-- COMMAND_FAILURE (13.3)
abbrev pub command_rules : EventState → List Rule
command_rules Normal = to Offnormal (λ seen. maybe seen.feedback false (λ feedback. not (equal feedback seen.value))) TimeDelay ∷ []
command_rules Offnormal = to Normal (λ seen. maybe seen.feedback false (λ feedback. equal feedback seen.value)) TimeDelayNormal ∷ []
command_rules state = []

-- SIGNED_OUT_OF_RANGE, UNSIGNED_OUT_OF_RANGE (13.3): above the high limit or below the low one, where these are enabled
abbrev pub too_high : Seen → Bool
too_high seen = seen.settings.high_limit_enable && above seen.settings.high_limit seen.value

abbrev pub too_low : Seen → Bool
too_low seen = seen.settings.low_limit_enable && below seen.settings.low_limit seen.value

abbrev pub limit_rules : EventState → List Rule
limit_rules Normal = to HighLimit too_high TimeDelay ∷ to LowLimit too_low TimeDelay ∷ []
limit_rules HighLimit =
    to Normal (λ seen. not seen.settings.high_limit_enable) NoDelay
    ∷ to LowLimit too_low TimeDelay
    ∷ to Normal (λ seen. below (seen.settings.high_limit -ℤ pos seen.settings.deadband) seen.value) TimeDelayNormal ∷ []
limit_rules LowLimit =
    to Normal (λ seen. not seen.settings.low_limit_enable) NoDelay
    ∷ to HighLimit too_high TimeDelay
    ∷ to Normal (λ seen. above (seen.settings.low_limit +ℤ pos seen.settings.deadband) seen.value) TimeDelayNormal ∷ []
limit_rules state = []

-- UNSIGNED_RANGE (13.3): both limits count, and there is no deadband
abbrev pub over : Seen → Bool
over seen = above seen.settings.high_limit seen.value

abbrev pub under : Seen → Bool
under seen = below seen.settings.low_limit seen.value

abbrev pub within : Seen → Bool
within seen = is_some (number_in seen.value) && not (over seen) && not (under seen)

abbrev pub range_rules : EventState → List Rule
range_rules Normal = to HighLimit over TimeDelay ∷ to LowLimit under TimeDelay ∷ []
range_rules HighLimit = to LowLimit under TimeDelay ∷ to Normal within TimeDelayNormal ∷ []
range_rules LowLimit = to HighLimit over TimeDelay ∷ to Normal within TimeDelayNormal ∷ []
range_rules state = []

-- the rules of each algorithm in each state, in the order in which they are tried (13.3)
abbrev pub rules_of : Algorithm → EventState → List Rule
rules_of CommandFailure state = command_rules state
rules_of SignedOutOfRange state = limit_rules state
rules_of UnsignedOutOfRange state = limit_rules state
rules_of UnsignedRange state = range_rules state
rules_of of_change state = change_rules state

-- ---- the reliability (13.4)

-- of a value by itself: one of the fault values (FAULT_STATE, FAULT_CHARACTERSTRING), or outside of its fault limits (FAULT_OUT_OF_RANGE)
abbrev pub fault_of : Object → Value → BACnetReliability
fault_of object value =
    if is_some (find (λ fault. matches None fault value) object.fault_values) then MultiStateFault
    else (if maybe object.fault_high_limit false (λ limit. above limit value) then OverRange
    else (if maybe object.fault_low_limit false (λ limit. below limit value) then UnderRange else NoFaultDetected))

-- of a value object: what the field tells counts before the value; nothing does where Reliability_Evaluation_Inhibit is set
abbrev pub own_reliability : Object → BACnetReliability
own_reliability object =
    if object.reliability_evaluation_inhibit then NoFaultDetected
    else (if is_reliable object.field_reliability then maybe object.value NoFaultDetected (fault_of object) else object.field_reliability)

-- of an object among others: an enrollment has a fault where what it monitors or its feedback has one (12.12)
abbrev pub reliability_of : List Object → Object → BACnetReliability
reliability_of objects object =
    let watched = maybe object.detection [] (λ settings. option_to_list settings.monitored ++ option_to_list settings.feedback) in
    let faulty = λ (id : Identifier). maybe (object_of objects id) false (λ other. not (is_reliable (own_reliability other))) in
    if length watched == 0 then own_reliability object
    else (if is_some (find faulty watched) then MonitoredObjectFault else NoFaultDetected)
