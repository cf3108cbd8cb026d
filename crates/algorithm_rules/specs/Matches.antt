-- When an alarm value matches the value that is monitored.
use Rattle.std.specs.Prelude.{ℕ, Bool, true, false, ◌==◌, nat_eq, ◌&&◌, ◌||◌, bit_and, Option, Some, None, List, [], ◌∷◌, position}
use Rattle.std.specs.Bool.{beq}
use Rattle.std.specs.List.{starts_with}
use Rattle.std.specs.Ordering.{int_eq}
use Rattle.bac_values.specs.declared.value.Value.{Value}
use Rattle.bac_values.specs.declared.value.Value.TheVariants.{Bool as Truth, Unsigned, Signed, Enumerated, Bits, Text}
use Rattle.bac_values.specs.BitString.{BitsData}
use Rattle.algorithm_rules.specs.Facts.{Facts}

-- a text occurs in another that begins with it, and in one behind whose first octet it occurs
abbrev pub occurs_in : List ℕ → List ℕ → Bool
occurs_in part [] = starts_with nat_eq [] part
occurs_in part (octet ∷ octets) = starts_with nat_eq (octet ∷ octets) part || occurs_in part octets

-- an alarm text that isn't empty matches each text that it occurs in, and the empty one the empty text alone
abbrev pub matches_text : List ℕ → List ℕ → Bool
matches_text [] [] = true
matches_text [] (octet ∷ octets) = false
matches_text (octet ∷ octets) value = occurs_in (octet ∷ octets) value

-- strings of bits match where they have one length, and equal bits where the mask has them; without a mask all bits count
abbrev pub matches_bits : Option BitsData → BitsData → BitsData → Bool
matches_bits None alarm value = alarm.size == value.size && alarm.bits == value.bits
matches_bits (Some mask) alarm value = alarm.size == value.size && bit_and alarm.bits mask.bits == bit_and value.bits mask.bits

-- whether an alarm value matches a value; numbers, enumerations and truth values match where they are equal
abbrev pub matches : Option BitsData → Value → Value → Bool
matches mask (Truth alarm) (Truth value) = beq alarm value
matches mask (Unsigned alarm) (Unsigned value) = alarm == value
matches mask (Signed alarm) (Signed value) = int_eq alarm value
matches mask (Enumerated alarm) (Enumerated value) = alarm == value
matches mask (Bits alarm) (Bits value) = matches_bits mask alarm value
matches mask (Text alarm) (Text value) = matches_text alarm value
matches mask _ _ = false

-- the alarm values that a value is compared with, in their order: a binary object's one, or the list of every other object
abbrev pub alarms_among : Option Value → List Value → List Value
alarms_among (Some alarm) alarms = alarm ∷ []
alarms_among None alarms = alarms

-- the position of the first alarm value that matches
abbrev pub matched_in : Facts → Option ℕ
matched_in f = position (λ alarm. matches f.mask alarm f.value) (alarms_among f.alarm_value f.alarm_values)
