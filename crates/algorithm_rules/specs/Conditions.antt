-- When the condition of a rule holds, by which key it is told, and how long it must last. Numbers are whole and without bounds.
use Rattle.std.specs.Prelude.{ℕ, ℤ, pos, ◌+ℤ◌, ◌-ℤ◌, int_lt, int_le, Bool, false, not, ◌&&◌, Option, Some, None, is_some, is_none, unwrap_or, if◌then◌else◌}
use Rattle.bac_values.specs.declared.value.Value.{Value}
use Rattle.bac_values.specs.declared.value.Value.TheVariants.{Unsigned, Signed}
use Rattle.algorithm_rules.specs.declared.table.Rule.{Rule}
use Rattle.algorithm_rules.specs.declared.table.Test.{Test}
use Rattle.algorithm_rules.specs.declared.table.Test.TheVariants.{SomeMatch, NoMatch, OtherMatch, FeedbackDiffers, FeedbackEquals, AboveEnabledHigh, BelowEnabledLow, HighDisabled, LowDisabled, BelowHighLessDeadband, AboveLowPlusDeadband, AboveHigh, BelowLow, Within}
use Rattle.algorithm_rules.specs.declared.table.Waiting.{Waiting}
use Rattle.algorithm_rules.specs.declared.table.Waiting.TheVariants.{TimeDelay, NormalDelay, AtOnce}
use Rattle.algorithm_rules.specs.Facts.{Facts}
use Rattle.algorithm_rules.specs.Matches.{matched_in}
use Rattle.algorithm_rules.specs.SameValue.{feedback_equals, feedback_differs}

-- the number that a value is, if it is one
abbrev pub number_in : Value → Option ℤ
number_in (Signed number) = Some number
number_in (Unsigned number) = Some (pos number)
number_in _ = None

-- whether there is a number, and it is above a bound
abbrev pub is_above : ℤ → Option ℤ → Bool
is_above bound (Some number) = int_lt bound number
is_above bound None = false

-- whether there is a number, and it is below a bound
abbrev pub is_below : ℤ → Option ℤ → Bool
is_below bound (Some number) = int_lt number bound
is_below bound None = false

-- whether there is a number, and it is neither below the one bound nor above the other
abbrev pub is_within : ℤ → ℤ → Option ℤ → Bool
is_within low high (Some number) = int_le low number && int_le number high
is_within low high None = false

-- whether the condition of a rule holds
abbrev pub is_met : Test → Facts → Bool
is_met SomeMatch f = is_some (matched_in f)
is_met NoMatch f = is_none (matched_in f)
is_met OtherMatch f = is_some (matched_in f)
is_met FeedbackDiffers f = feedback_differs f.feedback f.value
is_met FeedbackEquals f = feedback_equals f.feedback f.value
is_met AboveEnabledHigh f = f.high_enabled && is_above f.high (number_in f.value)
is_met BelowEnabledLow f = f.low_enabled && is_below f.low (number_in f.value)
is_met HighDisabled f = not f.high_enabled
is_met LowDisabled f = not f.low_enabled
is_met BelowHighLessDeadband f = is_below (f.high -ℤ pos f.deadband) (number_in f.value)
is_met AboveLowPlusDeadband f = is_above (f.low +ℤ pos f.deadband) (number_in f.value)
is_met AboveHigh f = is_above f.high (number_in f.value)
is_met BelowLow f = is_below f.low (number_in f.value)
is_met Within f = is_within f.low f.high (number_in f.value)

-- a rule's key: for the rule on another match the position of the first match, else 0 where the condition holds
abbrev pub key_by : Test → Facts → Option ℕ
key_by OtherMatch f = matched_in f
key_by test f = if is_met test f then Some 0 else None

abbrev pub key_of : Rule → Facts → Option ℕ
key_of rule f = key_by rule.test f

-- the seconds for which a condition must last; without a normal delay of its own, an object has one delay for both
abbrev pub delay_by : Waiting → Facts → ℕ
delay_by TimeDelay f = f.time_delay
delay_by NormalDelay f = unwrap_or f.time_delay_normal f.time_delay
delay_by AtOnce f = 0

abbrev pub delay_of : Rule → Facts → ℕ
delay_of rule f = delay_by rule.wait f
