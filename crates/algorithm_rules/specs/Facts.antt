-- What the rules look at, apart from where it lies in memory.
use Rattle.std.specs.Prelude.{ℕ, Bool, false, ℤ, Option, List, slice_index_or}
use Rattle.std.specs.Option.{option_copied}
use Rattle.bac_values.specs.declared.value.Value.{Value}
use Rattle.bac_values.specs.BitString.{BitsData}
use Rattle.algorithm_rules.specs.declared.snapshot.Snapshot.{Snapshot}

-- an object's values at one moment, and its settings
pub record Facts : Type 0 where
  pub value : Value
  pub feedback : Option Value
  pub alarm_value : Option Value
  pub alarm_values : List Value
  pub mask : Option BitsData
  pub low : ℤ
  pub high : ℤ
  pub low_enabled : Bool
  pub high_enabled : Bool
  pub deadband : ℕ
  pub time_delay : ℕ
  pub time_delay_normal : Option ℕ

-- the facts of a snapshot; of the two flags on limits the low limit's comes first
abbrev pub facts_of : Snapshot → Facts
facts_of s = record {
  value = s.value.now;
  feedback = option_copied s.feedback;
  alarm_value = option_copied s.alarm_value;
  alarm_values = s.alarm_values.now;
  mask = s.mask;
  low = s.low;
  high = s.high;
  low_enabled = slice_index_or s.limit_enable 0 false;
  high_enabled = slice_index_or s.limit_enable 1 false;
  deadband = s.deadband;
  time_delay = s.time_delay;
  time_delay_normal = s.time_delay_normal;
}
