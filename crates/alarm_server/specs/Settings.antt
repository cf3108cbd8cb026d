-- The words of a trial, and the object that they describe.
use Rattle.std.specs.Prelude.{ℕ, ◌-◌, ◌^◌, true, Option, Some, None, option_and_then, List, [], ◌∷◌, if◌then◌else◌, codes}
use Rattle.std.specs.Str.{bytes_eq}
use Rattle.bac_values.specs.declared.value.Value.{Value}
use Rattle.algorithm_rules.specs.Facts.{Facts}
use Rattle.script_lines.specs.Number.{signed_of, unsigned_of}
use Rattle.alarm_server.specs.declared.settings.Settings.{Settings}

infixl 10 ◌>>=◌
abbrev ◌>>=◌ : {A B : Type 0} → Option A → (A → Option B) → Option B
o >>= f = option_and_then f o

abbrev pub settings_from : List ℕ → List ℕ → List ℕ → List ℕ → List ℕ → Option Settings
settings_from low high deadband delay normal = do
  low ← signed_of low
  high ← signed_of high
  deadband ← unsigned_of (2 ^ 32 - 1) deadband
  delay ← unsigned_of (2 ^ 32 - 1) delay
  normal ← unsigned_of (2 ^ 32 - 1) normal
  Some (record { low = low; high = high; deadband = deadband; delay = delay; normal = normal })

-- the settings that the words `trial LOW HIGH DEADBAND DELAY NORMAL` give
abbrev pub settings_of : List (List ℕ) → Option Settings
settings_of (trial ∷ low ∷ high ∷ deadband ∷ delay ∷ normal ∷ []) =
    if bytes_eq trial (codes "trial") then settings_from low high deadband delay normal else None
settings_of _ = None

-- what the algorithm sees of an Integer Value with these settings and both limits enabled (ANSI/ASHRAE 135-2020, Integer Value in clause 12, SIGNED_OUT_OF_RANGE in 13.3)
abbrev pub facts_with : Settings → Value → Facts
facts_with s value = record {
  value = value;
  feedback = None;
  alarm_value = None;
  alarm_values = [];
  mask = None;
  low = s.low;
  high = s.high;
  low_enabled = true;
  high_enabled = true;
  deadband = s.deadband;
  time_delay = s.delay;
  time_delay_normal = Some s.normal;
}
