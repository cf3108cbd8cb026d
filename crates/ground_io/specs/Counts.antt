-- How a count of faults moves. It is kept in 64 bits.
use Rattle.std.specs.Prelude.{ℕ, ◌+◌, ◌-◌, ◌^◌, ◌≤◌, min}

-- one more, or the last value
abbrev pub next_count : ℕ → ℕ
next_count count = min (count + 1) (2 ^ 64 - 1)

-- the count has risen, or stands at its last value
abbrev pub Rose : ℕ → ℕ → Type 0
Rose before now = min (before + 1) (2 ^ 64 - 1) ≤ now

-- the count never falls, and a fault is answered only where it rose
pub record HasCause (before now : ℕ) (Fault : Type 0) : Type 0 where
  pub later : before ≤ now
  pub rose : Fault → Rose before now
