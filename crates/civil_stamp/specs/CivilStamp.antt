-- The octets of a stamp from a date and a time of day, and how far from 1970 they are.
use Rattle.std.specs.Prelude.{ℕ, ◌+◌, ◌/◌, List, [], ◌∷◌, ℤ, pos, ◌-ℤ◌, unsigned_abs}
use Rattle.jiff_core.specs.Calendar.{IsWithin}
use Rattle.jiff_core.specs.Date.{weekday_of}
use Rattle.jiff_core.specs.declared.civil.datetime.DateTime.{DateTime}

abbrev pub civil_octets : DateTime → List ℕ
civil_octets shown =
    unsigned_abs (shown.date.year -ℤ pos 1900) ∷ shown.date.month ∷ shown.date.day ∷ (weekday_of shown.date + 1)
    ∷ shown.time.hour ∷ shown.time.minute ∷ shown.time.second ∷ (shown.time.subsec_nanosecond / 10_000_000) ∷ []

-- a time within some 300 years of 1970, in hundredths of a second
abbrev pub IsNear : ℤ → Type 0
IsNear at = IsWithin 1_000_000_000_000 at

-- the date and time of a stamp are within some 200
abbrev pub IsNearer : ℤ → Type 0
IsNearer shown = IsWithin 700_000_000_000 shown
