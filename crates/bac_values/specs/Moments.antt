-- Moments: whole milliseconds since 1970-01-01T00:00:00Z, within the years 2000 to 2099.
use Rattle.std.specs.Prelude.{ℕ, ◌≤◌, List, replicate}

abbrev pub first_moment : ℕ
first_moment = 946684800000

abbrev pub last_moment : ℕ
last_moment = 4102444799999

-- the octets of a Date and a Time of which nothing is specified (20.2.12 and 20.2.13), as of what has never been
abbrev pub unspecified_octets : List ℕ
unspecified_octets = replicate 8 255

-- a moment in range
abbrev pub IsMoment : ℕ → Type 0
IsMoment moment = (first_moment ≤ moment) × (moment ≤ last_moment)
