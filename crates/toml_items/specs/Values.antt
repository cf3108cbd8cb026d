-- What a value of a TOML document says: a number, a flag, a text, or what a text spells.
use Rattle.std.specs.Prelude.{ℕ, ◌+◌, ◌*◌, ◌-◌, ◌==◌, ◌&&◌, nat_lt, ℤ, pos, int_le, unsigned_abs, Bool, true, false, Option, Some, None, option_map, option_and_then, List, [], ◌∷◌, length, if◌then◌else◌}
use Rattle.std.specs.Char.{is_ascii_digit}
use Rattle.toml.specs.Data.{Data, as_integer, as_str}
use Rattle.bac_values.specs.Moments.{first_moment, last_moment}

-- the next step takes what a value says; where it says nothing, nothing comes of it
infixl 10 ◌>>=◌
abbrev pub ◌>>=◌ : {A B : Type 0} → Option A → (A → Option B) → Option B
part >>= next = option_and_then next part

-- the greatest number of 32 bits
abbrev pub last_unsigned : ℕ
last_unsigned = 4294967295

-- a whole number from the one to the other
abbrev pub number_within : ℤ → ℤ → ℤ → Option ℤ
number_within least most number = if int_le least number && int_le number most then Some number else None

abbrev pub whole_in : ℤ → ℤ → Data → Option ℤ
whole_in least most d = as_integer d >>= number_within least most

-- the same, without a sign
abbrev pub unsigned_in : ℕ → ℕ → Data → Option ℕ
unsigned_in least most d = option_map unsigned_abs (whole_in (pos least) (pos most) d)

-- a moment, in milliseconds since 1970
abbrev pub moment_in : Data → Option ℕ
moment_in d = unsigned_in first_moment last_moment d

-- a text of at most 256 octets
abbrev pub short_text : List ℕ → Option (List ℕ)
short_text text = if nat_lt 256 (length text) then None else Some text

abbrev pub text_in : Data → Option (List ℕ)
text_in d = as_str d >>= short_text

-- a digit that is 0 or 1: 48 or 49
abbrev pub flag_of : ℕ → Option Bool
flag_of digit = if digit == 48 then Some false else (if digit == 49 then Some true else None)

-- three such digits
abbrev pub three_flags : List ℕ → Option (List Bool)
three_flags (a ∷ b ∷ c ∷ []) = flag_of a >>= λ x. flag_of b >>= λ y. flag_of c >>= λ z. Some (x ∷ y ∷ z ∷ [])
three_flags _ = None

abbrev pub three_flags_in : Data → Option (List Bool)
three_flags_in d = as_str d >>= three_flags

-- two such digits
abbrev pub two_flags : List ℕ → Option (List Bool)
two_flags (a ∷ b ∷ []) = flag_of a >>= λ x. flag_of b >>= λ y. Some (x ∷ y ∷ [])
two_flags _ = None

abbrev pub two_flags_in : Data → Option (List Bool)
two_flags_in d = as_str d >>= two_flags

-- two digits that spell a number below this one
abbrev pub below : ℕ → ℕ → Option ℕ
below limit number = if nat_lt number limit then Some number else None

abbrev pub two_digits : ℕ → ℕ → ℕ → Option ℕ
two_digits limit a b = if is_ascii_digit a && is_ascii_digit b then below limit ((a - 48) * 10 + (b - 48)) else None

-- the hundredths of a second since midnight that eight digits spell
abbrev pub hundredths : ℕ → ℕ → ℕ → ℕ → ℕ → ℕ → ℕ → ℕ → Option ℕ
hundredths a b c d e f g h = do
  hour ← two_digits 24 a b
  minute ← two_digits 60 c d
  second ← two_digits 60 e f
  hundredth ← two_digits 100 g h
  Some (((hour * 60 + minute) * 60 + second) * 100 + hundredth)

-- a time of day, HH:MM:SS.HH; 58 is a colon, 46 a dot
abbrev pub time_of : List ℕ → Option ℕ
time_of (a ∷ b ∷ first ∷ c ∷ d ∷ second ∷ e ∷ f ∷ third ∷ g ∷ h ∷ []) =
    if first == 58 && second == 58 && third == 46 then hundredths a b c d e f g h else None
time_of _ = None

abbrev pub time_in : Data → Option ℕ
time_in d = as_str d >>= time_of
