-- How numbers are spelled: decimal digits, without `+` and without needless zeros. `-0` is none.
use Rattle.std.specs.Prelude.{ℕ, ◌+◌, ◌-◌, ◌*◌, ◌^◌, ◌<◌, Bool, true, false, not, ◌&&◌, ◌==◌, nat_le, Option, Some, None, option_and_then, List, [], ◌∷◌, if◌then◌else◌, ℤ, pos, negsuc, zero, suc}
use Rattle.std.specs.Option.{option_map}
use Rattle.std.specs.Char.{is_ascii_digit}

-- the number that digits spell behind a number
abbrev pub digits_after : ℕ → List ℕ → Option ℕ
digits_after n [] = Some n
digits_after n (c ∷ cs) = if is_ascii_digit c then digits_after (n * 10 + (c - 48)) cs else None

abbrev pub is_nothing : List ℕ → Bool
is_nothing [] = true
is_nothing (c ∷ cs) = false

-- the number that a text spells: at least one digit, and `0` is first only where it stands alone
abbrev pub number_of : List ℕ → Option ℕ
number_of [] = None
number_of (c ∷ cs) = if c == 48 && not (is_nothing cs) then None else digits_after 0 (c ∷ cs)

-- the number, unless it is too great
abbrev pub up_to : ℕ → Option ℕ → Option ℕ
up_to most number = option_and_then (λ n. if nat_le n most then Some n else None) number

-- the number that a text spells, if it is at most this one
abbrev pub unsigned_of : ℕ → List ℕ → Option ℕ
unsigned_of most text = up_to most (number_of text)

-- less than nothing by this much, which isn't 0
abbrev pub below_zero : Option ℕ → Option ℤ
below_zero (Some (suc n)) = Some (negsuc n)
below_zero (Some zero) = None
below_zero None = None

-- the number of 32 bits with a sign that a text spells; 45 is `-`
abbrev pub signed_of : List ℕ → Option ℤ
signed_of [] = None
signed_of (c ∷ cs) = if c == 45 then below_zero (unsigned_of (2 ^ 31) cs) else option_map pos (unsigned_of (2 ^ 31 - 1) (c ∷ cs))

-- a number of 32 bits with a sign
abbrev pub IsSigned : ℤ → Type 0
IsSigned (pos n) = n < 2 ^ 31
IsSigned (negsuc n) = n < 2 ^ 31
