-- A text spells a number exactly where it is how the number is written in decimal.
use Rattle.std.proofs.Common.{◌≡◌, inl, inr, ℕ, ◌+◌, ◌-◌, ◌*◌, ◌^◌, ◌<◌, ◌≤◌, ◌↔◌, ◌==◌, ◌&&◌, true, false, not, Option, Some, None, List, [], ◌∷◌, zero, suc, length, get_or, refl, ap, subst, ◌∙◌, sym, arith, rules}
use Rattle.std.specs.Char.{is_ascii_digit}
use Rattle.std.specs.Str.{all_ascii_digits}
use Rattle.std.specs.Fmt.{decimal}
use Rattle.std.proofs.lemmas.Bool.{cases_Bool}
use Rattle.std.proofs.lemmas.Bool.Decides.{nat_tests}
use Rattle.std.proofs.lemmas.Str.Parse.{IsNumeralModel, numerals_by_fold, tells_all_ascii_digits}
use Rattle.std.proofs.lemmas.Fmt.{digits_decimal, digits_value-decimal, decimal-digits_value, first_decimal, decimal_nonempty, decimal_digit}
use Rattle.script_lines.specs.Number.{digits_after, is_nothing, number_of, up_to, unsigned_of}

-- the number that digits write behind a number
abbrev read_on : ℕ → List ℕ → ℕ
read_on n [] = n
read_on n (c ∷ cs) = read_on (n * 10 + (c - 48)) cs

own : IsNumeralModel (λ ds. all_ascii_digits ds ≡ true) (read_on 0)
own = numerals_by_fold _ tells_all_ascii_digits read_on (search rules)

pub digits_of_decimal : (n : ℕ) → n < 2 ^ 64 → all_ascii_digits (decimal n) ≡ true
digits_of_decimal n small = digits_decimal own n small

digits_read : (n : ℕ) (ds : List ℕ) → all_ascii_digits ds ≡ true → digits_after n ds ≡ Some (read_on n ds)
digits_read n [] h = refl
digits_read n (c ∷ cs) h =
    elim (cases_Bool (is_ascii_digit c)) [
      | inl digit ↦ let rest : all_ascii_digits cs ≡ true = rw digit at h in rw digit (digits_read (n * 10 + (c - 48)) cs rest)
      | inr other ↦ let wrong : false ≡ true = rw other at h in cc
    ]

read_digits : (n m : ℕ) (ds : List ℕ) → digits_after n ds ≡ Some m → (all_ascii_digits ds ≡ true) × (read_on n ds ≡ m)
read_digits n m [] h = (refl, cc)
read_digits n m (c ∷ cs) h =
    elim (cases_Bool (is_ascii_digit c)) [
      | inl digit ↦ let more = read_digits (n * 10 + (c - 48)) m cs (rw digit at h) in (rw digit more.0, more.1)
      | inr other ↦ let wrong : None ≡ Some m = rw other at h in (cc, cc)
    ]

one_zero : (c : ℕ) (cs : List ℕ) → (c == 48 && not (is_nothing cs)) ≡ false → c ≡ 48 → length (c ∷ cs) ≡ 1
one_zero c [] h e = refl
one_zero c (d ∷ cs) h e = let wrong : true ≡ false = rw e at h in cc

pub written_number : (text : List ℕ) (n : ℕ) → number_of text ≡ Some n → n < 2 ^ 64 → text ≡ decimal n
written_number [] n h small = cc
written_number (c ∷ cs) n h small =
    elim (cases_Bool (c == 48 && not (is_nothing cs))) [
      | inl needless ↦ let wrong : None ≡ Some n = rw needless at h in cc
      | inr plain ↦
          let read = read_digits 0 n (c ∷ cs) (rw plain at h) in
          let fits : read_on 0 (c ∷ cs) < 2 ^ 64 = omega (arith, read.1) in
          sym (decimal-digits_value own (c ∷ cs) read.0 (omega arith) (one_zero c cs plain) fits) ∙ ap decimal read.1
    ]

no_zero : (c : ℕ) (cs : List ℕ) → 48 < c → (c == 48 && not (is_nothing cs)) ≡ false
no_zero c cs h = grind (arith, nat_tests)

number_spelled : (text : List ℕ) (n : ℕ) → text ≡ decimal (suc n) → suc n < 2 ^ 64 → number_of text ≡ Some (suc n)
number_spelled [] n e small = let some = decimal_nonempty (suc n) small in absurd (omega (arith, ap length e))
number_spelled (c ∷ cs) n e small =
    let first : 48 < c = subst (λ ds. 48 < get_or ds 0 0) (sym e) (first_decimal (suc n) (omega arith) small) in
    let digits : all_ascii_digits (c ∷ cs) ≡ true = ap all_ascii_digits e ∙ digits_decimal own (suc n) small in
    rw (no_zero c cs first) (digits_read 0 (c ∷ cs) digits ∙ ap Some (ap (read_on 0) e ∙ digits_value-decimal own (suc n) small))

pub number_written : (text : List ℕ) (n : ℕ) → text ≡ decimal n → n < 2 ^ 64 → number_of text ≡ Some n
number_written text zero e small = rw (e, decimal_digit 0 (omega arith)) refl
number_written text (suc n) e small = number_spelled text n e small

none_some : (n : ℕ) → None ≡ Some n → ⊥
none_some n h = cc

within : (most n : ℕ) → n ≤ most → up_to most (Some n) ≡ Some n
within most n h = grind (arith, nat_tests)

is_within : (most m n : ℕ) → up_to most (Some m) ≡ Some n → (m ≡ n) × (n ≤ most)
is_within most m n h = (grind (arith, nat_tests), grind (arith, nat_tests))

from_up_to : (most n : ℕ) (number : Option ℕ) → up_to most number ≡ Some n → (number ≡ Some n) × (n ≤ most)
from_up_to most n None h = absurd (none_some n h)
from_up_to most n (Some m) h = let is = is_within most m n h in (ap Some is.0, is.1)

-- the number that is spelled, where it is at most this one
pub spelled : (most n : ℕ) (text : List ℕ) (result : Option ℕ) → most < 2 ^ 64 → result ≡ unsigned_of most text → (result ≡ Some n) ↔ ((text ≡ decimal n) × (n ≤ most))
spelled most n text result small value = (
  λ found. let is = from_up_to most n (number_of text) (sym value ∙ found) in (written_number text n is.0 (omega arith), is.1),
  λ h. value ∙ (ap (up_to most) (number_written text n h.0 (omega (arith, h.1))) ∙ within most n h.1),
)
