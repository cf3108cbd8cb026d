-- A text spells a number with a sign exactly where it is how the number is written in decimal.
use Rattle.std.proofs.Common.{◌≡◌, ◌↔◌, inl, inr, ℕ, ◌-◌, ◌^◌, ◌<◌, ◌==◌, true, false, Option, Some, None, List, [], ◌∷◌, zero, suc, length, refl, ap, ◌∙◌, sym, arith, ℤ, pos, negsuc}
use Rattle.std.specs.Fmt.{decimal, signed_decimal}
use Rattle.std.specs.Option.{option_map}
use Rattle.std.specs.Str.{all_ascii_digits}
use Rattle.std.proofs.lemmas.Bool.{cases_Bool}
use Rattle.std.proofs.lemmas.Bool.Decides.{nat_tests}
use Rattle.std.proofs.lemmas.Fmt.{decimal_nonempty}
use Rattle.script_lines.specs.Number.{unsigned_of, signed_of, below_zero, IsSigned}
use Rattle.script_lines.proofs.Decimal.{spelled, digits_of_decimal}

from_pos : (n : ℕ) (o : Option ℕ) → option_map pos o ≡ Some (pos n) → o ≡ Some n
from_pos n None h = let wrong : None ≡ Some (pos n) = h in cc
from_pos n (Some m) h = let same : Some (pos m) ≡ Some (pos n) = h in cc

not_pos : (n : ℕ) (o : Option ℕ) → option_map pos o ≡ Some (negsuc n) → ⊥
not_pos n None h = cc
not_pos n (Some m) h = cc

from_below : (n : ℕ) (o : Option ℕ) → below_zero o ≡ Some (negsuc n) → o ≡ Some (suc n)
from_below n None h = let wrong : None ≡ Some (negsuc n) = h in cc
from_below n (Some zero) h = let wrong : None ≡ Some (negsuc n) = h in cc
from_below n (Some (suc m)) h = let same : Some (negsuc m) ≡ Some (negsuc n) = h in cc

not_below : (n : ℕ) (o : Option ℕ) → below_zero o ≡ Some (pos n) → ⊥
not_below n None h = cc
not_below n (Some zero) h = cc
not_below n (Some (suc m)) h = cc

none_signed : (z : ℤ) → None ≡ Some z → ⊥
none_signed z h = cc

is_minus : (c : ℕ) → (c == 45) ≡ true → c ≡ 45
is_minus c e = grind (arith, nat_tests)

no_minus : (c : ℕ) (cs : List ℕ) (n : ℕ) → c ∷ cs ≡ decimal n → n < 2 ^ 64 → (c == 45) ≡ true → ⊥
no_minus c cs n e small minus =
    let digits : all_ascii_digits (c ∷ cs) ≡ true = ap all_ascii_digits e ∙ digits_of_decimal n small in
    let wrong : false ≡ true = rw (is_minus c minus) at digits in
    cc

no_text : (n : ℕ) → n < 2 ^ 64 → [] ≡ decimal n → ⊥
no_text n small e = let some = decimal_nonempty n small in let none : 0 ≡ length (decimal n) = ap length e in omega arith

spelled_pos : (n : ℕ) (text : List ℕ) → (signed_of text ≡ Some (pos n)) ↔ ((text ≡ decimal n) × (n < 2 ^ 31))
spelled_pos n [] = (λ h. absurd (none_signed (pos n) h), λ h. absurd (no_text n (omega (arith, h.1)) h.0))
spelled_pos n (c ∷ cs) =
    let law = spelled (2 ^ 31 - 1) n (c ∷ cs) (unsigned_of (2 ^ 31 - 1) (c ∷ cs)) (omega arith) refl in
    elim (cases_Bool (c == 45)) [
      | inl minus ↦ rw minus (
        λ h. absurd (not_below n (unsigned_of (2 ^ 31) cs) h),
        λ h. absurd (no_minus c cs n h.0 (omega (arith, h.1)) minus),
      )
      | inr other ↦ rw other (
        λ h. let is = law.0 (from_pos n (unsigned_of (2 ^ 31 - 1) (c ∷ cs)) h) in (is.0, omega (arith, is.1)),
        λ h. ap (option_map pos) (law.1 (h.0, omega (arith, h.1))),
      )
    ]

spelled_negative : (n : ℕ) (text : List ℕ) → (signed_of text ≡ Some (negsuc n)) ↔ ((text ≡ 45 ∷ decimal (suc n)) × (n < 2 ^ 31))
spelled_negative n [] = (λ h. absurd (none_signed (negsuc n) h), λ h. let wrong : [] ≡ 45 ∷ decimal (suc n) = h.0 in cc)
spelled_negative n (c ∷ cs) =
    let law = spelled (2 ^ 31) (suc n) cs (unsigned_of (2 ^ 31) cs) (omega arith) refl in
    elim (cases_Bool (c == 45)) [
      | inl minus ↦ rw minus (
        λ h. let is = law.0 (from_below n (unsigned_of (2 ^ 31) cs) h) in (rw (is_minus c minus, is.0) refl, omega (arith, is.1)),
        λ h. let same : c ∷ cs ≡ 45 ∷ decimal (suc n) = h.0 in let rest : cs ≡ decimal (suc n) = cc in ap below_zero (law.1 (rest, omega (arith, h.1))),
      )
      | inr other ↦ rw other (
        λ h. absurd (not_pos n (unsigned_of (2 ^ 31 - 1) (c ∷ cs)) h),
        λ h. let same : c ∷ cs ≡ 45 ∷ decimal (suc n) = h.0 in let first : c ≡ 45 = cc in let wrong : true ≡ false = rw first at other in cc,
      )
    ]

-- the number that is spelled, where it has 32 bits
pub spelled_signed : (z : ℤ) (text : List ℕ) (result : Option ℤ) → result ≡ signed_of text → (result ≡ Some z) ↔ ((text ≡ signed_decimal z) × IsSigned z)
spelled_signed (pos n) text result value = let law = spelled_pos n text in (λ h. law.0 (sym value ∙ h), λ h. value ∙ law.1 h)
spelled_signed (negsuc n) text result value = let law = spelled_negative n text in (λ h. law.0 (sym value ∙ h), λ h. value ∙ law.1 h)
