-- What stands before and behind a mark, as the colon of an address.
use Rattle.std.proofs.Common.{◌≡◌, ◌⊎◌, inl, inr, ℕ, ◌^◌, ◌<◌, ◌≤◌, ◌==◌, ◌&&◌, Bool, true, false, not, Option, Some, None, List, [], ◌∷◌, ◌++◌, refl, ap, ◌∙◌, sym, arith}
use Rattle.std.specs.Char.{is_ascii_digit}
use Rattle.std.specs.Str.{all_ascii_digits}
use Rattle.std.specs.Fmt.{decimal}
use Rattle.std.proofs.lemmas.Bool.{cases_Bool}
use Rattle.std.proofs.lemmas.Bool.Decides.{nat_tests}
use Rattle.script_lines.specs.Number.{unsigned_of}
use Rattle.script_lines.specs.SessionLine.{◌>>=◌, before, behind}
use Rattle.script_lines.proofs.FirstLine.{take_next, drop_next}
use Rattle.script_lines.proofs.Decimal.{spelled, digits_of_decimal}

-- no such octet
abbrev pub lacks : ℕ → List ℕ → Bool
lacks mark [] = true
lacks mark (c ∷ cs) = not (c == mark) && lacks mark cs

pub lacks_both : (mark : ℕ) (xs ys : List ℕ) → lacks mark xs ≡ true → lacks mark ys ≡ true → lacks mark (xs ++ ys) ≡ true
lacks_both mark [] ys h k = k
lacks_both mark (c ∷ cs) ys h k =
    elim (cases_Bool (c == mark)) [
      | inl same ↦ let wrong : false ≡ true = rw same at h in absurd cc
      | inr other ↦ let rest : lacks mark cs ≡ true = rw other at h in rw other (lacks_both mark cs ys rest k)
    ]

-- a mark that is no digit isn't among digits
digit_lacks : (mark c : ℕ) → is_ascii_digit mark ≡ false → is_ascii_digit c ≡ true → (c == mark) ≡ false
digit_lacks mark c h k =
    elim (cases_Bool (c == mark)) [
      | inl same ↦ let e : c ≡ mark = grind (arith, nat_tests) in let wrong : false ≡ true = sym h ∙ (ap is_ascii_digit (sym e) ∙ k) in absurd cc
      | inr other ↦ other
    ]

digits_lack : (mark : ℕ) (ds : List ℕ) → is_ascii_digit mark ≡ false → all_ascii_digits ds ≡ true → lacks mark ds ≡ true
digits_lack mark [] h k = refl
digits_lack mark (c ∷ cs) h k =
    elim (cases_Bool (is_ascii_digit c)) [
      | inl digit ↦ let rest : all_ascii_digits cs ≡ true = rw digit at k in rw (digit_lacks mark c h digit) (digits_lack mark cs h rest)
      | inr other ↦ let wrong : false ≡ true = rw other at k in absurd cc
    ]

pub decimal_lacks : (mark n : ℕ) → is_ascii_digit mark ≡ false → n < 2 ^ 64 → lacks mark (decimal n) ≡ true
decimal_lacks mark n h small = digits_lack mark (decimal n) h (digits_of_decimal n small)

-- a text is parted at its first mark
pub parted : (mark : ℕ) (xs ys : List ℕ) → lacks mark xs ≡ true → (before mark (xs ++ mark ∷ ys) ≡ xs) × (behind mark (xs ++ mark ∷ ys) ≡ ys)
parted mark [] ys h = let same : (mark == mark) ≡ true = grind (arith, nat_tests) in rw same (refl, refl)
parted mark (c ∷ cs) ys h =
    elim (cases_Bool (c == mark)) [
      | inl same ↦ let wrong : false ≡ true = rw same at h in absurd cc
      | inr other ↦
          let rest : lacks mark cs ≡ true = rw other at h in
          let more = parted mark cs ys rest in
          rw (other, take_next, drop_next) (ap (λ zs. c ∷ zs) more.0, more.1)
    ]

mark_or_none : (mark : ℕ) (text : List ℕ) → (text ≡ before mark text ++ mark ∷ behind mark text) ⊎ (behind mark text ≡ [])
mark_or_none mark [] = inr refl
mark_or_none mark (c ∷ cs) =
    elim (cases_Bool (c == mark)) [
      | inl same ↦ let e : c ≡ mark = grind (arith, nat_tests) in inl (rw same (ap (λ x. x ∷ cs) e))
      | inr other ↦ elim (mark_or_none mark cs) [
        | inl found ↦ inl (rw (other, take_next, drop_next) (ap (λ xs. c ∷ xs) found))
        | inr none ↦ inr (rw (other, drop_next) none)
      ]
    ]

-- a text with something behind a mark has the mark
pub has_mark : (mark : ℕ) (text : List ℕ) → (behind mark text ≡ [] → ⊥) → text ≡ before mark text ++ mark ∷ behind mark text
has_mark mark text h = elim (mark_or_none mark text) [ inl found ↦ found | inr none ↦ absurd (h none) ]

-- a number is no nothing
pub nothing_read : (most n : ℕ) (text : List ℕ) → unsigned_of most text ≡ Some n → text ≡ [] → ⊥
nothing_read most n text h e = let wrong : None ≡ Some n = rw e at h in cc

-- a number is spelled by its decimal digits
pub number_read : (most n : ℕ) (text : List ℕ) → most < 2 ^ 64 → unsigned_of most text ≡ Some n → (text ≡ decimal n) × (n ≤ most)
number_read most n text small h = (spelled most n text (unsigned_of most text) small refl).0 h

pub number_back : (most n : ℕ) (text : List ℕ) → most < 2 ^ 64 → text ≡ decimal n → n ≤ most → unsigned_of most text ≡ Some n
number_back most n text small e h = (spelled most n text (unsigned_of most text) small refl).1 (e, h)

-- the first step of a reading that gave something
pub from_chain : {A B : Type 0} (o : Option A) (f : A → Option B) (y : B) → (o >>= f) ≡ Some y → (x : A) × (o ≡ Some x) × (f x ≡ Some y)
from_chain None f y h = absurd cc
from_chain (Some x) f y h = (x, refl, h)
