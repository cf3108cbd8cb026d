-- A refusal has one reason.
use Rattle.std.proofs.Common.{◌≡◌, ◌≢◌, ℕ, refl, ap, arith}
use Rattle.bac_tags.specs.declared.malformed.Malformed.{Malformed}
use Rattle.bac_tags.specs.Refusals.{invalid_tag, missing_parameter, too_many_arguments}

reasons_differ : (a b : Malformed) → (a.reject ≡ b.reject → ⊥) → a ≢ b
reasons_differ a b differ e = differ (ap (λ (m : Malformed). m.reject) e)

pub five_four : (a b : ℕ) → missing_parameter a ≢ invalid_tag b
five_four a b = reasons_differ (missing_parameter a) (invalid_tag b) (λ e. other 5 4 refl refl e)
  where
    other : (x y : ℕ) → x ≡ 5 → y ≡ 4 → x ≢ y
    other x y a b e = omega arith

pub five_seven : (a b : ℕ) → missing_parameter a ≢ too_many_arguments b
five_seven a b = reasons_differ (missing_parameter a) (too_many_arguments b) (λ e. other 5 7 refl refl e)
  where
    other : (x y : ℕ) → x ≡ 5 → y ≡ 7 → x ≢ y
    other x y a b e = omega arith

pub four_seven : (a b : ℕ) → invalid_tag a ≢ too_many_arguments b
four_seven a b = reasons_differ (invalid_tag a) (too_many_arguments b) (λ e. other 4 7 refl refl e)
  where
    other : (x y : ℕ) → x ≡ 4 → y ≡ 7 → x ≢ y
    other x y a b e = omega arith
