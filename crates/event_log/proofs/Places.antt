-- Where the only element of a list that passes a test stands.
use Rattle.std.proofs.Common.{◌≡◌, ℕ, zero, suc, ◌<◌, Bool, true, false, List, [], ◌∷◌, length, refl, sym, ap, arith, rules, suc-ne-zero, slice_get, Some, None, position}
use Rattle.std.specs.List.{position_or_len}
use Rattle.std.proofs.lemmas.Bool.{lt-ltb, le-ltb}
use Rattle.std.proofs.Math.Nat.{suc_inj}

module _ {X : Type 0} (test : X → Bool) where
  -- the test passes at this place and at no other
  abbrev pub PassesAt : List X → ℕ → Type 0
  PassesAt xs at = (place : ℕ) (x : X) → slice_get xs place ≡ Some x → (test x ≡ true → place ≡ at) × (place ≡ at → test x ≡ true)

  abbrev pub PassesNowhere : List X → Type 0
  PassesNowhere xs = (place : ℕ) (x : X) → slice_get xs place ≡ Some x → test x ≡ false

  skipping : (x : X) (xs : List X) (at : ℕ) (b : Bool) → test x ≡ b → ¬ (test x ≡ true) → position_or_len test xs ≡ at → position_or_len test (x ∷ xs) ≡ suc at
  skipping x xs at true e never rest = absurd (never e)
  skipping x xs at false e never rest = rw e (omega (arith, rest))

  passing : (xs : List X) (at : ℕ) → at < length xs → PassesAt xs at → position_or_len test xs ≡ at
  passing [] at h only = search rules
  passing (x ∷ xs) zero h only = rw ((only 0 x refl).1 refl) refl
  passing (x ∷ xs) (suc at) h only = skipping x xs at (test x) refl (λ e. suc-ne-zero at (sym ((only 0 x refl).0 e))) (passing xs at (omega (arith, h)) (λ place y found. (λ e. suc_inj ((only (suc place) y found).0 e), λ e. (only (suc place) y found).1 (ap suc e))))

  nowhere : (xs : List X) → PassesNowhere xs → position_or_len test xs ≡ length xs
  nowhere [] none = refl
  nowhere (x ∷ xs) none = rw (none 0 x refl) (omega (arith, nowhere xs (λ place y found. none (suc place) y found)))

  -- the place is the first that passes
  pub position_at : (xs : List X) (at : ℕ) → at < length xs → PassesAt xs at → position test xs ≡ Some at
  position_at xs at h only = rw (passing xs at h only, lt-ltb at (length xs) h) refl

  pub position_none : (xs : List X) → PassesNowhere xs → position test xs ≡ None
  position_none xs none = rw (nowhere xs none, le-ltb (length xs) (length xs) (omega arith)) refl
