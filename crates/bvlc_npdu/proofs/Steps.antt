-- What a step that answered has passed.
use Rattle.std.proofs.Common.{◌≡◌, Bool, true, false, cond, Option, Some, None, refl, ◌⊎◌, inl, inr}
use Rattle.bvlc_npdu.specs.ReadingSteps.{◌>>=◌}

-- the value of a step that answered
pub bind_some : {A B : Type 0} (o : Option A) (f : A → Option B) (y : B) → (o >>= f) ≡ Some y → (x : A) × (o ≡ Some x) × (f x ≡ Some y)
bind_some None f y e = absurd cc
bind_some (Some x) f y e = (x, refl, e)

-- a guard that was passed
pub guard_some : {A : Type 0} (b : Bool) (o : Option A) (y : A) → cond b None o ≡ Some y → (b ≡ false) × (o ≡ Some y)
guard_some true o y e = absurd cc
guard_some false o y e = (refl, e)

-- a test that had to hold
pub test_some : {A : Type 0} (b : Bool) (o : Option A) (y : A) → cond b o None ≡ Some y → (b ≡ true) × (o ≡ Some y)
test_some true o y e = (refl, e)
test_some false o y e = absurd cc

-- which branch was taken
pub branch_taken : {A : Type 0} (b : Bool) (x y z : A) → cond b x y ≡ z → ((b ≡ true) × (x ≡ z)) ⊎ ((b ≡ false) × (y ≡ z))
branch_taken true x y z e = inl (refl, e)
branch_taken false x y z e = inr (refl, e)
