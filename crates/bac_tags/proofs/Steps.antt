-- Steps of a reading that may fail, and tests on the way.
use Rattle.std.proofs.Common.{◌≡◌, Bool, true, false, cond, Result, Ok, Err, refl, inl, inr}
use Rattle.std.specs.Prelude.{◌⊎◌}
use Rattle.bac_tags.specs.declared.fault.TagFault.{TagFault}
use Rattle.bac_tags.specs.ReadingSteps.{◌>>=◌}

-- the value of a step that did not fail
pub bind_ok : {A B E : Type 0} (r : Result A E) (f : A → Result B E) (y : B) → (r >>= f) ≡ Ok y → (x : A) × (r ≡ Ok x) × (f x ≡ Ok y)
bind_ok (Ok x) f y e = (x, refl, e)
bind_ok (Err d) f y e = absurd cc

-- where two steps fail, the first does, or the second after it
pub bind_err : {A B E : Type 0} (r : Result A E) (f : A → Result B E) (e : E) → (r >>= f) ≡ Err e → (r ≡ Err e) ⊎ ((x : A) × (r ≡ Ok x) × (f x ≡ Err e))
bind_err (Ok x) f e h = inr (x, refl, h)
bind_err (Err d) f e h = inl cc

-- which way a test went
pub chosen : {X : Type 0} (b : Bool) (x y z : X) → cond b x y ≡ z → ((b ≡ true) × (x ≡ z)) ⊎ ((b ≡ false) × (y ≡ z))
chosen true x y z e = inl (refl, e)
chosen false x y z e = inr (refl, e)

abbrev done : {A E : Type 0} → A → Result A E
done x = Ok x

pub ok_is : {A E : Type 0} (x y : A) → done {E = E} x ≡ done y → x ≡ y
ok_is x y e = cc

abbrev failed : {A E : Type 0} → E → Result A E
failed fault = Err fault

pub err_is : {A E : Type 0} (a b : E) → failed {A = A} a ≡ failed b → a ≡ b
err_is a b e = cc

-- a test that did not fail
pub guard_ok : {A : Type 0} (b : Bool) (d : TagFault) (x y : A) → cond b (Err d) (Ok x) ≡ Ok y → (b ≡ false) × (x ≡ y)
guard_ok true d x y e = absurd cc
guard_ok false d x y e = (refl, cc)

-- what can't succeed, and has one fault, fails with it
pub fails : {X : Type 0} (r : Result X TagFault) (d : TagFault) → ((x : X) → r ≡ Ok x → ⊥) → ((e : TagFault) → r ≡ Err e → e ≡ d) → r ≡ Err d
fails (Ok x) d never one = absurd (never x refl)
fails (Err e) d never one = let same = one e refl in cc
