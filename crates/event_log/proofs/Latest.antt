-- The last place at which a test passes, from the back.
use Rattle.std.proofs.Common.{◌≡◌, ℕ, suc, ◌+◌, ◌<◌, nat_lt, IfSome, IsSomeAnd, MatchOption, position, Bool, true, false, List, [], ◌∷◌, ◌++◌, length, refl, sym, ◌∙◌, ap, subst, arith, Option, Some, None, if◌then◌else◌, Bor, length-append}
use Rattle.std.specs.Fn.{Called}
use Rattle.std.specs.Iterator.{Yields, YieldsThen}
use Rattle.std.specs.List.{FoldsTo, position_or_len}
use Rattle.std.specs.Map.Iter.{TakesLast, deref}
use Rattle.std.proofs.lemmas.Bool.{ltb-true}
use denote.Param.Members.{Mut}
use Rattle.event_log.specs.Ranges.{last_position, later_position}

module _ {X : Type 0} (test : X → Bool) where
  one_by : (b : Bool) → later_position b None ≡ (if b then Some 0 else None)
  one_by true = refl
  one_by false = refl

  more_by : (b c : Bool) (n : ℕ) (o : Option ℕ) → later_position b (if c then Some n else o) ≡ (if c then Some (suc n) else later_position b o)
  more_by b true n o = ap Some (omega arith)
  more_by b false n o = refl

  last_position-snoc : (xs : List X) (x : X) → last_position test (xs ++ x ∷ []) ≡ (if test x then Some (length xs) else last_position test xs)
  last_position-snoc [] x = one_by (test x)
  last_position-snoc (y ∷ ys) x = ap (later_position (test y)) (last_position-snoc ys x) ∙ more_by (test y) (test x) (length ys) (last_position test ys)

  within_by : (b : Bool) (o : Option ℕ) (n : ℕ) → IfSome o (λ k. k < n) → IfSome (later_position b o) (λ k. k < suc n)
  within_by b (Some k) n h = omega (arith, h)
  within_by true None n h = omega arith
  within_by false None n h = tt

  pub last_position_within : (xs : List X) → IfSome (last_position test xs) (λ k. k < length xs)
  last_position_within [] = tt
  last_position_within (x ∷ xs) = within_by (test x) (last_position test xs) (length xs) (last_position_within xs)

  first_by : (b : Bool) (k n : ℕ) → nat_lt k n ≡ b → IfSome (if b then Some k else None) (λ k. k < n)
  first_by true k n e = ltb-true k n e
  first_by false k n e = tt

  pub position_within : (xs : List X) → IfSome (position test xs) (λ k. k < length xs)
  position_within xs = first_by _ (position_or_len test xs) (length xs) refl

module _ {X F : Type 0} {g : Mut F (Bor X × Unit {0}) Bool} (test : X → Bool) (f : F) (answers : (x : Bor X) (b : Bool) (q : F) → Called g f (x, tt) b q → (q ≡ f) × (b ≡ test x.now)) where
  abbrev Passed : F → List (Bor X) → F → Type 0
  Passed from ys to = FoldsTo (λ p x q. Called g p (x, tt) false q) from ys to

  abbrev Ends : ℕ → Option ℕ → Option (Bor X) → List (Bor X) → F → Type 0
  Ends n r o ys j = MatchOption o (r ≡ None) (λ x. IsSomeAnd r (λ i. i + 1 + length ys ≡ n) × ((h : F) × Called g j (x, tt) true h))

  -- one element fewer, and one fewer that was passed over
  one_fewer : (n m : ℕ) (r : Option ℕ) (o : Option (Bor X)) (y : Bor X) (ys : List (Bor X)) (j : F) → n ≡ m + 1 → Ends n r o (y ∷ ys) j → Ends m r o ys j
  one_fewer n m r None y ys j longer ends = ends
  one_fewer n m None (Some x) y ys j longer ends = absurd ends.0
  one_fewer n m (Some i) (Some x) y ys j longer ends = (omega (arith, longer, ends.0), ends.1)

  longer_by_one : (s t : List X) (x : X) → s ≡ t ++ x ∷ [] → length s ≡ length t + 1
  longer_by_one s t x same = ap length same ∙ length-append t (x ∷ [])

  last_of : (s t : List X) (x : X) (b : Bool) → s ≡ t ++ x ∷ [] → b ≡ test x → last_position test s ≡ (if b then Some (length t) else last_position test t)
  last_of s t x b same answer = ap (last_position test) same ∙ last_position-snoc test t x ∙ ap (λ c. if c then Some (length t) else last_position test t) (sym answer)

  found_last : (s u : List X) (x : Bor X) (r : Option ℕ) → s ≡ u ++ x.now ∷ [] → true ≡ test x.now → IsSomeAnd r (λ i. i + 1 + 0 ≡ length s) → r ≡ last_position test s
  found_last s u x None same passes at = absurd at
  found_last s u x (Some i) same passes at =
      let long = longer_by_one s u x.now same in
      let place : i ≡ length u = omega (arith, at, long) in
      ap Some place ∙ sym (last_of s u x.now true same passes)

  from_back : (ys : List (Bor X)) (s t u : List X) (o : Option (Bor X)) (j : F) (r : Option ℕ)
      → Yields (TakesLast (deref {X = X})) s ys t → TakesLast (deref {X = X}) t o u → Passed f ys j → Ends (length s) r o ys j → r ≡ last_position test s
  from_back [] s t u None j r yields step passed ends = ends ∙ sym (ap (last_position test) (yields ∙ step.0))
  from_back [] s t u (Some x) j r yields step passed ends =
      let called = subst (λ p. Called g p (x, tt) true ends.1.0) (sym passed) ends.1.1 in
      found_last s u x r (yields ∙ step) (answers x true ends.1.0 called).1 ends.0
  from_back (y ∷ ys) s t u o j r yields step passed ends =
      let once = answers y false passed.0 passed.1 in
      let rest = subst (λ p. Passed p ys j) once.0 passed.2 in
      let fewer = one_fewer (length s) (length yields.0) r o y ys j (longer_by_one s yields.0 y.now yields.1) ends in
      from_back ys yields.0 t u o j r yields.2 step rest fewer ∙ sym (last_of s yields.0 y.now false yields.1 once.1)

  -- what is found from the back is the last place at which the test passes
  pub last_position_found : (s u : List X) (r : Option ℕ)
      → (ys : List (Bor X)) × (o : Option (Bor X)) × (j : F) × YieldsThen (TakesLast (deref {X = X})) s ys o u × Passed f ys j × Ends (length s) r o ys j
      → r ≡ last_position test s
  last_position_found s u r ran = from_back ran.0 s ran.3.0 u ran.1 ran.2 r ran.3.1 ran.3.2 ran.4 ran.5
