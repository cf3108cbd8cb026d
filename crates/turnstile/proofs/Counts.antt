-- Sums over views, and the entries under a number.
use Rattle.std.proofs.Common.{◌≡◌, ◌≢◌, ℕ, suc, zero, ◌+◌, ◌<◌, ◌≤◌, true, false, List, [], ◌∷◌, ◌++◌, length, set, refl, sym, ap, ◌∙◌, arith, append_assoc, append-nil, eq-eqb, ne_eqb}
use mathlib.Core.Option.{some, some-injective, some-ne-none}
use mathlib.Core.Logic.{dite}
use native.Mathlib.Decide.{dec_le}
use lib.ListN.{get_elem?}
use Rattle.std.specs.Prelude.{◌==◌, if◌then◌else◌}
use Rattle.turnstile.specs.Histories.{StartsWith, entries_under, Accounts, times, among}
use Rattle.turnstile.specs.ViewSteps.{own_number, with_call}
use Rattle.turnstile.specs.RuleSteps.{total, AreAbove}

module _ {V : Type 0} (f : V → ℕ) where
  pub total_set : (vs : List V) (k : ℕ) (v w : V) → get_elem? vs k ≡ some v → total f (set vs k w) + f v ≡ total f vs + f w
  total_set [] k v w at = absurd (some-ne-none v (sym at))
  total_set (x ∷ xs) zero v w at = let e : f x ≡ f v = ap f (some-injective x v at) in omega arith
  total_set (x ∷ xs) (suc k) v w at = omega (arith, total_set xs k v w at)

  pub total_snoc : (vs : List V) (w : V) → total f (vs ++ w ∷ []) ≡ total f vs + f w
  total_snoc [] w = omega arith
  total_snoc (x ∷ xs) w = omega (arith, total_snoc xs w)

  pub total_at : (vs : List V) (k : ℕ) (v : V) → get_elem? vs k ≡ some v → f v ≤ total f vs
  total_at [] k v at = absurd (some-ne-none v (sym at))
  total_at (x ∷ xs) zero v at = let e : f x ≡ f v = ap f (some-injective x v at) in omega arith
  total_at (x ∷ xs) (suc k) v at = omega (arith, total_at xs k v at)

  pub total_two : (vs : List V) (j k : ℕ) (v w : V) → j ≢ k → get_elem? vs j ≡ some v → get_elem? vs k ≡ some w → f v + f w ≤ total f vs
  total_two [] j k v w ne a b = absurd (some-ne-none v (sym a))
  total_two (x ∷ xs) zero zero v w ne a b = absurd (ne refl)
  total_two (x ∷ xs) zero (suc k) v w ne a b = let e : f x ≡ f v = ap f (some-injective x v a) in omega (arith, total_at xs k w b)
  total_two (x ∷ xs) (suc j) zero v w ne a b = let e : f x ≡ f w = ap f (some-injective x w b) in omega (arith, total_at xs j v a)
  total_two (x ∷ xs) (suc j) (suc k) v w ne a b = omega (arith, total_two xs j k v w (λ e. ne (ap suc e)) a b)

module _ {V : Type 0} where
  pub total_zero : (f : V → ℕ) (vs : List V) → ((k : ℕ) (v : V) → get_elem? vs k ≡ some v → f v ≡ 0) → total f vs ≡ 0
  total_zero f [] h = refl
  total_zero f (x ∷ xs) h = let a = h 0 x refl in let b = total_zero f xs (λ k v at. h (suc k) v at) in omega arith

  -- a view that adds to the sum
  pub total_found : (f : V → ℕ) (vs : List V) → 1 ≤ total f vs → (k : ℕ) × (v : V) × (get_elem? vs k ≡ some v) × (1 ≤ f v)
  total_found f [] h = absurd (omega arith)
  total_found f (x ∷ xs) h = dite (dec_le 1 (f x)) (λ here. (0, x, refl, here)) (λ no. let r = total_found f xs (omega arith) in (suc r.0, r.1, r.2, r.3))

  pub there_set : (l : List V) (i : ℕ) (a b : V) → get_elem? l i ≡ some a → get_elem? (set l i b) i ≡ some b
  there_set [] i a b e = absurd (some-ne-none a (sym e))
  there_set (x ∷ xs) zero a b e = refl
  there_set (x ∷ xs) (suc i) a b e = there_set xs i a b e

  pub there_same : (l : List V) (i j : ℕ) (a b : V) → i ≡ j → get_elem? l i ≡ some a → get_elem? l j ≡ some b → a ≡ b
  there_same l i j a b is x y = some-injective a b (sym x ∙ (ap (λ z. get_elem? l z) is ∙ y))

pub among_append : (n : ℕ) (xs ys : List ℕ) → among n (xs ++ ys) ≡ among n xs + among n ys
among_append n [] ys = omega arith
among_append n (x ∷ xs) ys = omega (arith, among_append n xs ys)

pub among_here : (n m : ℕ) (ms : List ℕ) → m ≡ n → among n (m ∷ ms) ≡ 1 + among n ms
among_here n m ms e = ap (λ b. (if b then 1 else 0) + among n ms) (eq-eqb m n e)

pub among_there : (n m : ℕ) (ms : List ℕ) → m ≢ n → among n (m ∷ ms) ≡ among n ms
among_there n m ms ne = let e = ap (λ b. (if b then 1 else 0) + among n ms) (ne_eqb m n ne) in omega arith

module _ {E : Type 0} where
  pub under_append : (n : ℕ) (xs ys : List (ℕ × E)) → entries_under n (xs ++ ys) ≡ entries_under n xs ++ entries_under n ys
  under_append n [] ys = refl
  under_append n (x ∷ xs) ys = elim (x.0 == n) as (λ b. (if b then (x.1 ∷ entries_under n (xs ++ ys)) else entries_under n (xs ++ ys)) ≡ (if b then (x.1 ∷ entries_under n xs) else entries_under n xs) ++ entries_under n ys)
      [ true ↦ ap (λ z. x.1 ∷ z) (under_append n xs ys) | false ↦ under_append n xs ys ]

  -- one more entry under the number
  pub under_same : (n : ℕ) (log : List (ℕ × E)) (e : E) → entries_under n (log ++ (n, e) ∷ []) ≡ entries_under n log ++ e ∷ []
  under_same n log e = under_append n log ((n, e) ∷ []) ∙ ap (λ z. entries_under n log ++ z) (ap (λ b. if b then (e ∷ []) else []) (eq-eqb n n refl))

  -- one more entry under another number
  pub under_other : (n k : ℕ) (log : List (ℕ × E)) (e : E) → k ≢ n → entries_under n (log ++ (k, e) ∷ []) ≡ entries_under n log
  under_other n k log e ne = under_append n log ((k, e) ∷ []) ∙ (ap (λ z. entries_under n log ++ z) (ap (λ b. if b then (e ∷ []) else []) (ne_eqb k n ne)) ∙ append-nil (entries_under n log))

  pub times_append : (n : ℕ) (xs ys : List (ℕ × List E)) → times n (xs ++ ys) ≡ times n xs + times n ys
  times_append n [] ys = omega arith
  times_append n (x ∷ xs) ys = omega (arith, times_append n xs ys)

  pub times_here : (n : ℕ) (c : ℕ × List E) (cs : List (ℕ × List E)) → c.0 ≡ n → times n (c ∷ cs) ≡ 1 + times n cs
  times_here n c cs e = ap (λ b. (if b then 1 else 0) + times n cs) (eq-eqb c.0 n e)

  pub own_times : (cs : List (ℕ × List E)) → 0 < length cs → 1 ≤ times (own_number cs) cs
  own_times [] h = absurd (omega arith)
  own_times (c ∷ cs) h = omega (arith, times_here c.0 c cs refl)

  pub times_there : (n : ℕ) (c : ℕ × List E) (cs : List (ℕ × List E)) → c.0 ≢ n → times n (c ∷ cs) ≡ times n cs
  times_there n c cs ne = let e = ap (λ b. (if b then 1 else 0) + times n cs) (ne_eqb c.0 n ne) in omega arith

  -- what is above a number of some calls is above one of more calls
  pub above_more : (cs ds : List (ℕ × List E)) (ns : List ℕ) → ((m : ℕ) → times m cs ≤ times m ds) → AreAbove cs ns → AreAbove ds ns
  above_more cs ds ns more a n in_ns = let w = a n in_ns in let le = more w.0 in let here = w.2 in (w.0, w.1, omega arith)

  pub above_both : (cs ds : List (ℕ × List E)) (ms ns : List ℕ) → AreAbove cs ms → AreAbove ds ns → AreAbove (cs ++ ds) (ms ++ ns)
  above_both cs ds ms ns a b n there = let sum = among_append n ms ns in dite (dec_le 1 (among n ms))
      (λ one. let w = a n one in let here = w.2 in (w.0, w.1, omega (arith, times_append w.0 cs ds)))
      (λ no. let w = b n (omega arith) in let here = w.2 in (w.0, w.1, omega (arith, times_append w.0 cs ds)))

  pub times_with_call : (n : ℕ) (cs : List (ℕ × List E)) (e : E) → times n (with_call cs e) ≡ times n cs
  times_with_call n [] e = refl
  times_with_call n (c ∷ cs) e = refl

  pub accounts_append : (log : List (ℕ × E)) (xs ys : List (ℕ × List E)) → Accounts log xs → Accounts log ys → Accounts log (xs ++ ys)
  accounts_append log [] ys a b = b
  accounts_append log (x ∷ xs) ys a b = (a.0, accounts_append log xs ys a.1 b)

  -- an entry under a number that does not stand in the list
  pub accounts_other : (k : ℕ) (log : List (ℕ × E)) (e : E) (cs : List (ℕ × List E)) → times k cs ≡ 0 → Accounts log cs → Accounts (log ++ (k, e) ∷ []) cs
  accounts_other k log e [] none a = tt
  accounts_other k log e (c ∷ cs) none a = (
    under_other c.0 k log e (λ (is : k ≡ c.0). absurd (omega (arith, times_here k c cs (sym is)))) ∙ a.0,
    accounts_other k log e cs (omega arith) a.1,
  )

  -- one more call under the own number
  pub accounts_own : (log : List (ℕ × E)) (e : E) (cs : List (ℕ × List E)) → times (own_number cs) cs ≤ 1 → Accounts log cs → Accounts (log ++ (own_number cs, e) ∷ []) (with_call cs e)
  accounts_own log e [] once a = tt
  accounts_own log e (c ∷ cs) once a = (
    under_same c.0 log e ∙ ap (λ z. z ++ e ∷ []) a.0,
    accounts_other c.0 log e cs (omega (arith, times_here c.0 c cs refl)) a.1,
  )

  pub starts_append : (log seen : List (ℕ × E)) (more : List (ℕ × E)) → StartsWith log seen → StartsWith (log ++ more) seen
  starts_append log seen more s = (s.0 ++ more, ap (λ z. z ++ more) s.1 ∙ append_assoc seen s.0 more)

  pub times_one : (n : ℕ) (c : ℕ × List E) → times n (c ∷ []) ≤ 1
  times_one n c = elim (c.0 == n) as (λ b. (if b then 1 else 0) + 0 ≤ 1) [ true ↦ omega arith | false ↦ omega arith ]

  pub times_none : (n : ℕ) (c : ℕ × List E) → c.0 ≢ n → times n (c ∷ []) ≡ 0
  times_none n c ne = ap (λ b. (if b then 1 else 0) + 0) (ne_eqb c.0 n ne)

  -- of two beginnings of one list the longer begins with the other
  pub starts_both : (log a b : List (ℕ × E)) → StartsWith log a → StartsWith log b → length a ≤ length b → StartsWith b a
  starts_both log [] b p q le = (b, refl)
  starts_both log (x ∷ a) [] p q le = absurd (omega arith)
  starts_both [] (x ∷ a) (y ∷ b) p q le = absurd (no_cons (x ∷ a ++ p.0) x (a ++ p.0) refl p.1)
    where
      no_cons : (l : List (ℕ × E)) (z : ℕ × E) (zs : List (ℕ × E)) → l ≡ z ∷ zs → [] ≡ l → ⊥
      no_cons l z zs e f = cc
  starts_both (z ∷ log) (x ∷ a) (y ∷ b) p q le =
      let same : x ≡ y = cc in let c = starts_both log a b (p.0, (let e = p.1 in cc)) (q.0, (let e = q.1 in cc)) (omega arith) in (c.0, (let e = c.1 in cc))
