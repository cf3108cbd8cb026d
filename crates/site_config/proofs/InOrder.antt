-- Entries that are put at their places one after the other weigh no more than what was put.
use Rattle.std.proofs.Common.{ℕ, ◌+◌, ◌≤◌, List, [], ◌∷◌, arith}
use Rattle.std.specs.Prelude.{fold}
use Rattle.std.specs.BTreeMap.{insert_entry}
use Rattle.std.specs.List.{sum_by}
use Rattle.std.specs.Map.{values_of}
use Rattle.std.specs.Ordering.{match_ordering}
use Rattle.std.specs.declared.cmp.Ordering.{Ordering}
use Rattle.std.specs.declared.cmp.Ordering.TheVariants.{Less, Equal, Greater}
use Rattle.std.proofs.lemmas.List.Sums.{sum_by-cons}

module _ {K A : Type 0} (R : K → K → Ordering) (id_of : A → K) (weight : A → ℕ) where
  -- one more entry, at its place
  placed : (k : K) (x : A) (e : K × A) (es : List (K × A)) (r : Ordering)
      → sum_by weight (values_of (insert_entry R es k x)) ≤ weight x + sum_by weight (values_of es)
      → sum_by weight (values_of (match_ordering r ((k, x) ∷ e ∷ es) ((e.0, x) ∷ es) (e ∷ insert_entry R es k x))) ≤ weight x + sum_by weight (values_of (e ∷ es))
  placed k x e es Less more = omega (arith, sum_by-cons weight x (values_of (e ∷ es)))
  placed k x e es Equal more = omega (arith, sum_by-cons weight x (values_of es), sum_by-cons weight e.1 (values_of es))
  placed k x e es Greater more = omega (arith, more, sum_by-cons weight e.1 (values_of es), sum_by-cons weight e.1 (values_of (insert_entry R es k x)))

  inserted : (k : K) (x : A) (es : List (K × A)) → sum_by weight (values_of (insert_entry R es k x)) ≤ weight x + sum_by weight (values_of es)
  inserted k x [] = omega (arith, sum_by-cons weight x [])
  inserted k x (e ∷ es) = placed k x e es (R k e.0) (inserted k x es)

  all_put : (es : List (K × A)) (xs : List A) → sum_by weight (values_of (fold (λ entries y. insert_entry R entries (id_of y) y) es xs)) ≤ sum_by weight (values_of es) + sum_by weight xs
  all_put es [] = omega arith
  all_put es (x ∷ xs) = omega (arith, all_put (insert_entry R es (id_of x) x) xs, inserted (id_of x) x es, sum_by-cons weight x xs)

  pub fold_weighs : (xs : List A) → sum_by weight (values_of (fold (λ entries y. insert_entry R entries (id_of y) y) [] xs)) ≤ sum_by weight xs
  fold_weighs xs = omega (arith, all_put [] xs)
