-- Entries that are put at their places one after the other: their keys ascend, and are those of their values.
use Rattle.std.proofs.Common.{◌≡◌, List, [], ◌∷◌, map, refl, ap, ◌∙◌}
use Rattle.std.specs.Prelude.{fold}
use Rattle.std.specs.BTreeMap.{insert_entry}
use Rattle.std.specs.Cmp.{IsTotalOrder}
use Rattle.std.specs.List.{All, AllByRecursion, AllPairs}
use Rattle.std.specs.List.Sorted.{IsStrictlySortedBy}
use Rattle.std.specs.Map.{keys_of, values_of}
use Rattle.std.specs.Ordering.{match_ordering, ordering_reverse}
use Rattle.std.specs.declared.cmp.Ordering.{Ordering}
use Rattle.std.specs.declared.cmp.Ordering.TheVariants.{Less, Equal, Greater}
use Rattle.std.proofs.lemmas.List.Elements.{All-from_recursion, recursion_from_All}
use Rattle.std.proofs.lemmas.Map.Keys.{Less-from_sorted}
use Rattle.std.proofs.lemmas.Map.Views.{All-keys-insert_entry, All-values-insert_entry}

module _ {K A : Type 0} {R : K → K → Ordering} (total : IsTotalOrder R) (same : (a b : K) → R a b ≡ Equal → a ≡ b) (id_of : A → K) where
  further : (k above : K) → R k above ≡ Less → (ks : List K) → AllByRecursion (λ y. R above y ≡ Less) ks → AllByRecursion (λ y. R k y ≡ Less) ks
  further k above is [] rest = tt
  further k above is (y ∷ ys) rest = (total.trans k above y is rest.0, further k above is ys rest.1)

  -- one more entry, at its place
  placed : (k : K) (x : A) (e : K × A) (es : List (K × A)) (r : Ordering) → R k e.0 ≡ r
      → IsStrictlySortedBy R (keys_of (e ∷ es)) → IsStrictlySortedBy R (keys_of (insert_entry R es k x))
      → IsStrictlySortedBy R (keys_of (match_ordering r ((k, x) ∷ e ∷ es) ((e.0, x) ∷ es) (e ∷ insert_entry R es k x)))
  unfolding IsStrictlySortedBy
  placed k x e es Less is old new = ((is, further k e.0 is (keys_of es) old.0), old)
  placed k x e es Equal is old new = old
  placed k x e es Greater is old new =
      let first : R e.0 k ≡ Less = total.antisymm e.0 k ∙ ap ordering_reverse is in
      let P : K → Type 0 = λ y. R e.0 y ≡ Less in
      (recursion_from_All P _ (All-keys-insert_entry R k x P es (All-from_recursion P _ old.0) first), new)

  pub sorted_insert : (k : K) (x : A) (es : List (K × A)) → IsStrictlySortedBy R (keys_of es) → IsStrictlySortedBy R (keys_of (insert_entry R es k x))
  unfolding IsStrictlySortedBy
  sorted_insert k x [] sorted = (tt, tt)
  sorted_insert k x (e ∷ es) sorted = placed k x e es (R k e.0) refl sorted (sorted_insert k x es sorted.1)

  -- each key is that of its value
  keyed : (x : A) (e : K × A) (es : List (K × A)) (r : Ordering) → R (id_of x) e.0 ≡ r
      → map id_of (values_of (e ∷ es)) ≡ keys_of (e ∷ es)
      → map id_of (values_of (insert_entry R es (id_of x) x)) ≡ keys_of (insert_entry R es (id_of x) x)
      → map id_of (values_of (match_ordering r ((id_of x, x) ∷ e ∷ es) ((e.0, x) ∷ es) (e ∷ insert_entry R es (id_of x) x)))
      ≡ keys_of (match_ordering r ((id_of x, x) ∷ e ∷ es) ((e.0, x) ∷ es) (e ∷ insert_entry R es (id_of x) x))
  keyed x e es Less is old new = ap (λ ks. id_of x ∷ ks) old
  keyed x e es Equal is old new = let key = same (id_of x) e.0 is in cc
  keyed x e es Greater is old new = let first : id_of e.1 ≡ e.0 = cc in cc

  keyed_insert : (x : A) (es : List (K × A)) → map id_of (values_of es) ≡ keys_of es → map id_of (values_of (insert_entry R es (id_of x) x)) ≡ keys_of (insert_entry R es (id_of x) x)
  keyed_insert x [] old = refl
  keyed_insert x (e ∷ es) old =
      let rest : map id_of (values_of es) ≡ keys_of es = cc in
      keyed x e es (R (id_of x) e.0) refl old (keyed_insert x es rest)

  pub fold_sorted : (es : List (K × A)) (xs : List A) → IsStrictlySortedBy R (keys_of es) → IsStrictlySortedBy R (keys_of (fold (λ entries y. insert_entry R entries (id_of y) y) es xs))
  fold_sorted es [] sorted = sorted
  fold_sorted es (x ∷ xs) sorted = fold_sorted (insert_entry R es (id_of x) x) xs (sorted_insert (id_of x) x es sorted)

  pub fold_keyed : (es : List (K × A)) (xs : List A) → map id_of (values_of es) ≡ keys_of es
      → map id_of (values_of (fold (λ entries y. insert_entry R entries (id_of y) y) es xs)) ≡ keys_of (fold (λ entries y. insert_entry R entries (id_of y) y) es xs)
  fold_keyed es [] old = old
  fold_keyed es (x ∷ xs) old = fold_keyed (insert_entry R es (id_of x) x) xs (keyed_insert x es old)

  -- the identifiers ascend
  pub fold_ascends : (xs : List A) → AllPairs (λ earlier later. R earlier later ≡ Less) (map id_of (values_of (fold (λ entries y. insert_entry R entries (id_of y) y) [] xs)))
  unfolding IsStrictlySortedBy
  fold_ascends xs =
      let sorted = fold_sorted [] xs tt in
      let ids = fold_keyed [] xs refl in
      rw ids (λ i j d lt high. Less-from_sorted R _ i j d sorted lt high)

  -- what holds of each item holds of each of them in order
  pub fold_keeps : (P : A → Type 0) (es : List (K × A)) (xs : List A) → All P (values_of es) → AllByRecursion P xs → All P (values_of (fold (λ entries y. insert_entry R entries (id_of y) y) es xs))
  fold_keeps P es [] old new = old
  fold_keeps P es (x ∷ xs) old new = fold_keeps P (insert_entry R es (id_of x) x) xs (All-values-insert_entry R (id_of x) x P es old new.0) new.1
