-- Entries that are put at their places one after the other: the key of each is among the keys of all.
use Rattle.std.proofs.Common.{◌≡◌, List, [], ◌∷◌, map, Bool, true, false, ◌||◌, refl, ap}
use Rattle.std.specs.Prelude.{fold}
use Rattle.std.specs.BTreeMap.{insert_entry}
use Rattle.std.specs.Cmp.{IsTotalOrder}
use Rattle.std.specs.List.{list_any}
use Rattle.std.specs.Map.{keys_of, values_of}
use Rattle.std.specs.Ordering.{match_ordering}
use Rattle.std.specs.declared.cmp.Ordering.{Ordering}
use Rattle.std.specs.declared.cmp.Ordering.TheVariants.{Less, Equal, Greater}
use Rattle.site_config.proofs.Ascending.{fold_keyed}

-- one of the first two, or another
swapped : (a b c : Bool) → (a || (b || c)) ≡ true → (b || (a || c)) ≡ true
swapped true true c h = refl
swapped true false c h = refl
swapped false true c h = refl
swapped false false c h = h

-- two that are alike, or another
doubled : (a b c : Bool) → a ≡ b → (a || (b || c)) ≡ true → (b || c) ≡ true
doubled true true c same h = refl
doubled true false c same h = absurd cc
doubled false b c same h = h

module _ {K A : Type 0} {R : K → K → Ordering} (total : IsTotalOrder R) (same : (a b : K) → R a b ≡ Equal → a ≡ b) (id_of : A → K) (test : K → Bool) where
  behind : (a c new : Bool) → (c ≡ true → new ≡ true) → (a || c) ≡ true → (a || new) ≡ true
  behind true c new more h = refl
  behind false c new more h = more h

  -- what is among the keys, or is the new key, is among them with the new entry
  placed : (k : K) (x : A) (e : K × A) (es : List (K × A)) (r : Ordering) → R k e.0 ≡ r
      → ((test k || list_any test (keys_of es)) ≡ true → list_any test (keys_of (insert_entry R es k x)) ≡ true)
      → (test k || list_any test (keys_of (e ∷ es))) ≡ true
      → list_any test (keys_of (match_ordering r ((k, x) ∷ e ∷ es) ((e.0, x) ∷ es) (e ∷ insert_entry R es k x))) ≡ true
  placed k x e es Less is more h = h
  placed k x e es Equal is more h = doubled (test k) (test e.0) (list_any test (keys_of es)) (ap test (same k e.0 is)) h
  placed k x e es Greater is more h = behind (test e.0) (test k || list_any test (keys_of es)) _ more (swapped (test k) (test e.0) _ h)

  inserted : (k : K) (x : A) (es : List (K × A)) → (test k || list_any test (keys_of es)) ≡ true → list_any test (keys_of (insert_entry R es k x)) ≡ true
  inserted k x [] h = h
  inserted k x (e ∷ es) h = placed k x e es (R k e.0) refl (inserted k x es) h

  one_put : (a old new rest : Bool) → ((a || old) ≡ true → new ≡ true) → (old || (a || rest)) ≡ true → (new || rest) ≡ true
  one_put a old true rest more h = refl
  one_put a old false true more h = refl
  one_put true old false false more h = more refl
  one_put false true false false more h = more refl
  one_put false false false false more h = h

  all_put : (es : List (K × A)) (xs : List A) → (list_any test (keys_of es) || list_any (λ x. test (id_of x)) xs) ≡ true
      → list_any test (keys_of (fold (λ entries y. insert_entry R entries (id_of y) y) es xs)) ≡ true
  all_put es [] h = only (list_any test (keys_of es)) h
    where
      only : (b : Bool) → (b || false) ≡ true → b ≡ true
      only true h = refl
      only false h = h
  all_put es (x ∷ xs) h =
      all_put (insert_entry R es (id_of x) x) xs
      (one_put (test (id_of x)) (list_any test (keys_of es)) _ (list_any (λ y. test (id_of y)) xs) (inserted (id_of x) x es) h)

  -- an item's key is among those of all in their order
  pub fold_holds : (xs : List A) → list_any (λ x. test (id_of x)) xs ≡ true
      → list_any test (map id_of (values_of (fold (λ entries y. insert_entry R entries (id_of y) y) [] xs))) ≡ true
  fold_holds xs h =
      let ids = fold_keyed total same id_of [] xs refl in
      rw ids (all_put [] xs h)
