-- The classes that items name, those that were gone over and those that are left.
use Rattle.std.proofs.Common.{◌≡◌, ℕ, ◌+◌, ◌<◌, ◌≤◌, List, [], ◌∷◌, ◌++◌, length, get_or, drop, Option, Some, None, refl, sym, ap, ◌∙◌, append_assoc}
use Rattle.std.specs.List.{filter_map}
use Rattle.std.proofs.lemmas.List.{append-nil, drop_all, drop_more}

-- an item names one
pub one_named : {A B : Type 0} (h : A → Option B) (vs : List A) (i : ℕ) (d : A) (xs : List B) (x : B) (whole : List B)
    → i < length vs → h (get_or vs i d) ≡ Some x
    → xs ++ filter_map h (drop i vs) ≡ whole
    → (xs ++ x ∷ []) ++ filter_map h (drop (i + 1) vs) ≡ whole
one_named h vs i d xs x whole within is so_far =
    let opened : filter_map h (drop i vs) ≡ x ∷ filter_map h (drop (i + 1) vs) = rw (drop_more vs i d within, is) refl in
    append_assoc xs (x ∷ []) (filter_map h (drop (i + 1) vs)) ∙ ap (λ ys. xs ++ ys) (sym opened) ∙ so_far

-- an item names none
pub none_named : {A B : Type 0} (h : A → Option B) (vs : List A) (i : ℕ) (d : A) (xs : List B) (whole : List B)
    → i < length vs → h (get_or vs i d) ≡ None
    → xs ++ filter_map h (drop i vs) ≡ whole
    → xs ++ filter_map h (drop (i + 1) vs) ≡ whole
none_named h vs i d xs whole within is so_far =
    let opened : filter_map h (drop i vs) ≡ filter_map h (drop (i + 1) vs) = rw (drop_more vs i d within, is) refl in
    ap (λ ys. xs ++ ys) (sym opened) ∙ so_far

-- behind the last
pub all_named : {A B : Type 0} (h : A → Option B) (vs : List A) (i : ℕ) (xs : List B) (whole : List B)
    → length vs ≤ i
    → xs ++ filter_map h (drop i vs) ≡ whole
    → xs ≡ whole
all_named h vs i xs whole past so_far =
    let nothing : drop i vs ≡ [] = drop_all i vs past in
    sym (append-nil xs) ∙ (ap (λ ws. xs ++ filter_map h ws) (sym nothing) ∙ so_far)
