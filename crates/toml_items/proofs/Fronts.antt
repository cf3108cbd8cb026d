-- What the items of an array say, those that were read and those that are left.
use Rattle.std.proofs.Common.{◌≡◌, ℕ, ◌+◌, ◌<◌, ◌≤◌, List, [], ◌∷◌, ◌++◌, length, get_or, drop, Option, Some, None, is_some, ◌&&◌, refl, sym, ap, ◌∙◌, append_assoc, arith}
use Rattle.std.proofs.lemmas.List.{append-nil, drop_all}
use Rattle.toml.specs.declared.value.Value.{Value}
use Rattle.std.specs.List.{list_all}
use Rattle.toml.specs.Data.{Data, as_table}
use Rattle.toml.specs.View.{items_view, view}
use Rattle.toml.proofs.Views.{items_view-drop}
use Rattle.toml_items.specs.Lists.{all_in, items_count, three_of, are_tables}
use Rattle.toml_items.specs.Values.{◌>>=◌}

-- those that were read, and then the others
abbrev pub with_front : {A : Type 0} → List A → Option (List A) → Option (List A)
with_front xs None = None
with_front xs (Some ys) = Some (xs ++ ys)

front_more : {A : Type 0} (xs : List A) (x : A) (rest : Option (List A)) → with_front (xs ++ x ∷ []) rest ≡ with_front xs (rest >>= λ ys. Some (x ∷ ys))
front_more xs x None = refl
front_more xs x (Some ys) = ap Some (append_assoc xs (x ∷ []) ys)

front_nil : {A : Type 0} (rest : Option (List A)) → with_front [] rest ≡ rest
front_nil None = refl
front_nil (Some ys) = refl

-- before the first
pub none_read : {A : Type 0} (read : Data → Option A) (vs : List Value) → with_front [] (all_in read (items_view vs)) ≡ all_in read (items_view vs)
none_read read vs = front_nil _

-- one more item is read
pub one_more_read : {A : Type 0} (read : Data → Option A) (vs : List Value) (i : ℕ) (d : Value) (xs : List A) (x : A) (whole : Option (List A))
    → i < length vs → read (view (get_or vs i d)) ≡ Some x
    → with_front xs (all_in read (items_view (drop i vs))) ≡ whole
    → with_front (xs ++ x ∷ []) (all_in read (items_view (drop (i + 1) vs))) ≡ whole
one_more_read read vs i d xs x whole within is so_far =
    let opened : all_in read (items_view (drop i vs)) ≡ (all_in read (items_view (drop (i + 1) vs)) >>= λ ys. Some (x ∷ ys)) = rw (items_view-drop vs i d within, is) refl in
    front_more xs x _ ∙ ap (with_front xs) (sym opened) ∙ so_far

-- an item says nothing
pub one_bad : {A : Type 0} (read : Data → Option A) (vs : List Value) (i : ℕ) (d : Value) (xs : List A) (whole : Option (List A))
    → i < length vs → read (view (get_or vs i d)) ≡ None
    → with_front xs (all_in read (items_view (drop i vs))) ≡ whole
    → None ≡ whole
one_bad read vs i d xs whole within is so_far =
    let opened : all_in read (items_view (drop i vs)) ≡ None = rw (items_view-drop vs i d within, is) refl in
    ap (with_front xs) (sym opened) ∙ so_far

-- behind the last
pub all_read : {A : Type 0} (read : Data → Option A) (vs : List Value) (i : ℕ) (xs : List A) (whole : Option (List A))
    → length vs ≤ i
    → with_front xs (all_in read (items_view (drop i vs))) ≡ whole
    → Some xs ≡ whole
all_read read vs i xs whole past so_far =
    let nothing : drop i vs ≡ [] = drop_all i vs past in
    sym (ap Some (append-nil xs)) ∙ (ap (λ ws. with_front xs (all_in read (items_view ws))) (sym nothing) ∙ so_far)

-- an array of another length than three
pub fewer_than_three : {A : Type 0} (read : Data → Option A) (vs : List Value) → length vs < 3 → None ≡ three_of read (items_view vs)
fewer_than_three read [] h = refl
fewer_than_three read (a ∷ []) h = refl
fewer_than_three read (a ∷ b ∷ []) h = refl
fewer_than_three read (a ∷ b ∷ c ∷ vs) h = absurd (omega arith)

pub more_than_three : {A : Type 0} (read : Data → Option A) (vs : List Value) → 4 ≤ length vs → None ≡ three_of read (items_view vs)
more_than_three read [] h = absurd (omega arith)
more_than_three read (a ∷ []) h = absurd (omega arith)
more_than_three read (a ∷ b ∷ []) h = absurd (omega arith)
more_than_three read (a ∷ b ∷ c ∷ []) h = absurd (omega arith)
more_than_three read (a ∷ b ∷ c ∷ d ∷ vs) h = refl

-- an array has as many items as its vector
pub items_count_view : (vs : List Value) → items_count (items_view vs) ≡ length vs
items_count_view [] = refl
items_count_view (v ∷ vs) = ap (λ n. 1 + n) (items_count_view vs) ∙ omega arith

-- each value is a table
pub all_are_tables : (vs : List Value) → list_all (λ v. is_some (as_table (view v))) vs ≡ are_tables (items_view vs)
all_are_tables [] = refl
all_are_tables (v ∷ vs) = ap (λ b. is_some (as_table (view v)) && b) (all_are_tables vs)
