-- The items of an array of tables.
use Rattle.std.proofs.Common.{◌≡◌, ℕ, ◌+◌, ◌<◌, ◌≤◌, List, [], ◌∷◌, ◌++◌, length, get_or, drop, Option, Some, None, Result, Ok, Err, refl, sym, ap, ◌∙◌, append_assoc}
use Rattle.std.proofs.lemmas.List.{append-nil, drop_all}
use Rattle.toml.specs.declared.value.Value.{Value}
use Rattle.toml.specs.Data.{Data, string, integer, float, boolean, datetime, array, table, as_table, Items, item, Members}
use Rattle.toml.specs.View.{items_view, view}
use Rattle.toml.proofs.Views.{items_view-drop}
use Rattle.site_config.specs.declared.fault.Section.{Section}
use Rattle.site_config.specs.declared.fault.SiteFault.{SiteFault}
use Rattle.toml_items.specs.declared.item_fault.ItemFault.{ItemFault}
use Rattle.toml_items.specs.Answers.{◌>>=◌}
use Rattle.site_config.specs.Sections.{items_of, next_number, placed}

-- those that were read, and then the others
abbrev pub with_read : {A : Type 0} → List A → Result (List A) SiteFault → Result (List A) SiteFault
with_read xs rest = rest >>= λ ys. Ok (xs ++ ys)

read_more : {A : Type 0} (xs : List A) (x : A) (rest : Result (List A) SiteFault) → with_read (xs ++ x ∷ []) rest ≡ with_read xs (rest >>= λ ys. Ok (x ∷ ys))
read_more xs x (Ok ys) = ap Ok (append_assoc xs (x ∷ []) ys)
read_more xs x (Err fault) = refl

abbrev unwrapped : Members → Option Members → Members
unwrapped usual None = usual
unwrapped usual (Some own) = own

-- a table is read, or is passed over
of_table : {A : Type 0} (read : Members → Result A ItemFault) (section : Section) (n : ℕ) (d : Data) (ds : Items) (ms : Members) → Some ms ≡ as_table d
    → items_of read section n (item d ds) ≡ (placed section n (read ms) >>= λ x. items_of read section (next_number n) ds >>= λ xs. Ok (x ∷ xs))
of_table read section n (table own) ds ms e = ap (λ found. placed section n (read (unwrapped own found)) >>= λ x. items_of read section (next_number n) ds >>= λ xs. Ok (x ∷ xs)) (sym e)
of_table read section n (string s) ds ms e = absurd cc
of_table read section n (integer s) ds ms e = absurd cc
of_table read section n (float s) ds ms e = absurd cc
of_table read section n (boolean s) ds ms e = absurd cc
of_table read section n (datetime s) ds ms e = absurd cc
of_table read section n (array s) ds ms e = absurd cc

of_no_table : {A : Type 0} (read : Members → Result A ItemFault) (section : Section) (n : ℕ) (d : Data) (ds : Items) → None ≡ as_table d
    → items_of read section n (item d ds) ≡ items_of read section n ds
of_no_table read section n (table own) ds e = absurd cc
of_no_table read section n (string s) ds e = refl
of_no_table read section n (integer s) ds e = refl
of_no_table read section n (float s) ds e = refl
of_no_table read section n (boolean s) ds e = refl
of_no_table read section n (datetime s) ds e = refl
of_no_table read section n (array s) ds e = refl

-- one more table is read
pub table_read : {A : Type 0} (read : Members → Result A ItemFault) (section : Section) (n : ℕ) (vs : List Value) (i : ℕ) (d : Value) (ms : Members) (xs : List A) (x : A) (whole : Result (List A) SiteFault)
    → i < length vs → Some ms ≡ as_table (view (get_or vs i d)) → placed section n (read ms) ≡ Ok x
    → with_read xs (items_of read section n (items_view (drop i vs))) ≡ whole
    → with_read (xs ++ x ∷ []) (items_of read section (next_number n) (items_view (drop (i + 1) vs))) ≡ whole
table_read read section n vs i d ms xs x whole within is_table is so_far =
    let opened : items_of read section n (items_view (drop i vs)) ≡ (items_of read section (next_number n) (items_view (drop (i + 1) vs)) >>= λ ys. Ok (x ∷ ys)) =
    rw (items_view-drop vs i d within) (of_table read section n _ _ ms is_table ∙ ap (λ r. r >>= λ y. items_of read section (next_number n) (items_view (drop (i + 1) vs)) >>= λ ys. Ok (y ∷ ys)) is) in
    read_more xs x _ ∙ ap (with_read xs) (sym opened) ∙ so_far

-- a table is no item
pub table_refused : {A : Type 0} (read : Members → Result A ItemFault) (section : Section) (n : ℕ) (vs : List Value) (i : ℕ) (d : Value) (ms : Members) (xs : List A) (fault : SiteFault) (whole : Result (List A) SiteFault)
    → i < length vs → Some ms ≡ as_table (view (get_or vs i d)) → placed section n (read ms) ≡ Err fault
    → with_read xs (items_of read section n (items_view (drop i vs))) ≡ whole
    → whole ≡ Err fault
table_refused read section n vs i d ms xs fault whole within is_table is so_far =
    let opened : items_of read section n (items_view (drop i vs)) ≡ Err fault =
    rw (items_view-drop vs i d within) (of_table read section n _ _ ms is_table ∙ ap (λ r. r >>= λ y. items_of read section (next_number n) (items_view (drop (i + 1) vs)) >>= λ ys. Ok (y ∷ ys)) is) in
    sym so_far ∙ ap (with_read xs) opened

-- a value that is no table is passed over
pub other_passed : {A : Type 0} (read : Members → Result A ItemFault) (section : Section) (n : ℕ) (vs : List Value) (i : ℕ) (d : Value) (xs : List A) (whole : Result (List A) SiteFault)
    → i < length vs → None ≡ as_table (view (get_or vs i d))
    → with_read xs (items_of read section n (items_view (drop i vs))) ≡ whole
    → with_read xs (items_of read section n (items_view (drop (i + 1) vs))) ≡ whole
other_passed read section n vs i d xs whole within is_other so_far =
    let opened : items_of read section n (items_view (drop i vs)) ≡ items_of read section n (items_view (drop (i + 1) vs)) = rw (items_view-drop vs i d within) (of_no_table read section n _ _ is_other) in
    ap (with_read xs) (sym opened) ∙ so_far

none_in_front : {A : Type 0} (rest : Result (List A) SiteFault) → with_read [] rest ≡ rest
none_in_front (Ok ys) = refl
none_in_front (Err fault) = refl

-- before the first, and behind the last
pub nothing_read : {A : Type 0} (read : Members → Result A ItemFault) (section : Section) (ds : Items) → with_read [] (items_of read section 1 ds) ≡ items_of read section 1 ds
nothing_read read section ds = none_in_front (items_of read section 1 ds)

pub tables_read : {A : Type 0} (read : Members → Result A ItemFault) (section : Section) (n : ℕ) (vs : List Value) (i : ℕ) (xs : List A) (whole : Result (List A) SiteFault)
    → length vs ≤ i
    → with_read xs (items_of read section n (items_view (drop i vs))) ≡ whole
    → whole ≡ Ok xs
tables_read read section n vs i xs whole past so_far =
    let nothing : drop i vs ≡ [] = drop_all i vs past in
    sym so_far ∙ (ap (λ ws. with_read xs (items_of read section n (items_view ws))) nothing ∙ ap Ok (append-nil xs))
