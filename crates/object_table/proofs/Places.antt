-- Rows by their places: what a search finds, and what a write at a place is.
use Rattle.std.proofs.Common.{arith, ◌≡◌, ℕ, zero, suc, ◌<◌, ◌≤◌, Bool, true, false, if◌then◌else◌, Some, None, Result, Ok, Err, get_or, set, List, [], ◌∷◌, length, map, refl, sym, ap, subst, ◌∙◌, inl, inr, IfOk, OnErr, IsTrue}
use Rattle.std.specs.List.{find, All}
use Rattle.std.specs.List.Sorted.{IsBinarySearchResult, IsSearchInRange}
use Rattle.std.specs.Ordering.{ordering_index}
use Rattle.std.specs.declared.cmp.Ordering.TheVariants.{Less, Equal, Greater}
use Rattle.std.proofs.lemmas.Bool.Decides.{leb_tells}
use Rattle.std.proofs.lemmas.List.{get_or-set_same, get_or-set_other, set-set, set-get_or, length-set}
use Rattle.std.proofs.lemmas.List.Elements.{All-set, All-map}
use Rattle.std.proofs.lemmas.Simd.{map-map}
use Rattle.std.proofs.Math.Seq.{map-set_same}
use Rattle.std.proofs.lemmas.Cmp.{alike_right}
use Rattle.bac_values.specs.Identifier.{ObjectIdData}
use Rattle.bac_values.specs.Orders.{identifier_order}
use Rattle.bac_values.proofs.OrderLemmas.{identifiers_are_total, rises}
use Rattle.object_table.specs.declared.change.Change.{Change}
use Rattle.object_table.specs.declared.change.What.{What}
use Rattle.object_table.specs.declared.object_site.ObjectSite.{ObjectSite}
use Rattle.object_table.specs.declared.row.Row.{Row}
use Rattle.object_table.specs.Objects.{IsObject, IsRow}
use Rattle.object_table.specs.Tables.{IsTable}
use Rattle.object_table.specs.Writes.{IsTaken, changed, takes, written}
use Rattle.object_table.specs.Rows.{Ascends, AscendsById, first_row, rows_of, is_object, row_of, object_in, RowsAscend, StandsAt}
use Rattle.object_table.proofs.Order.{above, equal_is_object, less_is_other, greater_is_other}

-- the identifier at a place
get_or-object : (rows : List Row) (k : ℕ) (d : Row) → get_or (map object_in rows) k (object_in d) ≡ object_in (get_or rows k d)
get_or-object [] k d = refl
get_or-object (row ∷ rows) zero d = refl
get_or-object (row ∷ rows) (suc k) d = get_or-object rows k d

length-object : (rows : List Row) → length (map object_in rows) ≡ length rows
length-object [] = refl
length-object (row ∷ rows) = ap suc (length-object rows)

-- each row is below every later one
below : (rows : List Row) → RowsAscend rows → (i j : ℕ) (d : Row) → i < j → j < length rows → identifier_order (object_in (get_or rows i d)) (object_in (get_or rows j d)) ≡ Less
below rows ascending i j d lt high =
    let in_range : j < length (map object_in rows) = rw (length-object rows) high in
    let h = ascending i j (object_in d) lt in_range in
    rw (← get_or-object rows i d, ← get_or-object rows j d) h

-- a test that no element passes finds none
pub find_none : {X : Type 0} (test : X → Bool) (xs : List X) → ((k : ℕ) (d : X) → k < length xs → test (get_or xs k d) ≡ false) → find test xs ≡ None
find_none test [] h = refl
find_none test (x ∷ xs) h =
    let first : test x ≡ false = h 0 x (omega arith) in
    let rest = find_none test xs (λ k d lt. h (suc k) d (omega arith)) in
    rw (first, rest) refl

-- the one that passes is found
pub find_at : {X : Type 0} (test : X → Bool) (xs : List X) (place : ℕ) (d : X) → place < length xs → test (get_or xs place d) ≡ true → ((k : ℕ) → k < place → test (get_or xs k d) ≡ false) → find test xs ≡ Some (get_or xs place d)
find_at test [] place d lt here others = absurd (omega arith)
find_at test (x ∷ xs) zero d lt here others = rw here refl
find_at test (x ∷ xs) (suc place) d lt here others =
    let first : test x ≡ false = others 0 (omega arith) in
    rw first (find_at test xs place d (omega arith) here (λ k low. others (suc k) (omega arith)))

no_more : (m n : ℕ) → m ≡ n → m ≤ n
no_more m n e = omega arith

-- what a binary search among the rows of a table says
pub searched : (object : ObjectIdData) (rows : List Row) (answer : Result ℕ ℕ) → RowsAscend rows → IsSearchInRange answer (length rows) → IsBinarySearchResult (λ row. identifier_order row.site.object object) rows answer → record { found : IfOk answer (StandsAt object rows); absent : OnErr answer (row_of object rows ≡ None) }
searched object rows (Ok place) ascending within equal = record {
  found = record {
    within = within;
    here = λ d. equal_is_object _ object (equal d);
    others = λ k d low other. elim (leb_tells (suc k) place) [
      | inl before ↦ less_is_other _ object (other_side (get_or rows k d).site.object (get_or rows place d).site.object (below rows ascending k place d before.1 within) (equal d))
      | inr after ↦ let past = after.1 in greater_is_other _ object (this_side (get_or rows place d).site.object (get_or rows k d).site.object (below rows ascending place k d (omega arith) low) (equal d))
    ];
  };
  absent = tt;
}
  where
    other_side : (a b : ObjectIdData) → identifier_order a b ≡ Less → identifier_order b object ≡ Equal → identifier_order a object ≡ Less
    other_side a b lt same = sym (alike_right identifiers_are_total b object a same) ∙ lt

    this_side : (a b : ObjectIdData) → identifier_order a b ≡ Less → identifier_order a object ≡ Equal → identifier_order b object ≡ Greater
    this_side a b lt same = sym (alike_right identifiers_are_total a object b same) ∙ above a b lt
searched object rows (Err place) ascending within parted =
    let point = parted (λ i j d low high. elim (leb_tells (suc i) j) [
      | inl before ↦ rises identifiers_are_total _ _ object (below rows ascending i j d before.1 high)
      | inr same ↦ let after = same.1 in let e : i ≡ j = omega arith in no_more _ _ (ap (λ n. ordering_index (identifier_order (get_or rows n d).site.object object)) e)
    ]) in
    record {
      found = tt;
      absent = find_none (λ row. is_object object row.site.object) rows (λ k d high. elim (leb_tells (suc k) place) [
        | inl before ↦ less_is_other _ object (point.0 k d (omega arith) before.1)
        | inr after ↦ let past = after.1 in greater_is_other _ object (point.1 k d (omega arith) high)
      ]);
    }

-- the row at the object's place is the object's
pub row_at : (object : ObjectIdData) (rows : List Row) (place : ℕ) (d : Row) → StandsAt object rows place → row_of object rows ≡ Some (get_or rows place d)
row_at object rows place d h = find_at (λ row. is_object object row.site.object) rows place d h.within (h.here d) (λ k low. h.others k d (omega (arith, h.within)) (λ same. omega arith))

-- where no row is the object's, a write changes nothing
unwritten : (object : ObjectIdData) (f : Row → Row) (rows : List Row) → ((k : ℕ) (d : Row) → k < length rows → is_object object (get_or rows k d).site.object ≡ false) → map (λ row. if is_object object row.site.object then f row else row) rows ≡ rows
unwritten object f [] h = refl
unwritten object f (row ∷ rows) h =
    let first : is_object object row.site.object ≡ false = h 0 row (omega arith) in
    let rest = unwritten object f rows (λ k d lt. h (suc k) d (omega arith)) in
    rw (first, rest) refl

-- a write of an object is one at its place
pub written_at : (object : ObjectIdData) (f : Row → Row) (rows : List Row) (place : ℕ) (d : Row) → StandsAt object rows place → map (λ row. if is_object object row.site.object then f row else row) rows ≡ set rows place (f (get_or rows place d))
written_at object f [] place d h = absurd (omega (arith, h.within))
written_at object f (row ∷ rows) zero d h =
    let first : is_object object row.site.object ≡ true = h.here d in
    let rest = unwritten object f rows (λ k e lt. h.others (suc k) e (omega arith) (λ same. omega arith)) in
    rw (first, rest) refl
written_at object f (row ∷ rows) (suc place) d h =
    let first : is_object object row.site.object ≡ false = h.others 0 row (omega arith) (λ same. omega arith) in
    let rest = written_at object f rows place d (record {
      within = omega (arith, h.within);
      here = h.here;
      others = λ k e lt other. h.others (suc k) e (omega arith) (λ same. other (omega arith));
    }) in
    rw (first, rest) refl

module _ (change : Change) (rows : List Row) (place : ℕ) (stands : StandsAt change.object rows place) where
  -- the row at the place takes what the table takes
  pub taken_at : (row : Row) → row ≡ get_or rows place row → IsTaken change rows → IsTrue (takes change.what row.site)
  taken_at row same taken =
      let at_place = rw (row_at change.object rows place row stands) at taken in
      subst (λ (r : Row). IsTrue (takes change.what r.site)) (sym same) at_place

  -- the row may be replaced by another of the same object
  stands_after : (row new : Row) → row ≡ get_or rows place row → new.site.object ≡ row.site.object → StandsAt change.object (set rows place new) place
  stands_after row new same object = record {
    within = rw length-set stands.within;
    here = λ d. let within = stands.within in rw get_or-set_same (rw object (subst (λ (r : Row). is_object change.object r.site.object ≡ true) (sym same) (stands.here row)));
    others = λ k d low other. rw get_or-set_other (stands.others k d (rw length-set at low) other);
  }

  -- the table then takes what that row takes
  pub taken_after : (row new : Row) (what : What) → row ≡ get_or rows place row → new.site.object ≡ row.site.object → IsTrue (takes what new.site) → IsTaken (record { object = change.object; what = what }) (set rows place new)
  taken_after row new what same object taken =
      let within = stands.within in
      let found = row_at change.object (set rows place new) place new (stands_after row new same object) in
      let here : get_or (set rows place new) place new ≡ new = get_or-set_same rows place new new within in
      rw found (subst (λ (r : Row). IsTrue (takes what r.site)) (sym here) taken)

  -- a write of the table is a write of the row
  pub written_row : (row new : Row) → row ≡ get_or rows place row → new ≡ changed change.what row → set rows place new ≡ written change rows
  written_row row new same is =
      sym (written_at change.object (changed change.what) rows place row stands ∙ ap (λ r. set rows place (changed change.what r)) (sym same) ∙ ap (set rows place) (sym is))

  -- what gives the row back gives the table back
  pub written_back : (row new : Row) (what : What) → row ≡ get_or rows place row → new.site.object ≡ row.site.object → changed what new ≡ row → written (record { object = change.object; what = what }) (set rows place new) ≡ rows
  written_back row new what same object back =
      let within = stands.within in
      let here : get_or (set rows place new) place new ≡ new = get_or-set_same rows place new new within in
      written_at change.object (changed what) (set rows place new) place new (stands_after row new same object)
      ∙ (ap (λ r. set (set rows place new) place (changed what r)) here
      ∙ (ap (set (set rows place new) place) (back ∙ same)
      ∙ (set-set rows place new (get_or rows place row) ∙ set-get_or rows place row)))

  -- the rows are still those of a table
  pub table_after : (row new : Row) → row ≡ get_or rows place row → new.site.object ≡ row.site.object → IsTable rows → IsRow new → IsTable (set rows place new)
  table_after row new same object table allowed = record {
    ascending = subst Ascends (sym (map-set_same object_in rows place new row (object ∙ ap object_in same))) table.ascending;
    allowed = All-set IsRow rows place new allowed table.allowed;
  }

-- a table of objects that ascend
pub table_of : (sites : List ObjectSite) → AscendsById sites → All IsObject sites → IsTable (rows_of sites)
table_of sites ascending allowed = record {
  ascending = subst Ascends (sym (map-map object_in first_row sites)) ascending;
  allowed = All-map IsRow first_row sites (λ k d low. record { site = allowed k d low; field_fault = refl });
}
