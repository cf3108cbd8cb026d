-- Enrollments by their places: what a search finds, and what a write at a place is.
use Rattle.std.proofs.Common.{arith, ◌≡◌, ℕ, zero, suc, ◌<◌, ◌≤◌, true, false, if◌then◌else◌, Some, None, Result, Ok, Err, get_or, set, List, [], ◌∷◌, length, map, refl, sym, ap, subst, ◌∙◌, inl, inr, IfOk, OnErr, IsTrue}
use Rattle.std.specs.List.Sorted.{IsBinarySearchResult, IsSearchInRange}
use Rattle.std.specs.Ordering.{ordering_index}
use Rattle.std.specs.declared.cmp.Ordering.TheVariants.{Less, Equal, Greater}
use Rattle.std.proofs.lemmas.Bool.Decides.{leb_tells}
use Rattle.std.proofs.lemmas.List.{get_or-map, get_or-set_same, get_or-set_other, set-set, set-get_or, length-set}
use Rattle.std.proofs.lemmas.List.Elements.{All-set}
use Rattle.std.proofs.Math.Seq.{map-set_same}
use Rattle.std.proofs.lemmas.Cmp.{alike_right}
use Rattle.bac_values.specs.Identifier.{ObjectIdData}
use Rattle.bac_values.specs.Orders.{identifier_order}
use Rattle.bac_values.proofs.OrderLemmas.{identifiers_are_total, rises}
use Rattle.object_table.specs.declared.change.Change.{Change}
use Rattle.object_table.specs.declared.change.What.{What}
use Rattle.object_table.specs.Rows.{Ascends, is_object}
use Rattle.object_table.proofs.Order.{above, equal_is_object, less_is_other, greater_is_other}
use Rattle.object_table.proofs.Places.{find_at, find_none}
use Rattle.enrollment.specs.declared.enrollment_site.EnrollmentSite.{EnrollmentSite}
use Rattle.enrollment.specs.declared.references.Reference.{Reference}
use Rattle.enrollment.specs.Enrollments.{AscendById, IsEnrollment, StandsAt, identifier_of, site_of}
use Rattle.enrollment.specs.References.{AreEnrollments}
use Rattle.enrollment.specs.Writes.{IsTaken, changed, takes, written}

-- each enrollment is below every later one
below : (sites : List EnrollmentSite) → AscendById sites → (i j : ℕ) (d : EnrollmentSite) → i < j → j < length sites → identifier_order (get_or sites i d).object (get_or sites j d).object ≡ Less
below sites ascending i j d lt high =
    let in_range : j < length (map identifier_of sites) = rw (length-identifier sites) high in
    let h = ascending i j (identifier_of d) lt in_range in
    rw (← get_or-map identifier_of sites i d (identifier_of d) (omega (arith, lt, high)), ← get_or-map identifier_of sites j d (identifier_of d) high) h
  where
    length-identifier : (xs : List EnrollmentSite) → length (map identifier_of xs) ≡ length xs
    length-identifier [] = refl
    length-identifier (x ∷ xs) = ap suc (length-identifier xs)

no_more : (m n : ℕ) → m ≡ n → m ≤ n
no_more m n e = omega arith

-- what a binary search among ascending enrollments says
pub searched : (object : ObjectIdData) (sites : List EnrollmentSite) (answer : Result ℕ ℕ) → AscendById sites → IsSearchInRange answer (length sites) → IsBinarySearchResult (λ site. identifier_order site.object object) sites answer → record { found : IfOk answer (StandsAt object sites); absent : OnErr answer (site_of object sites ≡ None) }
searched object sites (Ok place) ascending within equal = record {
  found = record {
    within = within;
    here = λ d. equal_is_object _ object (equal d);
    others = λ k d low other. elim (leb_tells (suc k) place) [
      | inl before ↦ less_is_other _ object (other_side (get_or sites k d).object (get_or sites place d).object (below sites ascending k place d before.1 within) (equal d))
      | inr after ↦ let past = after.1 in greater_is_other _ object (this_side (get_or sites place d).object (get_or sites k d).object (below sites ascending place k d (omega arith) low) (equal d))
    ];
  };
  absent = tt;
}
  where
    other_side : (a b : ObjectIdData) → identifier_order a b ≡ Less → identifier_order b object ≡ Equal → identifier_order a object ≡ Less
    other_side a b lt same = sym (alike_right identifiers_are_total b object a same) ∙ lt

    this_side : (a b : ObjectIdData) → identifier_order a b ≡ Less → identifier_order a object ≡ Equal → identifier_order b object ≡ Greater
    this_side a b lt same = sym (alike_right identifiers_are_total a object b same) ∙ above a b lt
searched object sites (Err place) ascending within parted =
    let point = parted (λ i j d low high. elim (leb_tells (suc i) j) [
      | inl before ↦ rises identifiers_are_total _ _ object (below sites ascending i j d before.1 high)
      | inr same ↦ let after = same.1 in let e : i ≡ j = omega arith in no_more _ _ (ap (λ n. ordering_index (identifier_order (get_or sites n d).object object)) e)
    ]) in
    record {
      found = tt;
      absent = find_none (λ site. is_object object site.object) sites (λ k d high. elim (leb_tells (suc k) place) [
        | inl before ↦ less_is_other _ object (point.0 k d (omega arith) before.1)
        | inr after ↦ let past = after.1 in greater_is_other _ object (point.1 k d (omega arith) high)
      ]);
    }

-- the enrollment at the object's place is the object's
pub site_at : (object : ObjectIdData) (sites : List EnrollmentSite) (place : ℕ) (d : EnrollmentSite) → StandsAt object sites place → site_of object sites ≡ Some (get_or sites place d)
site_at object sites place d h = find_at (λ site. is_object object site.object) sites place d h.within (h.here d) (λ k low. h.others k d (omega (arith, h.within)) (λ same. omega arith))

-- where no enrollment is the object's, a write changes nothing
unwritten : (object : ObjectIdData) (f : EnrollmentSite → EnrollmentSite) (sites : List EnrollmentSite) → ((k : ℕ) (d : EnrollmentSite) → k < length sites → is_object object (get_or sites k d).object ≡ false) → map (λ site. if is_object object site.object then f site else site) sites ≡ sites
unwritten object f [] h = refl
unwritten object f (site ∷ sites) h =
    let first : is_object object site.object ≡ false = h 0 site (omega arith) in
    let rest = unwritten object f sites (λ k d lt. h (suc k) d (omega arith)) in
    rw (first, rest) refl

-- a write of an object is one at its place
written_at : (object : ObjectIdData) (f : EnrollmentSite → EnrollmentSite) (sites : List EnrollmentSite) (place : ℕ) (d : EnrollmentSite) → StandsAt object sites place → map (λ site. if is_object object site.object then f site else site) sites ≡ set sites place (f (get_or sites place d))
written_at object f [] place d h = absurd (omega (arith, h.within))
written_at object f (site ∷ sites) zero d h =
    let first : is_object object site.object ≡ true = h.here d in
    let rest = unwritten object f sites (λ k e lt. h.others (suc k) e (omega arith) (λ same. omega arith)) in
    rw (first, rest) refl
written_at object f (site ∷ sites) (suc place) d h =
    let first : is_object object site.object ≡ false = h.others 0 site (omega arith) (λ same. omega arith) in
    let rest = written_at object f sites place d (record {
      within = omega (arith, h.within);
      here = h.here;
      others = λ k e lt other. h.others (suc k) e (omega arith) (λ same. other (omega arith));
    }) in
    rw (first, rest) refl

module _ (change : Change) (sites : List EnrollmentSite) (place : ℕ) (stands : StandsAt change.object sites place) where
  -- the enrollment may be replaced by another of the same object
  stands_after : (site new : EnrollmentSite) → site ≡ get_or sites place site → new.object ≡ site.object → StandsAt change.object (set sites place new) place
  stands_after site new same object = record {
    within = rw length-set stands.within;
    here = λ d. let within = stands.within in rw get_or-set_same (rw object (subst (λ (s : EnrollmentSite). is_object change.object s.object ≡ true) (sym same) (stands.here site)));
    others = λ k d low other. rw get_or-set_other (stands.others k d (rw length-set at low) other);
  }

  -- the enrollment at the place takes what the list takes
  pub takes_at : (site : EnrollmentSite) → site ≡ get_or sites place site → IsTaken change sites → IsTrue (takes change.what site)
  takes_at site same taken =
      let at_place = rw (site_at change.object sites place site stands) at taken in
      subst (λ (s : EnrollmentSite). IsTrue (takes change.what s)) (sym same) at_place

  -- the list then takes what that enrollment takes
  pub taken_after : (site new : EnrollmentSite) (what : What) → site ≡ get_or sites place site → new.object ≡ site.object → IsTrue (takes what new) → IsTaken (record { object = change.object; what = what }) (set sites place new)
  taken_after site new what same object taken =
      let within = stands.within in
      let found = site_at change.object (set sites place new) place new (stands_after site new same object) in
      let here : get_or (set sites place new) place new ≡ new = get_or-set_same sites place new new within in
      rw found (subst (λ (s : EnrollmentSite). IsTrue (takes what s)) (sym here) taken)

  -- a write of the list is a write of the enrollment
  pub written_site : (site new : EnrollmentSite) → site ≡ get_or sites place site → new ≡ changed change.what site → set sites place new ≡ written change sites
  written_site site new same is =
      sym (written_at change.object (changed change.what) sites place site stands ∙ ap (λ s. set sites place (changed change.what s)) (sym same) ∙ ap (set sites place) (sym is))

  -- what gives the enrollment back gives the list back
  pub written_back : (site new : EnrollmentSite) (what : What) → site ≡ get_or sites place site → new.object ≡ site.object → changed what new ≡ site → written (record { object = change.object; what = what }) (set sites place new) ≡ sites
  written_back site new what same object back =
      let within = stands.within in
      let here : get_or (set sites place new) place new ≡ new = get_or-set_same sites place new new within in
      written_at change.object (changed what) (set sites place new) place new (stands_after site new same object)
      ∙ (ap (λ s. set (set sites place new) place (changed what s)) here
      ∙ (ap (set (set sites place new) place) (back ∙ same)
      ∙ (set-set sites place new (get_or sites place site) ∙ set-get_or sites place site)))

-- they are still the enrollments of a site
pub enrollments_after : (sites : List EnrollmentSite) (references : List Reference) (place : ℕ) (site new : EnrollmentSite) → site ≡ get_or sites place site → new.object ≡ site.object → AreEnrollments sites references → IsEnrollment new → AreEnrollments (set sites place new) references
enrollments_after sites references place site new same object h allowed = record {
  ascending = subst Ascends (sym (map-set_same identifier_of sites place new site (object ∙ ap identifier_of same))) h.ascending;
  allowed = All-set IsEnrollment sites place new allowed h.allowed;
  watched = h.watched;
}
