-- What a change of another object leaves as it was.
use Rattle.std.proofs.Common.{arith, ◌≡◌, Bool, true, false, ◌||◌, Option, Some, None, if◌then◌else◌, cond, not, List, [], ◌∷◌, ◌++◌, map, refl, ap, ap₂, sym, ◌∙◌}
use Rattle.std.specs.List.{All, filter, find, list_any}
use Rattle.std.specs.Option.{option_and_then, option_map, option_to_list}
use Rattle.std.proofs.lemmas.Bool.{cond-false, cond-true, or_parts, true≢false}
use Rattle.std.proofs.lemmas.Bool.Decides.{nat_tests}
use Rattle.std.proofs.lemmas.List.Elements.{All-cons, All-head, All-nil, All-tail}
use Rattle.std.proofs.lemmas.List.Folds.{list_any-append}
use Rattle.bac_values.specs.Identifier.{ObjectIdData}
use Rattle.bac_values.specs.declared.reliability.Reliability.TheVariants.{NoFaultDetected, MonitoredObjectFault}
use Rattle.object_table.specs.declared.change.Change.{Change}
use Rattle.object_table.specs.declared.row.Row.{Row}
use Rattle.object_table.specs.Rows.{is_object, row_of}
use Rattle.object_table.specs.Writes as table
use Rattle.reliability_eval.specs.Reliability.{reliability_found}
use Rattle.enrollment.specs.declared.enrollment_site.EnrollmentSite.{EnrollmentSite}
use Rattle.enrollment.specs.Enrollments.{identifier_of, site_of}
use Rattle.enrollment.specs.Laws.{WatchersAreAllThatRefer}
use Rattle.enrollment.specs.Objects.{ObjectsState}
use Rattle.enrollment.specs.Reliabilities.{feedback_has_fault, is_fault, reliability_by_site}
use Rattle.enrollment.specs.Snapshots.{facts_by_site, facts_of_enrollment, facts_of_row, value_in}
use Rattle.enrollment.specs.Subjects.{inhibited_by, inhibited_with, is_active, is_before_enrollments, subject_by}
use Rattle.enrollment.specs.Watchers.{Referrer, identifier_of_referrer, referrer_of_enrollment, referrer_of_object, referrers_in, refers_to, site_in, watchers}
use Rattle.enrollment.specs.Writes.{changed, written}
use Rattle.enrollment.proofs.Parted.{found_passes}
use Rattle.enrollment.proofs.Referrers.{changed_row, changed_site}
use Rattle.enrollment.proofs.Seen.{found_has}

-- an object that is one and not another
other_one : (a b c : ObjectIdData) → is_object a b ≡ false → is_object b c ≡ true → is_object a c ≡ false
other_one a b c other same = grind (arith, nat_tests)

-- where some elements of a list are changed and none that would be found, the same is found
module _ {X : Type 0} (object_of : X → ObjectIdData) (change : X → X) (keeps : (x : X) → object_of (change x) ≡ object_of x) (object changed : ObjectIdData) (other : is_object changed object ≡ false) where
  abbrev altered : X → X
  altered x = if is_object changed (object_of x) then change x else x

  abbrev is_it : X → Bool
  is_it x = is_object object (object_of x)

  keeps_by : (b : Bool) (x : X) → object_of (if b then change x else x) ≡ object_of x
  keeps_by true x = keeps x
  keeps_by false x = refl

  alike : (x : X) → is_it (altered x) ≡ is_it x
  alike x = ap (is_object object) (keeps_by (is_object changed (object_of x)) x)

  unaltered : (x : X) → is_it x ≡ true → altered x ≡ x
  unaltered x here = cond-false _ _ _ (other_one changed object (object_of x) other here)

  found_by : (b : Bool) (x : X) (later rest : Option X) → is_it x ≡ b → later ≡ rest → cond (is_it (altered x)) (Some (altered x)) later ≡ cond b (Some x) rest
  found_by true x later rest here same = cond-true _ _ _ (alike x ∙ here) ∙ ap Some (unaltered x here)
  found_by false x later rest here same = cond-false _ _ _ (alike x ∙ here) ∙ same

  same_found : (xs : List X) → find is_it (map altered xs) ≡ find is_it xs
  same_found [] = refl
  same_found (x ∷ xs) = found_by (is_it x) x (find is_it (map altered xs)) (find is_it xs) refl (same_found xs)

row_same : (change : Change) (object : ObjectIdData) (rows : List Row) → is_object change.object object ≡ false → row_of object (table.written change rows) ≡ row_of object rows
row_same change object rows other =
    same_found (λ (row : Row). row.site.object) (table.changed change.what) (λ row. ap identifier_of_referrer (changed_row change.what row)) object change.object other rows

site_same : (change : Change) (object : ObjectIdData) (sites : List EnrollmentSite) → is_object change.object object ≡ false → site_of object (written change sites) ≡ site_of object sites
site_same change object sites other =
    same_found identifier_of (changed change.what) (λ site. ap identifier_of_referrer (changed_site change.what site)) object change.object other sites

-- ---- who isn't a watcher doesn't refer

-- what is said of all is said of all of a part
module _ {X : Type 0} (P : X → Type 0) where
  in_front : (xs ys : List X) → All P (xs ++ ys) → All P xs
  in_front [] ys h = All-nil P
  in_front (x ∷ xs) ys h = All-cons P x xs (All-head P x (xs ++ ys) h) (in_front xs ys (All-tail P x (xs ++ ys) h))

  in_back : (xs ys : List X) → All P (xs ++ ys) → All P ys
  in_back [] ys h = h
  in_back (x ∷ xs) ys h = in_back xs ys (All-tail P x (xs ++ ys) h)

  of_images : {Y : Type 0} (f : Y → X) (ys : List Y) → All P (map f ys) → All (λ y. P (f y)) ys
  of_images f [] h = All-nil (λ y. P (f y))
  of_images f (y ∷ ys) h = All-cons (λ z. P (f z)) y ys (All-head P (f y) (map f ys) h) (of_images f ys (All-tail P (f y) (map f ys) h))

  by_one : (b : Bool) (x : X) (kept left xs : List X) → (All P kept → All P left → All P xs) → All P (cond b (x ∷ kept) kept) → All P (cond (not b) (x ∷ left) left) → All P (x ∷ xs)
  by_one true x kept left xs rest h g = All-cons P x xs (All-head P x kept h) (rest (All-tail P x kept h) g)
  by_one false x kept left xs rest h g = All-cons P x xs (All-head P x left g) (rest h (All-tail P x left g))

  in_either : (p : X → Bool) (xs : List X) → All P (filter p xs) → All P (filter (λ x. not (p x)) xs) → All P xs
  in_either p [] h g = All-nil P
  in_either p (x ∷ xs) h g = by_one (p x) x (filter p xs) (filter (λ y. not (p y)) xs) xs (in_either p xs) h g

-- the referrer is another object, or doesn't refer to the object
abbrev IsNone : ObjectIdData → ObjectIdData → Referrer → Type 0
IsNone object referred referrer = is_object object referrer.object ≡ true → refers_to referred referrer ≡ false

abbrev AreOthers : ObjectIdData → List Referrer → Type 0
AreOthers object referrers = All (λ watcher. is_object object watcher ≡ false) (map identifier_of_referrer referrers)

refers_by : (refers : Bool) (object referred : ObjectIdData) (referrer : Referrer) (kept : List Referrer) → refers_to referred referrer ≡ refers → AreOthers object (cond refers (referrer ∷ kept) kept) → IsNone object referred referrer × AreOthers object kept
refers_by true object referred referrer kept refers others = (
  λ same. absurd (true≢false (sym same ∙ All-head (λ watcher. is_object object watcher ≡ false) referrer.object (map identifier_of_referrer kept) others)),
  All-tail (λ watcher. is_object object watcher ≡ false) referrer.object (map identifier_of_referrer kept) others,
)
refers_by false object referred referrer kept refers others = (λ same. refers, others)

refers_not : (object referred : ObjectIdData) (referrers : List Referrer) → AreOthers object (filter (refers_to referred) referrers) → All (IsNone object referred) referrers
refers_not object referred [] others = All-nil (IsNone object referred)
refers_not object referred (referrer ∷ referrers) others =
    let parts = refers_by (refers_to referred referrer) object referred referrer (filter (refers_to referred) referrers) refl others in
    All-cons (IsNone object referred) referrer referrers parts.0 (refers_not object referred referrers parts.1)

-- the enrollment, and the value object, that is found doesn't refer to an object of which it is no watcher
abbrev SiteRefersNot : ObjectIdData → Option EnrollmentSite → Type 0
SiteRefersNot referred None = Unit {0}
SiteRefersNot referred (Some site) = refers_to referred (referrer_of_enrollment site) ≡ false

abbrev RowRefersNot : ObjectIdData → Option Row → Type 0
RowRefersNot referred None = Unit {0}
RowRefersNot referred (Some row) = refers_to referred (referrer_of_object row.site) ≡ false

site_not : (object referred : ObjectIdData) (sites : List EnrollmentSite) (found : Option EnrollmentSite) → found ≡ site_of object sites → All (λ site. IsNone object referred (referrer_of_enrollment site)) sites → SiteRefersNot referred found
site_not object referred sites None is all = tt
site_not object referred sites (Some site) is all =
    found_has (λ s. IsNone object referred (referrer_of_enrollment s)) (λ s. is_object object s.object) sites site is all (found_passes (λ (s : EnrollmentSite). is_object object s.object) sites site (sym is))

row_not : (object referred : ObjectIdData) (rows : List Row) (found : Option Row) → found ≡ row_of object rows → All (λ row. IsNone object referred (referrer_of_object row.site)) rows → RowRefersNot referred found
row_not object referred rows None is all = tt
row_not object referred rows (Some row) is all =
    found_has (λ r. IsNone object referred (referrer_of_object r.site)) (λ r. is_object object r.site.object) rows row is all (found_passes (λ (r : Row). is_object object r.site.object) rows row (sym is))

-- neither of the two refers to it
neither : (object referred : ObjectIdData) (objects : ObjectsState) → All (λ watcher. is_object object watcher ≡ false) (watchers referred (referrers_in objects)) → SiteRefersNot referred (site_of object objects.enrollments) × RowRefersNot referred (row_of object objects.rows)
neither object referred objects others =
    let sites = map site_in objects.rows in
    let P : Referrer → Type 0 = IsNone object referred in
    let before = map referrer_of_object (filter is_before_enrollments sites) in
    let between = map referrer_of_enrollment objects.enrollments in
    let behind = map referrer_of_object (filter (λ site. not (is_before_enrollments site)) sites) in
    let all : All P (before ++ (between ++ behind)) = refers_not object referred (referrers_in objects) others in
    let rest = in_back P before (between ++ behind) all in
    let of_sites = in_either (λ site. P (referrer_of_object site)) is_before_enrollments sites
    (of_images P referrer_of_object (filter is_before_enrollments sites) (in_front P before (between ++ behind) all))
    (of_images P referrer_of_object (filter (λ site. not (is_before_enrollments site)) sites) (in_back P between behind rest)) in (
      site_not object referred objects.enrollments (site_of object objects.enrollments) refl (of_images P referrer_of_enrollment objects.enrollments (in_front P between behind rest)),
      row_not object referred objects.rows (row_of object objects.rows) refl (of_images (λ site. P (referrer_of_object site)) site_in objects.rows of_sites),
    )

-- the objects to which an enrollment refers are others
parts_of : (referred : ObjectIdData) (site : EnrollmentSite) → refers_to referred (referrer_of_enrollment site) ≡ false →
    record { monitored : is_object referred site.monitored ≡ false; feedback : list_any (is_object referred) (option_to_list site.feedback) ≡ false; inhibitor : list_any (is_object referred) (option_to_list site.inhibit_ref) ≡ false }
parts_of referred site not =
    let feedback = option_to_list site.feedback in
    let inhibitor = option_to_list site.inhibit_ref in
    let first = or_parts (is_object referred site.monitored) (list_any (is_object referred) (feedback ++ inhibitor)) not in
    let later = or_parts (list_any (is_object referred) feedback) (list_any (is_object referred) inhibitor) (sym (list_any-append (is_object referred) feedback inhibitor) ∙ first.1) in
    record { monitored = first.0; feedback = later.0; inhibitor = later.1 }

-- ---- the values, and the faults, of what it refers to are the same

value_same : (change : Change) (object : ObjectIdData) (rows : List Row) → is_object change.object object ≡ false → value_in (table.written change rows) object ≡ value_in rows object
value_same change object rows other = ap (option_map (λ (row : Row). row.site.value)) (row_same change object rows other)

feedback_value_same : (change : Change) (feedback : Option ObjectIdData) (rows : List Row) → list_any (is_object change.object) (option_to_list feedback) ≡ false → option_and_then (value_in (table.written change rows)) feedback ≡ option_and_then (value_in rows) feedback
feedback_value_same change None rows other = refl
feedback_value_same change (Some feedback) rows other = value_same change feedback rows (or_parts (is_object change.object feedback) false other).0

facts_by : (change : Change) (object : ObjectIdData) (found : Option EnrollmentSite) (rows : List Row) → is_object change.object object ≡ false → SiteRefersNot change.object found →
    facts_by_site found object (table.written change rows) ≡ facts_by_site found object rows
facts_by change object None rows other not = ap facts_of_row (row_same change object rows other)
facts_by change object (Some site) rows other not =
    let parts = parts_of change.object site not in
    ap₂ (λ feedback value. option_map (λ v. facts_of_enrollment v feedback site) value) (feedback_value_same change site.feedback rows parts.feedback) (value_same change site.monitored rows parts.monitored)

fault_same : (change : Change) (object : ObjectIdData) (rows : List Row) → is_object change.object object ≡ false → is_fault (reliability_found (row_of object (table.written change rows))) ≡ is_fault (reliability_found (row_of object rows))
fault_same change object rows other = ap (λ row. is_fault (reliability_found row)) (row_same change object rows other)

feedback_fault_same : (change : Change) (feedback : Option ObjectIdData) (rows : List Row) → list_any (is_object change.object) (option_to_list feedback) ≡ false → feedback_has_fault feedback (table.written change rows) ≡ feedback_has_fault feedback rows
feedback_fault_same change None rows other = refl
feedback_fault_same change (Some feedback) rows other = fault_same change feedback rows (or_parts (is_object change.object feedback) false other).0

reliability_by : (change : Change) (object : ObjectIdData) (found : Option EnrollmentSite) (rows : List Row) → is_object change.object object ≡ false → SiteRefersNot change.object found →
    reliability_by_site found object (table.written change rows) ≡ reliability_by_site found object rows
reliability_by change object None rows other not = ap reliability_found (row_same change object rows other)
reliability_by change object (Some site) rows other not =
    let parts = parts_of change.object site not in
    ap₂ (λ one two. if one || two then MonitoredObjectFault else NoFaultDetected) (fault_same change site.monitored rows parts.monitored) (feedback_fault_same change site.feedback rows parts.feedback)

inhibited_same : (change : Change) (reference : Option ObjectIdData) (inhibit : Bool) (rows : List Row) → list_any (is_object change.object) (option_to_list reference) ≡ false → inhibited_by reference inhibit (table.written change rows) ≡ inhibited_by reference inhibit rows
inhibited_same change None inhibit rows other = refl
inhibited_same change (Some referred) inhibit rows other = ap is_active (value_same change referred rows (or_parts (is_object change.object referred) false other).0)

inhibited_found : (change : Change) (site : Option EnrollmentSite) (row : Option Row) (rows : List Row) → SiteRefersNot change.object site → RowRefersNot change.object row →
    inhibited_with (subject_by site row) (table.written change rows) ≡ inhibited_with (subject_by site row) rows
inhibited_found change (Some site) row rows site_not row_not = inhibited_same change site.inhibit_ref site.inhibit rows (parts_of change.object site site_not).inhibitor
inhibited_found change None (Some row) rows site_not row_not = inhibited_same change row.site.inhibit_ref row.site.inhibit rows row_not
inhibited_found change None None rows site_not row_not = refl

pub watchers_are_all_that_refer : WatchersAreAllThatRefer
watchers_are_all_that_refer change object objects untouched =
    let rows = table.written change objects.rows in
    let site = site_same change object objects.enrollments untouched.other in
    let row = row_same change object objects.rows untouched.other in
    let not = neither object change.object objects untouched.no_watcher in
    record {
      site = site;
      row = row;
      facts = ap (λ found. facts_by_site found object rows) site ∙ facts_by change object (site_of object objects.enrollments) objects.rows untouched.other not.0;
      reliability = ap (λ found. reliability_by_site found object rows) site ∙ reliability_by change object (site_of object objects.enrollments) objects.rows untouched.other not.0;
      inhibited = ap₂ (λ s r. inhibited_with (subject_by s r) rows) site row ∙ inhibited_found change (site_of object objects.enrollments) (row_of object objects.rows) objects.rows not.0 not.1;
    }
