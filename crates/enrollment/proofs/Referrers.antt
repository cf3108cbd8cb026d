-- Who refers to an object is told by identifiers and references alone, which no write changes.
use Rattle.std.proofs.Common.{◌≡◌, Bool, true, false, cond, if◌then◌else◌, nat_lt, not, Option, Some, None, List, [], ◌∷◌, ◌++◌, map, refl, ap, ap₂, sym, ◌∙◌}
use Rattle.std.specs.List.{filter}
use Rattle.bac_values.specs.declared.value.Value.{Value}
use Rattle.bac_values.specs.declared.value.Value.TheVariants.{Bool as Truth, Unsigned, Signed, Bits}
use Rattle.object_table.specs.declared.change.Change.{Change}
use Rattle.object_table.specs.declared.change.What.{What}
use Rattle.object_table.specs.declared.change.What.TheVariants.{Property, FieldFault}
use Rattle.object_table.specs.declared.object_property.ObjectProperty.{ObjectProperty}
use Rattle.object_table.specs.declared.object_property.ObjectProperty.TheVariants.{PresentValue, OutOfService, ReliabilityEvaluationInhibit, TimeDelay, TimeDelayNormal, HighLimit, LowLimit, Deadband, LimitEnable, AlarmValue, EventEnable, EventAlgorithmInhibit}
use Rattle.object_table.specs.declared.object_site.ObjectSite.{ObjectSite}
use Rattle.object_table.specs.declared.row.Row.{Row}
use Rattle.object_table.specs.Properties as object_properties
use Rattle.object_table.specs.Rows.{is_object, rows_of}
use Rattle.object_table.specs.Writes as table
use Rattle.enrollment.specs.declared.enrollment_property.EnrollmentProperty.{EnrollmentProperty}
use Rattle.enrollment.specs.declared.enrollment_property.EnrollmentProperty.TheVariants as of_enrollments
use Rattle.enrollment.specs.declared.enrollment_site.EnrollmentSite.{EnrollmentSite}
use Rattle.enrollment.specs.Objects.{EnrollmentsState, ObjectsState, written as all_written}
use Rattle.enrollment.specs.Properties.{property_of}
use Rattle.enrollment.specs.References.{enrollments_in, enrollments_of, references_of}
use Rattle.enrollment.specs.Watchers.{Referrer, referrer_of_enrollment, referrer_of_object, referrers_in, referrers_of, site_in}
use Rattle.enrollment.specs.Writes.{changed, set_by, set_known, written}

-- a change keeps an object's identifier, and to whom it refers
known_row : (property : ObjectProperty) (value : Value) (site : ObjectSite) → referrer_of_object (table.set_known property value site) ≡ referrer_of_object site
known_row PresentValue value site = refl
known_row OutOfService (Truth truth) site = refl
known_row ReliabilityEvaluationInhibit (Truth truth) site = refl
known_row TimeDelay (Unsigned seconds) site = refl
known_row TimeDelayNormal (Unsigned seconds) site = refl
known_row HighLimit (Signed limit) site = refl
known_row HighLimit (Unsigned limit) site = refl
known_row LowLimit (Signed limit) site = refl
known_row LowLimit (Unsigned limit) site = refl
known_row Deadband (Unsigned deadband) site = refl
known_row LimitEnable (Bits flags) site = refl
known_row AlarmValue value site = refl
known_row EventEnable (Bits flags) site = refl
known_row EventAlgorithmInhibit (Truth truth) site = refl
known_row _ _ site = refl

set_row : (property : Option ObjectProperty) (value : Value) (site : ObjectSite) → referrer_of_object (table.set_by property value site) ≡ referrer_of_object site
set_row None value site = refl
set_row (Some property) value site = known_row property value site

pub changed_row : (what : What) (row : Row) → referrer_of_object (table.changed what row).site ≡ referrer_of_object row.site
changed_row (Property property value) row = set_row (object_properties.property_of property.0) value row.site
changed_row (FieldFault reliability) row = refl

known_site : (property : EnrollmentProperty) (value : Value) (site : EnrollmentSite) → referrer_of_enrollment (set_known property value site) ≡ referrer_of_enrollment site
known_site of_enrollments.EventEnable (Bits flags) site = refl
known_site of_enrollments.EventAlgorithmInhibit (Truth truth) site = refl
known_site _ _ site = refl

set_site : (property : Option EnrollmentProperty) (value : Value) (site : EnrollmentSite) → referrer_of_enrollment (set_by property value site) ≡ referrer_of_enrollment site
set_site None value site = refl
set_site (Some property) value site = known_site property value site

pub changed_site : (what : What) (site : EnrollmentSite) → referrer_of_enrollment (changed what site) ≡ referrer_of_enrollment site
changed_site (Property property value) site = set_site (property_of property.0) value site
changed_site (FieldFault reliability) site = refl

-- ---- lists

module _ {X Y : Type 0} (f : X → Y) where
  -- those of some are some of those of all
  by_test : (q : Y → Bool) (x : X) (kept : List X) (b : Bool) → map f (cond b (x ∷ kept) kept) ≡ cond b (f x ∷ map f kept) (map f kept)
  by_test q x kept true = refl
  by_test q x kept false = refl

  sifted : (q : Y → Bool) (xs : List X) → map f (filter (λ x. q (f x)) xs) ≡ filter q (map f xs)
  sifted q [] = refl
  sifted q (x ∷ xs) = by_test q x (filter (λ y. q (f y)) xs) (q (f x)) ∙ ap (λ ys. cond (q (f x)) (f x ∷ ys) ys) (sifted q xs)

  some_alike : (q : Y → Bool) (xs ys : List X) → map f xs ≡ map f ys → map f (filter (λ x. q (f x)) xs) ≡ map f (filter (λ x. q (f x)) ys)
  some_alike q xs ys same = sifted q xs ∙ ap (filter q) same ∙ sym (sifted q ys)

  -- some are changed, and their images stay
  kept_by : (change : X → X) → ((x : X) → f (change x) ≡ f x) → (b : Bool) (x : X) → f (if b then change x else x) ≡ f x
  kept_by change keeps true x = keeps x
  kept_by change keeps false x = refl

  images_stay : (test : X → Bool) (change : X → X) → ((x : X) → f (change x) ≡ f x) → (xs : List X) → map f (map (λ x. if test x then change x else x) xs) ≡ map f xs
  images_stay test change keeps [] = refl
  images_stay test change keeps (x ∷ xs) = ap₂ (λ y ys. y ∷ ys) (kept_by change keeps (test x) x) (images_stay test change keeps xs)

-- ---- referrers

-- they are told by the referrers of each of the two lists
pub same_referrers : (objects others : List ObjectSite) (enrollments new : List EnrollmentSite) → map referrer_of_object objects ≡ map referrer_of_object others → map referrer_of_enrollment enrollments ≡ map referrer_of_enrollment new →
    referrers_of objects enrollments ≡ referrers_of others new
same_referrers objects others enrollments new of_objects of_enrollments =
    ap₂ (λ xs ys. xs ++ ys) (some_alike referrer_of_object (λ (r : Referrer). nat_lt r.object.number 9) objects others of_objects)
    (ap₂ (λ xs ys. xs ++ ys) of_enrollments (some_alike referrer_of_object (λ (r : Referrer). not (nat_lt r.object.number 9)) objects others of_objects))

of_row : Row → Referrer
of_row row = referrer_of_object row.site

by_rows : (rows : List Row) → map referrer_of_object (map site_in rows) ≡ map of_row rows
unfolding of_row
by_rows [] = refl
by_rows (row ∷ rows) = ap (λ rs. referrer_of_object row.site ∷ rs) (by_rows rows)

pub rows_refer : (change : Change) (rows : List Row) → map referrer_of_object (map site_in (table.written change rows)) ≡ map referrer_of_object (map site_in rows)
unfolding of_row
rows_refer change rows =
    by_rows (table.written change rows)
    ∙ images_stay of_row (λ (row : Row). is_object change.object row.site.object) (table.changed change.what) (changed_row change.what) rows
    ∙ sym (by_rows rows)

pub sites_refer : (change : Change) (sites : List EnrollmentSite) → map referrer_of_enrollment (written change sites) ≡ map referrer_of_enrollment sites
sites_refer change sites = images_stay referrer_of_enrollment (λ (site : EnrollmentSite). is_object change.object site.object) (changed change.what) (changed_site change.what) sites

-- a write changes none
pub referrers_stay : (change : Change) (objects : ObjectsState) → referrers_in (all_written change objects) ≡ referrers_in objects
referrers_stay change objects =
    same_referrers (map site_in (table.written change objects.rows)) (map site_in objects.rows) (written change objects.enrollments) objects.enrollments (rows_refer change objects.rows) (sites_refer change objects.enrollments)

-- so enrollments have the references of all objects after a write of a value object, or of an enrollment
pub known_after_row : (change : Change) (enrollments : EnrollmentsState) (rows after : List Row) → after ≡ table.written change rows → enrollments ≡ enrollments_in (record { rows = rows; enrollments = enrollments.sites }) →
    enrollments ≡ enrollments_in (record { rows = after; enrollments = enrollments.sites })
known_after_row change enrollments rows after is known =
    let same : referrers_of (map site_in rows) enrollments.sites ≡ referrers_of (map site_in after) enrollments.sites =
    sym (ap (λ rs. referrers_of (map site_in rs) enrollments.sites) is ∙ same_referrers (map site_in (table.written change rows)) (map site_in rows) enrollments.sites enrollments.sites (rows_refer change rows) refl) in
    known ∙ (λ k. record { sites = enrollments.sites; references = references_of (same k) })

pub known_after_site : (change : Change) (enrollments new : EnrollmentsState) (rows : List Row) → new.sites ≡ written change enrollments.sites → new.references ≡ enrollments.references → enrollments ≡ enrollments_in (record { rows = rows; enrollments = enrollments.sites }) →
    new ≡ enrollments_in (record { rows = rows; enrollments = new.sites })
known_after_site change enrollments new rows is same known =
    let sites : map referrer_of_enrollment enrollments.sites ≡ map referrer_of_enrollment new.sites = sym (ap (map referrer_of_enrollment) is ∙ sites_refer change enrollments.sites) in
    let alike : referrers_of (map site_in rows) enrollments.sites ≡ referrers_of (map site_in rows) new.sites = same_referrers (map site_in rows) (map site_in rows) enrollments.sites new.sites refl sites in
    let references : new.references ≡ references_of (referrers_of (map site_in rows) new.sites) = same ∙ ap (λ (e : EnrollmentsState). e.references) known ∙ ap references_of alike in
    λ k. record { sites = new.sites; references = references k }

-- ---- what Objects asks of enrollments

-- where rows have the identifiers and the references of the site's objects, the enrollments of that site have the references of both
pub known_by_rows : (objects : List ObjectSite) (sites : List EnrollmentSite) (enrollments : EnrollmentsState) (rows : List Row) → enrollments ≡ enrollments_of objects sites → map referrer_of_object (map site_in rows) ≡ map referrer_of_object objects →
    enrollments ≡ enrollments_in (record { rows = rows; enrollments = enrollments.sites })
known_by_rows objects sites enrollments rows is alike =
    let own : sites ≡ enrollments.sites = sym (ap (λ (e : EnrollmentsState). e.sites) is) in
    let same : referrers_of objects sites ≡ referrers_of (map site_in rows) enrollments.sites = same_referrers objects (map site_in rows) sites enrollments.sites (sym alike) (ap (map referrer_of_enrollment) own) in
    is ∙ (λ k. record { sites = own k; references = references_of (same k) })

pub sites_of_rows : (objects : List ObjectSite) → map site_in (rows_of objects) ≡ objects
sites_of_rows [] = refl
sites_of_rows (site ∷ objects) = ap (λ sites. site ∷ sites) (sites_of_rows objects)

-- so they have with the table with which the site begins
pub known_at_first : (objects : List ObjectSite) (sites : List EnrollmentSite) (enrollments : EnrollmentsState) (rows : List Row) → enrollments ≡ enrollments_of objects sites → rows ≡ rows_of objects →
    enrollments ≡ enrollments_in (record { rows = rows; enrollments = enrollments.sites })
known_at_first objects sites enrollments rows is first = known_by_rows objects sites enrollments rows is (ap (map referrer_of_object) (ap (map site_in) first ∙ sites_of_rows objects))
