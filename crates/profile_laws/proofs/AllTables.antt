-- ALL knows each property of the tables, and each object has an identifier.
use Rattle.std.proofs.Common.{◌≡◌, ℕ, Bool, true, false, true≢false, cond, ◌==◌, ◌||◌, if◌then◌else◌, Option, Some, None, is_some, List, [], ◌∷◌, refl, sym, subst}
use Rattle.std.specs.List.{find, list_all}
use Rattle.std.proofs.lemmas.Bool.{eqb-true}
use Rattle.bac_values.specs.Errors.{unknown_property_error}
use Rattle.bac_values.specs.Identifier.{ObjectIdData}
use Rattle.notify_class.specs.declared.class_site.ClassSite.{ClassSite}
use Rattle.object_table.specs.Rows.{is_object}
use Rattle.object_table.specs.declared.row.Row.{Row}
use Rattle.enrollment.specs.declared.enrollment_site.EnrollmentSite.{EnrollmentSite}
use Rattle.summaries.specs.Many.{readable_properties}
use Rattle.alarm_core.specs.declared.site.Site.{Site}
use Rattle.alarm_core.specs.Devices.{device_object, listed_class}
use Rattle.alarm_core.specs.Logs.{SiteLogState}
use Rattle.profile_laws.specs.ErrorTables.{first_error}
use Rattle.profile_laws.specs.PropertyTables.{PropertyRow, device_properties, if_there, properties_by, properties_of_class, property_in}
use Rattle.profile_laws.proofs.Listed.{and_both, is_among}
use Rattle.profile_laws.proofs.Tests.{index_rows, table}

-- a property that a table has is one that ALL knows, where all of its rows are
abbrev knows : PropertyRow → Bool
knows row = is_among readable_properties row.number

covered : (number : ℕ) (rows : List PropertyRow) → list_all knows rows ≡ true → is_some (find (λ (row : PropertyRow). row.number == number) rows) ≡ true → is_among readable_properties number ≡ true
covered number [] all found = absurd (true≢false (sym found))
covered number (row ∷ rows) all found = by_number (covered number rows (and_both (knows row) (list_all knows rows) all).1) (row.number == number) refl found
  where
    by_number : (is_some (find (λ (r : PropertyRow). r.number == number) rows) ≡ true → is_among readable_properties number ≡ true) → (b : Bool) → (row.number == number) ≡ b → is_some (cond b (Some row) (find (λ (r : PropertyRow). r.number == number) rows)) ≡ true → is_among readable_properties number ≡ true
    by_number more true e f = subst (λ (n : ℕ). is_among readable_properties n ≡ true) (eqb-true row.number number e) (and_both (knows row) (list_all knows rows) all).0
    by_number more false e f = more f

found_if_there : (row : Option PropertyRow) → is_some (if_there row) ≡ true → is_some row ≡ true
found_if_there None h = h
found_if_there (Some row) h = refl

module _ (site : Site) (object : ObjectIdData) where
  others_known : (device : Bool) (listed : Option ClassSite) → list_all knows (if device then device_properties site else properties_of_class listed) ≡ true
  others_known true listed = refl
  others_known false (Some listed) = refl
  others_known false None = refl

  rows_known : (enrollment : Option EnrollmentSite) (row : Option Row) (kept : Option SiteLogState) → list_all knows (properties_by site object enrollment row kept) ≡ true
  rows_known (Some enrollment) row kept = refl
  rows_known None (Some row) kept = refl
  rows_known None None (Some kept) = refl
  rows_known None None None = others_known (is_object object (device_object site)) (listed_class object site.classes)

  pub known_to_all : (enrollment : Option EnrollmentSite) (row : Option Row) (kept : Option SiteLogState) (number : ℕ) →
      is_some (property_in number (properties_by site object enrollment row kept)) ≡ true → is_among readable_properties number ≡ true
  known_to_all enrollment row kept number h =
      covered number (properties_by site object enrollment row kept) (rows_known enrollment row kept)
      (found_if_there (find (λ (r : PropertyRow). r.number == number) (properties_by site object enrollment row kept)) h)

  others_identified : (device : Bool) (listed : Option ClassSite) → (device || (is_some listed || false)) ≡ true →
      is_some (property_in 75 (if device then device_properties site else properties_of_class listed)) ≡ true
  others_identified true listed h = refl
  others_identified false (Some listed) h = refl
  others_identified false None h = absurd (true≢false (sym h))

  -- what is there has an Object_Identifier
  pub has_identifier : (enrollment : Option EnrollmentSite) (row : Option Row) (kept : Option SiteLogState) →
      (is_object object (device_object site) || (is_some row || (is_some (listed_class object site.classes) || (is_some enrollment || is_some kept)))) ≡ true →
      is_some (property_in 75 (properties_by site object enrollment row kept)) ≡ true
  has_identifier (Some enrollment) row kept h = refl
  has_identifier None (Some row) kept h = refl
  has_identifier None None (Some kept) h = refl
  has_identifier None None None h = others_identified (is_object object (device_object site)) (listed_class object site.classes) h

-- ---- the first error of a read without an index, of an object that is there

sized : (size : Option ℕ) → first_error (index_rows size None []) ≡ None
sized None = refl
sized (Some size) = refl

pub none_where_there : (rules : Option PropertyRow) → is_some rules ≡ true → first_error (table false rules None []) ≡ None
none_where_there None h = absurd (true≢false (sym h))
none_where_there (Some rules) h = sized rules.size

pub unknown_where_not : (rules : Option PropertyRow) → is_some rules ≡ false → first_error (table false rules None []) ≡ Some unknown_property_error
unknown_where_not None h = refl
unknown_where_not (Some rules) h = absurd (true≢false h)
