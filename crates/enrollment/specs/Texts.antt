-- The texts of transitions (ANSI/ASHRAE 135-2020, 12.12, Event_Message_Texts_Config, and 13.8.1.6).
use Rattle.std.specs.Prelude.{ℕ, Option, Some, None, List, [], ◌∷◌, slice_get}
use Rattle.std.specs.Option.{option_and_then}
use Rattle.bac_values.specs.EventStates.{place_of_transition}
use Rattle.bac_values.specs.Identifier.{ObjectIdData}
use Rattle.bac_values.specs.declared.transition.Transition.{Transition}
use Rattle.object_table.specs.declared.row.Row.{Row}
use Rattle.object_table.specs.Rows.{row_of}
use Rattle.enrollment.specs.declared.enrollment_site.EnrollmentSite.{EnrollmentSite}
use Rattle.enrollment.specs.Enrollments.{site_of}
use Rattle.enrollment.specs.Objects.{ObjectsState}

-- the texts of an enrollment or a value object; none where it is neither
abbrev pub texts_by : Option EnrollmentSite → Option Row → List (List ℕ)
texts_by (Some site) row = site.texts
texts_by None (Some row) = row.site.texts
texts_by None None = []

abbrev pub texts_in : ObjectIdData → ObjectsState → List (List ℕ)
texts_in object objects = texts_by (site_of object objects.enrollments) (row_of object objects.rows)

-- a text that isn't empty
abbrev pub if_not_empty : List ℕ → Option (List ℕ)
if_not_empty [] = None
if_not_empty (octet ∷ octets) = Some (octet ∷ octets)

-- the Message Text of a transition: the object's text for it, where it has texts and this one isn't empty
abbrev pub told_text : Transition → List (List ℕ) → Option (List ℕ)
told_text transition texts = option_and_then if_not_empty (slice_get texts (place_of_transition transition))
