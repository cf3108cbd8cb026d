-- Event enrollments (ANSI/ASHRAE 135-2020, 12.12): which a site may have, and the one with an identifier.
use Rattle.std.specs.Prelude.{◌≡◌, ℕ, ◌<◌, ◌≤◌, ◌≢◌, Bool, true, false, IsTrue, IsNone, IsSome, IfSome, IsSomeAnd, Option, Some, List, length, map, find, slice_index_or}
use Rattle.bac_values.specs.EventTypes.{event_notify_type}
use Rattle.bac_values.specs.declared.object_kind.ObjectKind.{ObjectKind}
use Rattle.bac_values.specs.declared.object_kind.ObjectKind.TheVariants.{BinaryValue, EventEnrollment, MultiStateValue, BitStringValue, CharacterStringValue, IntegerValue, PositiveIntegerValue}
use Rattle.bac_values.specs.Identifier.{kind_of, number_of_kind, ObjectIdData}
use Rattle.algorithm_rules.specs.declared.table.Algorithm.{Algorithm}
use Rattle.algorithm_rules.specs.declared.table.Algorithm.TheVariants.{CommandFailure, UnsignedRange}
use Rattle.object_table.specs.Objects.{AreTexts, IsBinaryValue}
use Rattle.object_table.specs.Rows.{Ascends, is_object}
use Rattle.enrollment.specs.declared.enrollment_site.EnrollmentSite.{EnrollmentSite}

-- the types of objects whose present value may be monitored
abbrev pub is_value_kind : Option ObjectKind → Bool
is_value_kind (Some BinaryValue) = true
is_value_kind (Some MultiStateValue) = true
is_value_kind (Some BitStringValue) = true
is_value_kind (Some CharacterStringValue) = true
is_value_kind (Some IntegerValue) = true
is_value_kind (Some PositiveIntegerValue) = true
is_value_kind _ = false

-- those of them whose present value is an Unsigned
abbrev pub is_unsigned_kind : Option ObjectKind → Bool
is_unsigned_kind (Some MultiStateValue) = true
is_unsigned_kind (Some PositiveIntegerValue) = true
is_unsigned_kind _ = false

-- COMMAND_FAILURE: the feedback is an object of the monitored one's type, and there are no limits
pub record HasFeedback (site : EnrollmentSite) : Type 0 where
  pub feedback : IsSomeAnd site.feedback (λ feedback. feedback.number ≡ site.monitored.number)
  pub low : site.low ≡ 0
  pub high : site.high ≡ 0

-- UNSIGNED_RANGE: the monitored value is an Unsigned, and there is no feedback
pub record HasRange (site : EnrollmentSite) : Type 0 where
  pub monitored : IsTrue (is_unsigned_kind (kind_of site.monitored.number))
  pub feedback : IsNone site.feedback

-- an enrollment has one of these two algorithms
abbrev pub KeepsAlgorithm : Algorithm → EnrollmentSite → Type 0
KeepsAlgorithm CommandFailure site = HasFeedback site
KeepsAlgorithm UnsignedRange site = HasRange site
KeepsAlgorithm _ site = ⊥

-- an enrollment that a site may have: its type is 9, it monitors a value object, and it is inhibited by reference alone, or by Event_Algorithm_Inhibit alone
pub record IsEnrollment (site : EnrollmentSite) : Type 0 where
  pub number : site.object.number ≡ number_of_kind EventEnrollment
  pub instance : site.object.instance ≤ 4194302
  pub monitored : IsTrue (is_value_kind (kind_of site.monitored.number))
  pub algorithm : KeepsAlgorithm site.algorithm site
  pub notify : site.notify ≤ event_notify_type
  pub enable : length site.enable ≡ 3
  pub inhibit : IsSome site.inhibit_ref → site.inhibit ≡ false
  pub reference : IfSome site.inhibit_ref IsBinaryValue
  pub texts : AreTexts site.texts

abbrev pub identifier_of : EnrollmentSite → ObjectIdData
identifier_of site = site.object

-- enrollments in the order of their identifiers
abbrev pub AscendById : List EnrollmentSite → Type 0
AscendById sites = Ascends (map identifier_of sites)

-- the enrollment with an identifier
abbrev pub site_of : ObjectIdData → List EnrollmentSite → Option EnrollmentSite
site_of object sites = find (λ site. is_object object site.object) sites

-- the enrollment at the place is that one, and no other is
pub record StandsAt (object : ObjectIdData) (sites : List EnrollmentSite) (place : ℕ) : Type 0 where
  pub within : place < length sites
  pub here : (d : EnrollmentSite) → is_object object (slice_index_or sites place d).object ≡ true
  pub others : (k : ℕ) (d : EnrollmentSite) → k < length sites → k ≢ place → is_object object (slice_index_or sites k d).object ≡ false
