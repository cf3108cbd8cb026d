-- What the event algorithm of a value object or an enrollment looks at (ANSI/ASHRAE 135-2020, 13.2 and 13.3).
use Rattle.std.specs.Prelude.{pos, true, false, IsSome, IfSome, Option, Some, None, List, [], All, slice_index_or}
use Rattle.std.specs.Option.{option_and_then, option_map}
use Rattle.bac_values.specs.declared.object_kind.ObjectKind.{ObjectKind}
use Rattle.bac_values.specs.declared.object_kind.ObjectKind.TheVariants.{BitStringValue, CharacterStringValue, IntegerValue, PositiveIntegerValue}
use Rattle.bac_values.specs.declared.value.Value.{Value}
use Rattle.bac_values.specs.Identifier.{kind_of, ObjectIdData}
use Rattle.algorithm_rules.specs.declared.table.Algorithm.{Algorithm}
use Rattle.algorithm_rules.specs.declared.table.Algorithm.TheVariants.{ChangeOfBitstring, ChangeOfState, SignedOutOfRange, UnsignedOutOfRange, ChangeOfCharacterstring}
use Rattle.algorithm_rules.specs.Facts.{Facts}
use Rattle.object_table.specs.declared.object_site.ObjectSite.{ObjectSite}
use Rattle.object_table.specs.declared.row.Row.{Row}
use Rattle.object_table.specs.Rows.{row_of}
use Rattle.enrollment.specs.declared.enrollment_site.EnrollmentSite.{EnrollmentSite}
use Rattle.enrollment.specs.Enrollments.{site_of}

-- the event algorithm that each type of value object applies to its own present value
abbrev pub algorithm_of : Option ObjectKind → Algorithm
algorithm_of (Some BitStringValue) = ChangeOfBitstring
algorithm_of (Some CharacterStringValue) = ChangeOfCharacterstring
algorithm_of (Some IntegerValue) = SignedOutOfRange
algorithm_of (Some PositiveIntegerValue) = UnsignedOutOfRange
algorithm_of _ = ChangeOfState

abbrev pub algorithm_for : ObjectIdData → Algorithm
algorithm_for object = algorithm_of (kind_of object.number)

-- the algorithm of an enrollment is its own
abbrev pub algorithm_by_site : Option EnrollmentSite → ObjectIdData → Algorithm
algorithm_by_site (Some site) object = site.algorithm
algorithm_by_site None object = algorithm_for object

abbrev pub algorithm_with : ObjectIdData → List EnrollmentSite → Algorithm
algorithm_with object sites = algorithm_by_site (site_of object sites) object

-- what the algorithm of a value object looks at: its own present value and its own settings
abbrev pub facts_of_object : ObjectSite → Facts
facts_of_object object = record {
  value = object.value;
  feedback = None;
  alarm_value = object.alarm_value;
  alarm_values = object.alarm_values;
  mask = object.mask;
  low = object.low;
  high = object.high;
  low_enabled = slice_index_or object.limit_enable 0 false;
  high_enabled = slice_index_or object.limit_enable 1 false;
  deadband = object.deadband;
  time_delay = object.time_delay;
  time_delay_normal = object.time_delay_normal;
}

-- what the algorithm of an enrollment looks at: the values of other objects and its own settings. Its algorithms have no
-- Limit_Enable, no deadband, no mask and no alarm values: both limits count
abbrev pub facts_of_enrollment : Value → Option Value → EnrollmentSite → Facts
facts_of_enrollment value feedback site = record {
  value = value;
  feedback = feedback;
  alarm_value = None;
  alarm_values = [];
  mask = None;
  low = pos site.low;
  high = pos site.high;
  low_enabled = true;
  high_enabled = true;
  deadband = 0;
  time_delay = site.time_delay;
  time_delay_normal = site.time_delay_normal;
}

-- the present value of a value object
abbrev pub value_in : List Row → ObjectIdData → Option Value
value_in rows object = option_map (λ row. row.site.value) (row_of object rows)

-- an enrollment sees the present values of its monitored object and of its feedback, where it has one
abbrev pub facts_of_site : EnrollmentSite → List Row → Option Facts
facts_of_site site rows = option_map (λ value. facts_of_enrollment value (option_and_then (value_in rows) site.feedback) site) (value_in rows site.monitored)

abbrev pub facts_of_row : Option Row → Option Facts
facts_of_row row = option_map (λ row. facts_of_object row.site) row

abbrev pub facts_by_site : Option EnrollmentSite → ObjectIdData → List Row → Option Facts
facts_by_site (Some site) object rows = facts_of_site site rows
facts_by_site None object rows = facts_of_row (row_of object rows)

-- what the algorithm of an enrollment or a value object looks at, and nothing where it is neither
abbrev pub facts_with : ObjectIdData → List EnrollmentSite → List Row → Option Facts
facts_with object sites rows = facts_by_site (site_of object sites) object rows

-- the object of a reference is there, where there is one
abbrev pub HasReferred : List Row → Option ObjectIdData → Type 0
HasReferred rows reference = IfSome reference (λ referred. IsSome (row_of referred rows))

-- the objects to which an enrollment refers are there
pub record HasObjects (rows : List Row) (site : EnrollmentSite) : Type 0 where
  pub monitored : IsSome (row_of site.monitored rows)
  pub feedback : HasReferred rows site.feedback
  pub inhibitor : HasReferred rows site.inhibit_ref

-- a table holds all objects to which its own objects and enrollments refer
pub record Holds (rows : List Row) (sites : List EnrollmentSite) : Type 0 where
  pub objects : All (λ row. HasReferred rows row.site.inhibit_ref) rows
  pub enrollments : All (HasObjects rows) sites
