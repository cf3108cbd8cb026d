-- The reliability of event enrollments (ANSI/ASHRAE 135-2020, 12.12, Reliability: MONITORED_OBJECT_FAULT).
use Rattle.std.specs.Prelude.{Bool, true, false, ◌||◌, Option, Some, None, List, if◌then◌else◌}
use Rattle.bac_values.specs.declared.reliability.Reliability.{Reliability}
use Rattle.bac_values.specs.declared.reliability.Reliability.TheVariants.{NoFaultDetected, MonitoredObjectFault}
use Rattle.bac_values.specs.Identifier.{ObjectIdData}
use Rattle.object_table.specs.declared.row.Row.{Row}
use Rattle.reliability_eval.specs.Reliability.{reliability_in}
use Rattle.enrollment.specs.declared.enrollment_site.EnrollmentSite.{EnrollmentSite}
use Rattle.enrollment.specs.Enrollments.{site_of}

abbrev pub is_fault : Reliability → Bool
is_fault NoFaultDetected = false
is_fault _ = true

-- whether a value object has a fault; there is none where there is no such object
abbrev pub has_fault : ObjectIdData → List Row → Bool
has_fault object rows = is_fault (reliability_in object rows)

abbrev pub feedback_has_fault : Option ObjectIdData → List Row → Bool
feedback_has_fault (Some feedback) rows = has_fault feedback rows
feedback_has_fault None rows = false

-- an enrollment has a fault where its monitored object or its feedback has one
abbrev pub reliability_of_enrollment : EnrollmentSite → List Row → Reliability
reliability_of_enrollment site rows = if has_fault site.monitored rows || feedback_has_fault site.feedback rows then MonitoredObjectFault else NoFaultDetected

abbrev pub reliability_by_site : Option EnrollmentSite → ObjectIdData → List Row → Reliability
reliability_by_site (Some site) object rows = reliability_of_enrollment site rows
reliability_by_site None object rows = reliability_in object rows

-- the reliability of an enrollment or a value object, and none where it is neither
abbrev pub reliability_with : ObjectIdData → List EnrollmentSite → List Row → Reliability
reliability_with object sites rows = reliability_by_site (site_of object sites) object rows
