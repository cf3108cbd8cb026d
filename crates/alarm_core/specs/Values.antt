-- The properties of all objects of a site at its start, before any write.
use Rattle.object_table.specs.Rows.{rows_of}
use Rattle.enrollment.specs.Objects.{ObjectsState}
use Rattle.alarm_core.specs.declared.site.Site.{Site}

abbrev pub first_values : Site → ObjectsState
first_values site = record { rows = rows_of site.objects; enrollments = site.enrollments }
