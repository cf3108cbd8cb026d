-- How much a site may have.
use Rattle.std.specs.Prelude.{ℕ, ◌+◌, ◌≤◌, length, All, sum_by}
use Rattle.bac_values.specs.Limits.{most_bindings, most_classes, most_destinations, most_logs, most_objects, most_records}
use Rattle.event_log.specs.declared.log_site.LogSite.{LogSite}
use Rattle.notify_class.specs.declared.class_site.ClassSite.{ClassSite}
use Rattle.alarm_core.specs.declared.site.Site.{Site}

abbrev pub HasFewDestinations : ClassSite → Type 0
HasFewDestinations listed = length listed.class.destinations ≤ most_destinations

abbrev pub size_of : LogSite → ℕ
size_of listed = listed.size

-- value objects and enrollments together, classes and their destinations, logs and their records together, and bindings
pub record KeepsLimits (site : Site) : Type 0 where
  pub objects : length site.objects + length site.enrollments ≤ most_objects
  pub classes : length site.classes ≤ most_classes
  pub destinations : All HasFewDestinations site.classes
  pub logs : length site.logs ≤ most_logs
  pub records : sum_by size_of site.logs ≤ most_records
  pub bindings : length site.bindings ≤ most_bindings
