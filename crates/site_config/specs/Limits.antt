-- How much a site may have.
use Rattle.std.specs.Prelude.{ℕ, ◌+◌, ◌==◌, nat_lt, Bool, List, length, count_by, sum_by, unwrap_or, Result, Ok, Err, if◌then◌else◌}
use Rattle.bac_values.specs.Limits.{most_bindings, most_classes, most_destinations, most_logs, most_objects, most_records}
use Rattle.std.specs.BTreeMap.{BTreeMap, get}
use Rattle.std.specs.List.{list_any}
use Rattle.std.specs.Ordering.{nat_cmp}
use Rattle.event_log.specs.declared.log_site.LogSite.{LogSite}
use Rattle.site_config.specs.declared.destination.DestinationSite.{DestinationSite}
use Rattle.site_config.specs.declared.draft.Draft.{Draft}
use Rattle.site_config.specs.declared.fault.Counted.TheVariants.{Records}
use Rattle.site_config.specs.declared.fault.Counted.TheVariants as counted
use Rattle.site_config.specs.declared.fault.Section.TheVariants.{Class, Destination, Object, Enrollment, Log, Binding}
use Rattle.site_config.specs.declared.fault.SiteFault.{SiteFault}
use Rattle.site_config.specs.declared.fault.SiteFault.TheVariants.{TooMany}

-- the destinations of a class
abbrev pub names_class : ℕ → DestinationSite → Bool
names_class class destination = destination.class.instance == class

abbrev pub count_of : ℕ → List DestinationSite → ℕ
count_of class destinations = count_by (names_class class) destinations

-- how many a map counts of a class
abbrev pub count_in : BTreeMap ℕ ℕ → ℕ → ℕ
count_in counts class = unwrap_or (get nat_cmp counts class) 0

-- more destinations name one class than a class may have
abbrev pub are_crowded : List DestinationSite → Bool
are_crowded destinations = list_any (λ destination. nat_lt most_destinations (count_of destination.class.instance destinations)) destinations

abbrev pub size_of : LogSite → ℕ
size_of log = log.size

-- by section, and then the records of all logs
abbrev pub limits_of : Draft → Result (Unit {0}) SiteFault
limits_of draft =
    if nat_lt most_classes (length draft.classes) then Err (TooMany (counted.Section Class)) else
    (if are_crowded draft.destinations then Err (TooMany (counted.Section Destination)) else
    (if nat_lt most_objects (length draft.objects) then Err (TooMany (counted.Section Object)) else
    (if nat_lt most_objects (length draft.objects + length draft.enrollments) then Err (TooMany (counted.Section Enrollment)) else
    (if nat_lt most_logs (length draft.logs) then Err (TooMany (counted.Section Log)) else
    (if nat_lt most_bindings (length draft.bindings) then Err (TooMany (counted.Section Binding)) else
    (if nat_lt most_records (sum_by size_of draft.logs) then Err (TooMany Records) else Ok tt))))))
