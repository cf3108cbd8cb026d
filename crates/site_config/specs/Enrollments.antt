-- Event enrollments (ANSI/ASHRAE 135-2020, 12.12).
use Rattle.std.specs.Prelude.{ℕ, List, Option, Some, None, codes, Result, Ok}
use Rattle.toml.specs.Data.{Data, Members, get_member}
use Rattle.algorithm_rules.specs.declared.table.Algorithm.{Algorithm}
use Rattle.algorithm_rules.specs.declared.table.Algorithm.TheVariants.{CommandFailure, UnsignedRange}
use Rattle.bac_values.specs.Identifier.{ObjectIdData}
use Rattle.bac_values.specs.declared.object_kind.ObjectKind.TheVariants as kinds
use Rattle.enrollment.specs.declared.enrollment_site.EnrollmentSite.{EnrollmentSite}
use Rattle.site_config.specs.declared.enrollment_item.Watch.{Watch}
use Rattle.toml_items.specs.declared.item_fault.ItemFault.{ItemFault}
use Rattle.site_config.specs.declared.keys.Keys.{Keys}
use Rattle.site_config.specs.declared.keys.Keys.TheVariants.{Enrollment}
use Rattle.site_config.specs.AlarmKeys.{alarm_keys_of}
use Rattle.toml_items.specs.Answers.{◌>>=◌}
use Rattle.site_config.specs.Devices.{object_with, name_of}
use Rattle.toml_items.specs.Members.{required, optional_value}
use Rattle.site_config.specs.Values.{instance_in, algorithm_in, object_in}
use Rattle.toml_items.specs.Values.{unsigned_in, last_unsigned}

-- an enrollment has the keys of its algorithm, and of both where it isn't known
abbrev pub known_algorithm : Option Data → Option Algorithm
known_algorithm None = None
known_algorithm (Some d) = algorithm_in d

abbrev pub keys_of_enrollment : Members → Keys
keys_of_enrollment ms = Enrollment (known_algorithm (get_member (codes "algorithm") ms))

-- only COMMAND_FAILURE has a feedback
abbrev pub feedback_of : Algorithm → Members → Result (Option ObjectIdData) ItemFault
feedback_of CommandFailure ms = optional_value (required object_in (codes "feedback") ms)
feedback_of _ ms = Ok None

-- only UNSIGNED_RANGE has limits
abbrev pub range_limit : Algorithm → List ℕ → Members → Result ℕ ItemFault
range_limit UnsignedRange key ms = required (unsigned_in 0 last_unsigned) key ms
range_limit _ key ms = Ok 0

-- what is watched, and by which algorithm
unfoldable pub watch_of : Members → Result Watch ItemFault
watch_of ms = do
  algorithm ← required algorithm_in (codes "algorithm") ms
  monitored ← required object_in (codes "monitored") ms
  feedback ← feedback_of algorithm ms
  low ← range_limit algorithm (codes "low") ms
  high ← range_limit algorithm (codes "high") ms
  Ok (record { algorithm = algorithm; monitored = monitored; feedback = feedback; low = low; high = high })

unfoldable pub enrollment_of : Members → Result EnrollmentSite ItemFault
enrollment_of ms = do
  instance ← required instance_in (codes "instance") ms
  name ← name_of (object_with kinds.EventEnrollment instance) ms
  class ← required instance_in (codes "class") ms
  watch ← watch_of ms
  alarm ← alarm_keys_of ms
  Ok (record {
    object = object_with kinds.EventEnrollment instance;
    name = name;
    class = class;
    algorithm = watch.algorithm;
    monitored = watch.monitored;
    feedback = watch.feedback;
    low = watch.low;
    high = watch.high;
    notify = alarm.notify;
    enable = alarm.enable;
    time_delay = alarm.time_delay;
    time_delay_normal = alarm.time_delay_normal;
    detection = alarm.detection;
    inhibit = alarm.inhibit;
    inhibit_ref = alarm.inhibit_ref;
    texts = alarm.texts;
  })
