-- The site of a workload: what its generated text says, item by item.
use Rattle.std.specs.Prelude.{ℕ, ◌+◌, ◌*◌, ◌%◌, pos, true, false, Bool, Some, None, List, [], ◌∷◌, ◌++◌, map, codes}
use Rattle.bac_values.specs.BitString.{string_of_flags}
use Rattle.bac_values.specs.Identifier.{ObjectIdData, number_of_kind}
use Rattle.bac_values.specs.declared.object_kind.ObjectKind.{ObjectKind}
use Rattle.bac_values.specs.declared.object_kind.ObjectKind.TheVariants.{BinaryValue, BitStringValue, CharacterStringValue, Device, EventEnrollment, EventLog, IntegerValue, MultiStateValue, NotificationClass, PositiveIntegerValue}
use Rattle.bac_values.specs.declared.value.Value.{Value}
use Rattle.bac_values.specs.declared.value.Value.TheVariants.{Bits, Enumerated, Signed, Text, Unsigned}
use Rattle.algorithm_rules.specs.declared.table.Algorithm.TheVariants.{CommandFailure, UnsignedRange}
use Rattle.object_table.specs.declared.object_site.ObjectSite.{ObjectSite}
use Rattle.enrollment.specs.declared.enrollment_site.EnrollmentSite.{EnrollmentSite}
use Rattle.event_log.specs.declared.log_site.LogSite.{LogSite}
use Rattle.notify_class.specs.Recipients.{DestinationData}
use Rattle.notify_class.specs.declared.class_site.ClassSite.{ClassSite}
use Rattle.property_values.specs.declared.device_site.DeviceSite.{DeviceSite}
use Rattle.alarm_core.specs.declared.site.Site.{Site}
use Rattle.script_lines.specs.Report.{object_text}

-- an object of this kind and instance
abbrev pub numbered : ObjectKind → ℕ → ObjectIdData
numbered kind instance = record { number = number_of_kind kind; instance = instance }

abbrev pub all_transitions : List Bool
all_transitions = true ∷ true ∷ true ∷ []

-- device 2000, which starts at 2023-11-14 22:13:20 UTC
abbrev pub generated_device : DeviceSite
generated_device = record {
  instance = 2000;
  name = object_text (numbered Device 2000);
  vendor = 0;
  start = 1_700_000_000_000;
  zone_minutes = pos 0;
  zone_rule = None;
  apdu_timeout = 3000;
  retries = 3;
  outbox = 256;
  flush_silent = false;
}

-- a recipient at 10.1.0.PROCESS, on all days at all times, of all transitions
abbrev pub generated_recipient : ℕ → Bool → DestinationData
generated_recipient process confirmed = record {
  days = 127;
  from = 0;
  to = 8_639_999;
  peer = record { ip = (10 * 256 + 1) * 65536 + process; port = 47808; net = 0; mac = [] };
  process = process;
  confirmed = confirmed;
  transitions = all_transitions;
}

abbrev pub generated_class : ℕ → List DestinationData → ClassSite
generated_class instance destinations = record {
  name = object_text (numbered NotificationClass instance);
  class = record {
    instance = instance;
    priority = 10 * instance ∷ 20 * instance ∷ 30 * instance ∷ [];
    ack_required = true ∷ true ∷ false ∷ [];
    destinations = destinations;
  };
}

-- the first has two recipients, the second one, the third two
abbrev pub generated_classes : List ClassSite
generated_classes =
    generated_class 1 (generated_recipient 1 true ∷ generated_recipient 2 false ∷ [])
    ∷ generated_class 2 (generated_recipient 3 true ∷ [])
    ∷ generated_class 3 (generated_recipient 4 true ∷ generated_recipient 5 false ∷ [])
    ∷ []

-- what the objects have in common: of an object with this instance the class is one of the three in turn, and the delay 5 to 8 seconds in turn
abbrev pub generated_object : ObjectKind → Value → ℕ → ObjectSite
generated_object kind value instance = record {
  object = numbered kind instance;
  name = object_text (numbered kind instance);
  value = value;
  out_of_service = false;
  reliability_inhibit = false;
  states = 0;
  fault_low = None;
  fault_high = None;
  fault_values = [];
  class = Some (1 + instance % 3);
  notify = 0;
  enable = all_transitions;
  time_delay = 5 + instance % 4;
  time_delay_normal = None;
  detection = true;
  inhibit = false;
  inhibit_ref = None;
  texts = [];
  low = pos 0;
  high = pos 0;
  deadband = 0;
  limit_enable = false ∷ false ∷ [];
  alarm_value = None;
  alarm_values = [];
  mask = None;
}

-- limits 20 and 80, both enabled, and a deadband of 5
abbrev pub with_limits : ObjectSite → ObjectSite
with_limits object = record object { low = pos 20; high = pos 80; deadband = 5; limit_enable = true ∷ true ∷ [] }

abbrev pub generated_integer : ℕ → ObjectSite
generated_integer instance = with_limits (generated_object IntegerValue (Signed (pos 50)) instance)

abbrev pub generated_positive : ℕ → ObjectSite
generated_positive instance = with_limits (generated_object PositiveIntegerValue (Unsigned 50) instance)

-- inactive, and in alarm where it is active
abbrev pub generated_binary : ℕ → ObjectSite
generated_binary instance = record (generated_object BinaryValue (Enumerated 0) instance) { alarm_value = Some (Enumerated 1) }

-- in the first of four states, the third and the fourth of which are alarms
abbrev pub generated_multi_state : ℕ → ObjectSite
generated_multi_state instance = record (generated_object MultiStateValue (Unsigned 1) instance) { states = 4; alarm_values = Unsigned 3 ∷ Unsigned 4 ∷ [] }

-- four bits, the last two of which are compared
abbrev pub generated_bits : ℕ → ObjectSite
generated_bits instance = record (generated_object BitStringValue (Bits (string_of_flags (false ∷ false ∷ false ∷ false ∷ []))) instance) {
  mask = Some (string_of_flags (false ∷ false ∷ true ∷ true ∷ []));
  alarm_values = Bits (string_of_flags (false ∷ false ∷ false ∷ true ∷ [])) ∷ Bits (string_of_flags (false ∷ false ∷ true ∷ false ∷ [])) ∷ [];
}

abbrev pub generated_text : ℕ → ObjectSite
generated_text instance = record (generated_object CharacterStringValue (Text (codes "ok")) instance) { alarm_values = Text (codes "fire") ∷ Text (codes "leak") ∷ [] }

-- forty objects, of the six kinds in turn: the first seven, or six, of those whose instances leave the same remainder by six
abbrev pub first_seven : ℕ → List ℕ
first_seven first = first ∷ (first + 6) ∷ (first + 12) ∷ (first + 18) ∷ (first + 24) ∷ (first + 30) ∷ (first + 36) ∷ []

abbrev pub first_six : ℕ → List ℕ
first_six first = first ∷ (first + 6) ∷ (first + 12) ∷ (first + 18) ∷ (first + 24) ∷ (first + 30) ∷ []

-- the objects of a site stand by ascending identifier: by the number of their type, then by instance
abbrev pub generated_objects : List ObjectSite
generated_objects =
    map generated_binary (first_seven 2) ++ map generated_multi_state (first_seven 3) ++ map generated_bits (first_six 4)
    ++ map generated_text (first_six 5) ++ map generated_integer (first_seven 0) ++ map generated_positive (first_seven 1)

-- what the two enrollments have in common
abbrev pub generated_enrollment : ℕ → EnrollmentSite
generated_enrollment instance = record {
  object = numbered EventEnrollment instance;
  name = object_text (numbered EventEnrollment instance);
  class = 1;
  algorithm = UnsignedRange;
  monitored = numbered PositiveIntegerValue 1;
  feedback = None;
  low = 0;
  high = 0;
  notify = 0;
  enable = all_transitions;
  time_delay = 5;
  time_delay_normal = None;
  detection = true;
  inhibit = false;
  inhibit_ref = None;
  texts = [];
}

abbrev pub generated_enrollments : List EnrollmentSite
generated_enrollments =
    record (generated_enrollment 1) { low = 20; high = 80 }
    ∷ record (generated_enrollment 2) { algorithm = CommandFailure; monitored = numbered IntegerValue 0; feedback = Some (numbered IntegerValue 6) }
    ∷ []

abbrev pub generated_log : ℕ → Bool → List ℕ → LogSite
generated_log instance stops classes = record {
  object = numbered EventLog instance;
  name = object_text (numbered EventLog instance);
  size = 64;
  stop_when_full = stops;
  enable = true;
  classes = classes;
}

abbrev pub generated_site : Site
generated_site = record {
  device = generated_device;
  classes = generated_classes;
  objects = generated_objects;
  enrollments = generated_enrollments;
  logs = generated_log 1 false (1 ∷ 2 ∷ []) ∷ generated_log 2 true (3 ∷ []) ∷ [];
  bindings = [];
}
