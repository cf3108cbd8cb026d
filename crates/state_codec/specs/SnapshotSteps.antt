-- How what a snapshot has of a site is read: the value at the front of octets and the octets behind it, or nothing.
use Rattle.std.specs.Prelude.{◌≡◌, ℕ, zero, suc, Result, Ok, Err, ℤ, pos, ◌==◌, ◌&&◌, ◌||◌, not, nat_lt, nat_le, bytes_eq, if◌then◌else◌, Bool, true, false, Option, Some, None, is_some, List, [], ◌∷◌, ◌++◌, length, map, filter, sum_by}
use Rattle.std.specs.Int.{w16, w32, w64, cast_signed}
use Rattle.std.specs.List.{list_all}
use Rattle.std.specs.Option.{option_map_or}
use Rattle.std.specs.Ordering.{is_lt}
use Rattle.bac_values.specs.BitString.{two_flags}
use Rattle.bac_values.specs.Address.{PeerData}
use Rattle.bac_values.specs.EventStates.{state_of_number, transition_to}
use Rattle.bac_values.specs.Identifier.{ObjectIdData, number_of_kind}
use Rattle.bac_values.specs.Limits.{most_events, most_note_octets, most_peers}
use Rattle.bac_values.specs.Moments.{first_moment, last_moment}
use Rattle.bac_values.specs.Orders.{is_among, peer_order}
use Rattle.bac_values.specs.Reliabilities.{reliability_of_number}
use Rattle.bac_values.specs.declared.event_state.EventState.{EventState}
use Rattle.bac_values.specs.declared.event_state.EventState.TheVariants.{Offnormal}
use Rattle.bac_values.specs.declared.note.Note.{Note}
use Rattle.bac_values.specs.declared.object_kind.ObjectKind.{ObjectKind}
use Rattle.bac_values.specs.declared.object_kind.ObjectKind.TheVariants.{BinaryValue, EventEnrollment, IntegerValue, PositiveIntegerValue}
use Rattle.bac_values.specs.declared.reliability.Reliability.{Reliability}
use Rattle.bac_values.specs.declared.stamp.Stamp.{Stamp}
use Rattle.bac_values.specs.declared.transition.Transition.{Transition}
use Rattle.bac_values.specs.declared.transition.Transition.TheVariants.{ToOffnormal, ToFault, ToNormal}
use Rattle.bac_values.specs.declared.value.Value.{Value}
use Rattle.bac_values.specs.declared.value.Value.TheVariants.{Enumerated}
use Rattle.civil_stamp.specs.LocalTime.{ZoneData}
use Rattle.algorithm_rules.specs.Rules.{rules_of}
use Rattle.algorithm_rules.specs.declared.table.Algorithm.{Algorithm}
use Rattle.algorithm_rules.specs.declared.table.Rule.{Rule}
use Rattle.event_machine.specs.AlarmRecord.{is_same}
use Rattle.event_machine.specs.Summary.{AlarmState, new_alarm}
use Rattle.event_machine.specs.declared.run.Run.{Run}
use Rattle.event_log.specs.Log.{EventLogState, number_back}
use Rattle.event_log.specs.declared.log_record.LogRecord.{LogRecord}
use Rattle.event_log.specs.declared.log_site.LogSite.{LogSite}
use Rattle.notify_class.specs.Edits.{recipient_peers}
use Rattle.notify_class.specs.Recipients.{DestinationData}
use Rattle.notify_class.specs.declared.class.Class.{Class}
use Rattle.notify_class.specs.declared.class_site.ClassSite.{ClassSite}
use Rattle.outbox.specs.Outboxes.{OutboxState, peers_of, unfinished_in}
use Rattle.outbox.specs.Posts.{is_post, MailboxState}
use Rattle.alarm_core.specs.Evaluations.{site_zone}
use Rattle.alarm_core.specs.Logs.{SiteLogState, log_of}
use Rattle.alarm_core.specs.Parts.{state_of_parts}
use Rattle.alarm_core.specs.Room.{share_at}
use Rattle.alarm_core.specs.State.{CoreState}
use Rattle.alarm_core.specs.declared.parts.Parts.{Parts}
use Rattle.alarm_core.specs.declared.site.Site.{Site}
use Rattle.enrollment.specs.Subjects.{is_detecting, subject_of_enrollment, subjects_of}
use Rattle.enrollment.specs.References.{enrollments_in}
use Rattle.enrollment.specs.declared.subject.Subject.{Subject}
use Rattle.enrollment.specs.declared.enrollment_site.EnrollmentSite.{EnrollmentSite}
use Rattle.alarm_core.specs.SiteStates.{alarm_values_in, hundredths_shown, is_state_of}
use Rattle.state_codec.specs.Snapshots.{has_rule, no_state, version_of, written_alarm}
use Rattle.object_table.specs.Properties.{kind_in}
use Rattle.object_table.specs.Rows.{row_of}
use Rattle.object_table.specs.Values.{is_field_fault, is_present_value}
use Rattle.object_table.specs.declared.object_site.ObjectSite.{ObjectSite}
use Rattle.object_table.specs.declared.row.Row.{Row}
use Rattle.state_codec.specs.declared.fault.CodecFault.{CodecFault}
use Rattle.state_codec.specs.declared.fault.CodecFault.TheVariants as faults
use Rattle.state_codec.specs.declared.reading_keys.Keys.{Keys}
use Rattle.state_codec.specs.declared.reading_rows.Detection.{Detection}
use Rattle.state_codec.specs.declared.reading_rows.Settings.{Settings}
use Rattle.state_codec.specs.ReadingSteps.{◌>>=◌, then_at, last_at, either_at, nothing_at, done_at, value_if, octet_at, octets_at, number_at, flag_at, flags_at, state_at, peer_at, destinations_at, value_at}

-- ---- parts one behind the other

-- one part, and another that may depend on it
abbrev pub and_at : {A B : Type 0} → (List ℕ → Option (A × List ℕ)) → (A → List ℕ → Option (B × List ℕ)) → List ℕ → Option ((A × B) × List ℕ)
and_at read next = then_at read λ first. last_at (next first) λ second. Some (first, second)

-- what is made of a part
abbrev pub made_at : {A C : Type 0} → (List ℕ → Option (A × List ℕ)) → (A → C) → List ℕ → Option (C × List ℕ)
made_at read make = last_at read λ value. Some (make value)

-- a part that passes a test
abbrev pub where_at : {A : Type 0} → (List ℕ → Option (A × List ℕ)) → (A → Bool) → List ℕ → Option (A × List ℕ)
where_at read test = last_at read λ value. value_if (test value) value

-- a part that an object may lack, as one without a notification class does: then it is what such an object has there
abbrev pub kept_at : {A : Type 0} → Bool → (List ℕ → Option (A × List ℕ)) → (A → Bool) → List ℕ → Option (A × List ℕ)
kept_at has read is_absent = where_at read λ value. has || is_absent value

-- a part for each of some guides
unfoldable pub each_at : {S X : Type 0} → (S → List ℕ → Option (X × List ℕ)) → List S → List ℕ → Option (List X × List ℕ)
each_at read [] octets = Some ([], octets)
each_at read (guide ∷ guides) octets = read guide octets >>= λ first. each_at read guides first.1 >>= λ others. Some (first.0 ∷ others.0, others.1)

-- so many alike
unfoldable pub times_at : {X : Type 0} → (List ℕ → Option (X × List ℕ)) → ℕ → List ℕ → Option (List X × List ℕ)
times_at read zero octets = Some ([], octets)
times_at read (suc count) octets = read octets >>= λ first. times_at read count first.1 >>= λ others. Some (first.0 ∷ others.0, others.1)

-- one for each of three guides
abbrev pub three_at : {S X : Type 0} → (S → List ℕ → Option (X × List ℕ)) → S → S → S → List ℕ → Option (List X × List ℕ)
three_at read first second third = made_at (and_at (read first) λ a. and_at (read second) λ b. read third) λ x. x.0 ∷ x.1.0 ∷ x.1.1 ∷ []

-- ---- value objects

abbrev pub no_keys : Keys
no_keys = record { low = pos 0; high = pos 0; deadband = 0; limit_enable = false ∷ false ∷ []; alarm_value = None }

abbrev pub with_alarm_value : ℕ → Keys
with_alarm_value number = record { low = pos 0; high = pos 0; deadband = 0; limit_enable = false ∷ false ∷ []; alarm_value = Some (Enumerated number) }

abbrev pub with_limits : ℤ → ℤ → ℕ → List Bool → Keys
with_limits high low deadband limit_enable = record { low = low; high = high; deadband = deadband; limit_enable = limit_enable; alarm_value = None }

-- no flag of a list is set
abbrev pub are_clear : List Bool → Bool
are_clear flags = list_all not flags

abbrev pub two_flags_of : ℕ → Option (List Bool)
two_flags_of octet = value_if (nat_lt octet 4) (two_flags (record { size = 2; bits = octet }))

unfoldable pub two_flags_at : List ℕ → Option (List Bool × List ℕ)
two_flags_at = last_at octet_at two_flags_of

-- Time_Delay_Normal, which is there where the site has it
abbrev pub delay_of : Bool → Bool × ℕ → Option (Option ℕ)
delay_of true (true, seconds) = Some (Some seconds)
delay_of true (false, seconds) = None
delay_of false (true, seconds) = None
delay_of false (false, seconds) = value_if (seconds == 0) None

unfoldable pub delay_at : Bool → List ℕ → Option (Option ℕ × List ℕ)
delay_at has = last_at (and_at flag_at λ flag. number_at w32) (delay_of has)

-- a limit is a number with a sign, or without one
unfoldable pub signed_at : List ℕ → Option (ℤ × List ℕ)
signed_at = made_at (number_at w32) λ number. cast_signed w32 number

unfoldable pub unsigned_at : List ℕ → Option (ℤ × List ℕ)
unsigned_at = made_at (number_at w32) λ number. pos number

abbrev pub is_none : ℤ → Bool
is_none (pos zero) = true
is_none _ = false

unfoldable pub limits_at : (List ℕ → Option (ℤ × List ℕ)) → Bool → List ℕ → Option (Keys × List ℕ)
limits_at limit has =
    made_at (and_at (kept_at has limit is_none) λ high. and_at (kept_at has limit is_none) λ low. and_at (kept_at has (number_at w32) λ deadband. deadband == 0) λ deadband. kept_at has two_flags_at are_clear)
    λ x. with_limits x.0 x.1.0 x.1.1.0 x.1.1.1

abbrev pub alarm_value_of : Bool → ℕ → Option Keys
alarm_value_of true number = value_if (nat_le number 1) (with_alarm_value number)
alarm_value_of false number = value_if (number == 0) no_keys

-- what only some kinds have
unfoldable pub keys_at : Option ObjectKind → Bool → List ℕ → Option (Keys × List ℕ)
keys_at (Some IntegerValue) has = limits_at signed_at has
keys_at (Some PositiveIntegerValue) has = limits_at unsigned_at has
keys_at (Some BinaryValue) has = last_at (number_at w32) (alarm_value_of has)
keys_at _ has = done_at no_keys

unfoldable pub present_at : ObjectSite → List ℕ → Option (Value × List ℕ)
present_at site = where_at value_at (is_present_value (kind_in site) site)

-- Event_Enable, Time_Delay and its normal one, and the keys of the kind
unfoldable pub detection_at : ObjectSite → List ℕ → Option ((List Bool × (ℕ × (Option ℕ × Keys))) × List ℕ)
detection_at site =
    and_at (kept_at (is_some site.class) flags_at are_clear) λ enable.
    and_at (kept_at (is_some site.class) (number_at w32) λ seconds. seconds == 0) λ seconds.
    and_at (delay_at (is_some site.time_delay_normal)) λ normal.
    keys_at (kind_in site) (is_some site.class)

-- whether an object has an Event_Algorithm_Inhibit of its own: it has a notification class, and no other object inhibits it
abbrev pub has_inhibit : ObjectSite → Bool
has_inhibit site = is_some site.class && not (is_some site.inhibit_ref)

-- what a row has beside what its site says
abbrev pub SettingsData : Type 0
SettingsData = Value × (Bool × (Bool × (Bool × (ℕ × (List Bool × (ℕ × (Option ℕ × Keys)))))))

unfoldable pub settings_at : ObjectSite → List ℕ → Option (SettingsData × List ℕ)
settings_at site =
    and_at (present_at site) λ value.
    and_at flag_at λ out_of_service.
    and_at (kept_at (has_inhibit site) flag_at not) λ inhibit.
    and_at flag_at λ reliability_inhibit.
    and_at (where_at octet_at is_field_fault) λ field_fault.
    detection_at site

abbrev pub DetectionData : Type 0
DetectionData = List Bool × (ℕ × (Option ℕ × Keys))

abbrev pub detection_data : Detection → DetectionData
detection_data detection = (detection.enable, (detection.time_delay, (detection.time_delay_normal, detection.keys)))

abbrev pub settings_data : Settings → SettingsData
settings_data settings =
    (settings.value, (settings.out_of_service, (settings.inhibit, (settings.reliability_inhibit, (settings.field_fault, detection_data settings.detection)))))

abbrev pub detecting_with : ObjectSite → DetectionData → ObjectSite
detecting_with site x = record site {
  enable = x.0;
  time_delay = x.1.0;
  time_delay_normal = x.1.1.0;
  low = x.1.1.1.low;
  high = x.1.1.1.high;
  deadband = x.1.1.1.deadband;
  limit_enable = x.1.1.1.limit_enable;
  alarm_value = x.1.1.1.alarm_value;
}

abbrev pub object_with : ObjectSite → SettingsData → ObjectSite
object_with site x = record (detecting_with site x.1.1.1.1.1) { value = x.0; out_of_service = x.1.0; inhibit = x.1.1.0; reliability_inhibit = x.1.1.1.0 }

abbrev pub row_with : ObjectSite → SettingsData → Row
row_with site x = record { site = object_with site x; field_fault = x.1.1.1.1.0 }

-- the row of an object of a site
unfoldable pub row_at : ObjectSite → List ℕ → Option (Row × List ℕ)
row_at site = made_at (settings_at site) (row_with site)

-- ---- alarms

-- a state that the algorithm may lead to
unfoldable pub led_at : Algorithm → List ℕ → Option (EventState × List ℕ)
led_at algorithm = where_at state_at (is_state_of algorithm)

abbrev pub stamp_of : List ℕ → Stamp
stamp_of octets = record { octets = octets }

unfoldable pub stamp_at : List ℕ → Option (Stamp × List ℕ)
stamp_at = made_at (octets_at 8) stamp_of

abbrev pub stamps_at : List ℕ → Option (List Stamp × List ℕ)
stamps_at = three_at (λ (guide : Unit {0}). stamp_at) tt tt tt

abbrev pub entered_by : Transition → EventState → Option (Option EventState)
entered_by transition state = value_if (is_same transition (transition_to state)) (Some state)

-- the state that a transition entered, if it ever came
abbrev pub last_state_of : Transition → ℕ → Option (Option EventState)
last_state_of transition octet = if octet == no_state then Some None else state_of_number octet >>= entered_by transition

unfoldable pub last_state_at : Transition → List ℕ → Option (Option EventState × List ℕ)
last_state_at transition = last_at octet_at (last_state_of transition)

abbrev pub last_states_at : List ℕ → Option (List (Option EventState) × List ℕ)
last_states_at = three_at last_state_at ToOffnormal ToFault ToNormal

-- OFFNORMAL has a cause where there are alarm values
abbrev pub wants_cause : ℕ → EventState → Bool
wants_cause values Offnormal = nat_lt 0 values
wants_cause values state = false

abbrev pub cause_of : ℕ → EventState → ℕ → Option (Option ℕ)
cause_of values state zero = value_if (not (wants_cause values state)) None
cause_of values state (suc place) = value_if (nat_lt place values) (Some place)

unfoldable pub cause_at : ℕ → EventState → List ℕ → Option (Option ℕ × List ℕ)
cause_at values state = last_at (number_at w32) (cause_of values state)

unfoldable pub reliability_at : List ℕ → Option (Reliability × List ℕ)
reliability_at = last_at octet_at reliability_of_number

-- whether a run of the rule at a place may start then
abbrev pub may_start : List Rule → ℕ → ℕ → ℕ → Bool
may_start rules last place start = nat_lt place (length rules) && (nat_le first_moment start && (nat_le start last_moment && nat_le start last))

abbrev pub run_of : List Rule → ℕ → ℕ → Bool × (ℕ × ℕ) → Option (Option Run)
run_of rules last place (true, (start, key)) = value_if (may_start rules last place start) (Some (record { start = start; key = key }))
run_of rules last place (false, (start, key)) = value_if (start == 0 && key == 0) None

unfoldable pub run_at : Algorithm → EventState → ℕ → ℕ → List ℕ → Option (Option Run × List ℕ)
run_at algorithm state last place = last_at (and_at flag_at λ flag. and_at (number_at w64) λ start. number_at w32) (run_of (rules_of algorithm state) last place)

abbrev pub runs_at : Algorithm → EventState → ℕ → List ℕ → Option (List (Option Run) × List ℕ)
runs_at algorithm state last = three_at (run_at algorithm state last) 0 1 2

-- what an alarm has beside its state
abbrev pub TracesData : Type 0
TracesData = List Bool × (List Stamp × (List (Option EventState) × (Option ℕ × (Reliability × List (Option Run)))))

unfoldable pub traces_at : Algorithm → ℕ → ℕ → EventState → List ℕ → Option (TracesData × List ℕ)
traces_at algorithm values last state =
    and_at flags_at λ acked.
    and_at stamps_at λ stamps.
    and_at last_states_at λ last_states.
    and_at (cause_at values state) λ cause.
    and_at reliability_at λ reliability.
    runs_at algorithm state last

abbrev pub alarm_with : EventState × TracesData → AlarmState
alarm_with x = record {
  state = x.0;
  acked = x.1.0;
  stamps = x.1.1.0;
  last_states = x.1.1.1.0;
  cause = x.1.1.1.1.0;
  last_reliability = x.1.1.1.1.1.0;
  runs = x.1.1.1.1.1.1;
}

-- the alarm of an object with an algorithm and so many alarm values, until a last moment
unfoldable pub alarm_at : Algorithm → ℕ → ℕ → List ℕ → Option (AlarmState × List ℕ)
alarm_at algorithm values last = made_at (and_at (led_at algorithm) (traces_at algorithm values last)) alarm_with

-- the alarm of an object that was never looked at
unfoldable pub new_alarm_at : List ℕ → Option (AlarmState × List ℕ)
new_alarm_at = last_at (octets_at 73) λ octets. value_if (bytes_eq octets (written_alarm new_alarm)) new_alarm

-- ---- enrollments

-- Event_Algorithm_Inhibit, of an enrollment that no other object inhibits, and Event_Enable
unfoldable pub enrollment_at : EnrollmentSite → List ℕ → Option (EnrollmentSite × List ℕ)
enrollment_at site = made_at (and_at (kept_at (not (is_some site.inhibit_ref)) flag_at not) λ inhibit. flags_at) λ x. record site { inhibit = x.0; enable = x.1 }

-- ---- classes

abbrev pub class_with : Class → List DestinationData → Class
class_with class recipients = record class { destinations = recipients }

unfoldable pub class_at : Class → List ℕ → Option (Class × List ℕ)
class_at class = made_at destinations_at (class_with class)

-- ---- octets of notifications

-- at most as many octets as there may be, behind how many they are
unfoldable pub body_at : List ℕ → Option (List ℕ × List ℕ)
body_at = then_at (number_at w16) λ count. either_at (nat_le count most_note_octets) (octets_at count) nothing_at

-- ---- logs

-- the hundredths of a record: at a site with a zone rule they are written, elsewhere its stamp shows them
unfoldable pub hundredths_at : Bool → ZoneData → Stamp → List ℕ → Option (ℕ × List ℕ)
hundredths_at has_rule zone stamp = either_at has_rule (number_at w64) (done_at (hundredths_shown zone stamp))

abbrev pub entry_with : ℕ → Stamp × (ℕ × List ℕ) → LogRecord
entry_with sequence x = record { stamp = x.0; hundredths = x.1.0; sequence = sequence; body = x.1.1 }

-- the record with a number
unfoldable pub entry_at : Bool → ZoneData → ℕ → List ℕ → Option (LogRecord × List ℕ)
entry_at has_rule zone sequence = made_at (and_at stamp_at λ stamp. and_at (hundredths_at has_rule zone stamp) λ hundredths. body_at) (entry_with sequence)

-- the numbers of so many records, of which the last has the total
abbrev pub numbers_up_to : ℕ → ℕ → List ℕ
numbers_up_to total zero = []
numbers_up_to total (suc count) = number_back total count ∷ numbers_up_to total count

-- whether a log of a size may hold so many records
abbrev pub may_hold : ℕ → ℕ → ℕ → Bool
may_hold size total count = nat_le count size && (count == 0 || nat_lt 0 total)

unfoldable pub entries_at : Bool → ZoneData → ℕ → ℕ → List ℕ → Option (List LogRecord × List ℕ)
entries_at has_rule zone total count = each_at (entry_at has_rule zone) (numbers_up_to total count)

abbrev pub log_with : LogSite → Bool × (ℕ × (ℕ × List LogRecord)) → SiteLogState
log_with listed x = record { site = listed; log = record { size = listed.size; stops = listed.stop_when_full; enabled = x.0; total = x.1.0; records = x.1.1.1 } }

unfoldable pub log_at : Bool → ZoneData → LogSite → List ℕ → Option (SiteLogState × List ℕ)
log_at has_rule zone listed =
    made_at (and_at flag_at λ enabled. and_at (number_at w32) λ total. and_at (where_at (number_at w32) (may_hold listed.size total)) λ count. entries_at has_rule zone total count)
    (log_with listed)

-- ---- posts

abbrev pub note_with : PeerData → Bool × List ℕ → Note
note_with peer x = record { peer = peer; confirmed = x.0; body = x.1 }

unfoldable pub note_at : PeerData → List ℕ → Option (Note × List ℕ)
note_at peer = made_at (and_at flag_at λ confirmed. body_at) (note_with peer)

abbrev pub PostData : Type 0
PostData = PeerData × (ℕ × (ℕ × (ℕ × (ℕ × List Note))))

abbrev pub post_with : PostData → MailboxState
post_with x = record { peer = x.0; next_invoke = x.1.0; attempts = x.1.1.0; deadline = x.1.1.1.0; notes = x.1.1.1.1.1 }

unfoldable pub post_at : List ℕ → Option (MailboxState × List ℕ)
post_at =
    made_at (and_at peer_at λ peer. and_at octet_at λ invoke. and_at octet_at λ attempts. and_at (number_at w64) λ deadline. and_at (number_at w16) λ count. times_at (note_at peer) count)
    post_with

-- the posts, behind how many they are
unfoldable pub posts_at : List ℕ → Option (List MailboxState × List ℕ)
posts_at = made_at (and_at (number_at w16) λ count. times_at post_at count) λ x. x.1

-- ---- the lists of a site

abbrev pub listed_class_at : ClassSite → List ℕ → Option (Class × List ℕ)
listed_class_at listed = class_at listed.class

abbrev pub classes_at : List ClassSite → List ℕ → Option (List Class × List ℕ)
classes_at = each_at listed_class_at

-- whether lists leave room in the outbox of a site: the notifications of one transition of every object are no more than may wait
abbrev pub leave_room : Site → List Class → Bool
leave_room site classes = nat_le (sum_by (share_at site) classes) site.device.outbox

-- the classes of a site, with such lists
unfoldable pub site_classes_at : Site → List ℕ → Option (List Class × List ℕ)
site_classes_at site = where_at (classes_at site.classes) (leave_room site)

-- a log of a site with what it holds
abbrev pub kept_with : LogSite → EventLogState → SiteLogState
kept_with listed log = record { site = listed; log = log }

-- ---- subjects

-- how many alarm values the object with an identifier has, by its row
abbrev pub values_in : ObjectIdData → List Row → ℕ
values_in object rows = option_map_or alarm_values_in (row_of object rows) 0

-- the alarm of a subject: where its event detection isn't enabled, that of an object that was never looked at
unfoldable pub subject_at : List Row → ℕ → Subject → List ℕ → Option (AlarmState × List ℕ)
subject_at rows last subject = either_at (is_detecting subject) (alarm_at subject.algorithm (values_in subject.object rows) last) new_alarm_at

abbrev pub alarms_at : List Row → ℕ → List Subject → List ℕ → Option (List AlarmState × List ℕ)
alarms_at rows last = each_at (subject_at rows last)

-- an enrollment and its alarm
unfoldable pub enrolled_at : List Row → ℕ → EnrollmentSite → List ℕ → Option ((AlarmState × EnrollmentSite) × List ℕ)
enrolled_at rows last site = and_at (subject_at rows last (subject_of_enrollment site)) λ alarm. enrollment_at site

abbrev pub all_enrolled_at : List Row → ℕ → List EnrollmentSite → List ℕ → Option (List (AlarmState × EnrollmentSite) × List ℕ)
all_enrolled_at rows last = each_at (enrolled_at rows last)

-- whether a value object with alarms stands before the enrollments, or behind them
abbrev pub is_before : Subject → Bool
is_before subject = is_some subject.class && nat_lt subject.object.number (number_of_kind EventEnrollment)

abbrev pub is_behind : Subject → Bool
is_behind subject = is_some subject.class && not (nat_lt subject.object.number (number_of_kind EventEnrollment))

-- what the event detection of the value objects of a site is set to
abbrev pub object_subjects : Site → List Subject
object_subjects site = subjects_of site.objects []

-- ---- the logs of a site

-- what a log of a site holds
unfoldable pub held_at : Bool → ZoneData → LogSite → List ℕ → Option (EventLogState × List ℕ)
held_at has_rule zone listed = made_at (log_at has_rule zone listed) log_of

abbrev pub logs_at : Bool → ZoneData → List LogSite → List ℕ → Option (List EventLogState × List ℕ)
logs_at has_rule zone = each_at (held_at has_rule zone)

-- ---- the outbox of a site

abbrev pub ascends : List PeerData → Bool
ascends [] = true
ascends (peer ∷ peers) = list_all (λ other. is_lt (peer_order peer other)) peers && ascends peers

-- whether a site may have an outbox with these posts
abbrev pub may_have_posts : Site → List MailboxState → Bool
may_have_posts site posts =
    nat_le (length posts) most_peers
    && (ascends (peers_of posts) && (nat_le (unfinished_in posts) site.device.outbox && list_all (is_post site.device.retries) posts))

-- whether each recipient of some classes is known
abbrev pub knows_class : List PeerData → Class → Bool
knows_class known class = list_all (is_among known) (recipient_peers class.destinations)

abbrev pub knows_classes : List PeerData → List Class → Bool
knows_classes known classes = list_all (knows_class known) classes

abbrev pub are_posts_of : Site → List Class → List MailboxState → Bool
are_posts_of site classes posts = may_have_posts site posts && knows_classes (peers_of posts) classes

unfoldable pub outbox_at : Site → List Class → List ℕ → Option (List MailboxState × List ℕ)
outbox_at site classes = where_at posts_at (are_posts_of site classes)

abbrev pub outbox_with : Site → List MailboxState → OutboxState
outbox_with site posts = record { posts = posts; limit = site.device.outbox; timeout = site.device.apdu_timeout; retries = site.device.retries; flush_silent = site.device.flush_silent }

unfoldable pub site_outbox_at : Site → List Class → List ℕ → Option (OutboxState × List ℕ)
site_outbox_at site classes = made_at (outbox_at site classes) (outbox_with site)

-- ---- all of it

-- the version of the site's snapshots
unfoldable pub version_at : Site → List ℕ → Option (ℕ × List ℕ)
version_at site = where_at octet_at λ version. version == version_of site

-- how many events there were
unfoldable pub events_at : List ℕ → Option (ℕ × List ℕ)
events_at = where_at (number_at w64) λ events. nat_lt events most_events

-- the last moment: in range, and not before the start
abbrev pub may_be_last : Site → ℕ → Bool
may_be_last site moment = nat_le first_moment moment && (nat_le moment last_moment && nat_le site.device.start moment)

unfoldable pub last_moment_at : Site → List ℕ → Option (ℕ × List ℕ)
last_moment_at site = where_at (number_at w64) (may_be_last site)

abbrev pub HeadData : Type 0
HeadData = ℕ × (ℕ × ℕ)

unfoldable pub head_at : Site → List ℕ → Option (HeadData × List ℕ)
head_at site = and_at (version_at site) λ version. and_at events_at λ events. last_moment_at site

-- the alarms of the value objects before the enrollments, the enrollments, and the alarms of the value objects behind them
abbrev pub AlarmsData : Type 0
AlarmsData = List AlarmState × (List (AlarmState × EnrollmentSite) × List AlarmState)

unfoldable pub all_alarms_at : Site → List Row → ℕ → List ℕ → Option (AlarmsData × List ℕ)
all_alarms_at site rows last =
    and_at (alarms_at rows last (filter is_before (object_subjects site))) λ before.
    and_at (all_enrolled_at rows last site.enrollments) λ enrolled.
    alarms_at rows last (filter is_behind (object_subjects site))

abbrev pub alarm_of : AlarmState × EnrollmentSite → AlarmState
alarm_of x = x.0

abbrev pub enrollment_of : AlarmState × EnrollmentSite → EnrollmentSite
enrollment_of x = x.1

-- the alarms by ascending identifier, and the enrollments
abbrev pub AlarmParts : Type 0
AlarmParts = List AlarmState × List EnrollmentSite

abbrev pub alarm_parts : AlarmsData → AlarmParts
alarm_parts x = (x.0 ++ (map alarm_of x.1.0 ++ x.1.1), map enrollment_of x.1.0)

unfoldable pub alarm_parts_at : Site → List Row → ℕ → List ℕ → Option (AlarmParts × List ℕ)
alarm_parts_at site rows last = made_at (all_alarms_at site rows last) alarm_parts

abbrev pub RestData : Type 0
RestData = List Class × (List EventLogState × OutboxState)

unfoldable pub rest_at : Site → List ℕ → Option (RestData × List ℕ)
rest_at site =
    and_at (site_classes_at site) λ classes.
    and_at (logs_at (has_rule site) (site_zone site) site.logs) λ logs.
    site_outbox_at site classes

abbrev pub SnapshotData : Type 0
SnapshotData = HeadData × (List Row × (AlarmParts × RestData))

unfoldable pub snapshot_at : Site → List ℕ → Option (SnapshotData × List ℕ)
snapshot_at site =
    and_at (head_at site) λ head.
    and_at (each_at row_at site.objects) λ rows.
    and_at (alarm_parts_at site rows head.1.1) λ alarms.
    rest_at site

-- the parts of a core that a snapshot tells
abbrev pub parts_with : SnapshotData → Parts
parts_with x = record {
  events = x.0.1.0;
  last_moment = x.0.1.1;
  table = x.1.0;
  enrollments = enrollments_in (record { rows = x.1.0; enrollments = x.1.1.0.1 });
  alarms = x.1.1.0.0;
  classes = x.1.1.1.0;
  logs = x.1.1.1.1.0;
  outbox = x.1.1.1.1.1;
}

unfoldable pub parts_at : Site → List ℕ → Option (Parts × List ℕ)
parts_at site = made_at (snapshot_at site) parts_with

-- the parts of a core that octets tell, with nothing behind them
abbrev pub whole_of : Parts × List ℕ → Option Parts
whole_of x = value_if (length x.1 == 0) x.0

abbrev pub parts_in : Site → List ℕ → Option Parts
parts_in site octets = parts_at site octets >>= whole_of

-- what is answered: the parts that the octets tell, or that they tell none
abbrev pub GivesParts : Result Parts CodecFault → Option Parts → Type 0
GivesParts (Ok parts) read = read ≡ Some parts
GivesParts (Err faults.NoMemory) read = Unit {0}
GivesParts (Err (faults.Malformed place)) read = (place ≡ 0) × (read ≡ None)

-- what is answered: the state of the parts that the octets tell, or that they tell none
abbrev pub GivesState : Site → List ℕ → Result CoreState CodecFault → Type 0
GivesState site octets (Ok state) = (parts : Parts) × (parts_in site octets ≡ Some parts) × (state ≡ state_of_parts site parts)
GivesState site octets (Err faults.NoMemory) = Unit {0}
GivesState site octets (Err (faults.Malformed place)) = (place ≡ 0) × (parts_in site octets ≡ None)
