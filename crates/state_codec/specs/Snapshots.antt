-- States in octets: the snapshots of a journal. One part stands behind another; numbers have their high octet first.
use Rattle.std.specs.Prelude.{ℕ, ◌+◌, Bool, true, false, Option, Some, None, is_some, if◌then◌else◌, List, [], ◌∷◌, ◌++◌, length}
use Rattle.std.specs.Int.{w8, w16, w32, w64, to_be_bytes, cast_unsigned}
use Rattle.std.specs.List.{flat_map}
use Rattle.bac_values.specs.EventStates.{number_of_state}
use Rattle.bac_values.specs.Identifier.{kind_of}
use Rattle.bac_values.specs.Reliabilities.{number_of_reliability}
use Rattle.bac_values.specs.declared.event_state.EventState.{EventState}
use Rattle.bac_values.specs.declared.note.Note.{Note}
use Rattle.bac_values.specs.declared.object_kind.ObjectKind.{ObjectKind}
use Rattle.bac_values.specs.declared.object_kind.ObjectKind.TheVariants.{BinaryValue, IntegerValue, PositiveIntegerValue}
use Rattle.bac_values.specs.declared.stamp.Stamp.{Stamp}
use Rattle.bac_values.specs.declared.value.Value.{Value}
use Rattle.bac_values.specs.declared.value.Value.TheVariants.{Enumerated}
use Rattle.event_log.specs.declared.log_record.LogRecord.{LogRecord}
use Rattle.event_machine.specs.Summary.{AlarmState}
use Rattle.event_machine.specs.declared.run.Run.{Run}
use Rattle.notify_class.specs.declared.class.Class.{Class}
use Rattle.object_table.specs.declared.object_site.ObjectSite.{ObjectSite}
use Rattle.object_table.specs.declared.row.Row.{Row}
use Rattle.outbox.specs.Outboxes.{OutboxState}
use Rattle.outbox.specs.Posts.{MailboxState}
use Rattle.enrollment.specs.Enrollments.{site_of}
use Rattle.enrollment.specs.declared.enrollment_site.EnrollmentSite.{EnrollmentSite}
use Rattle.enrollment.specs.declared.subject.Subject.{Subject}
use Rattle.alarm_core.specs.Found.{alarm_in}
use Rattle.alarm_core.specs.Logs.{SiteLogState}
use Rattle.alarm_core.specs.State.{CoreState}
use Rattle.alarm_core.specs.Subjects.{alarm_subjects}
use Rattle.alarm_core.specs.declared.site.Site.{Site}
use Rattle.state_codec.specs.Records.{written_destination, written_flag, written_flags, written_peer, written_value}

-- ---- value objects

-- Time_Delay_Normal, and whether the object has it
abbrev pub written_delay : Option ℕ → List ℕ
written_delay (Some seconds) = written_flag true ++ to_be_bytes w32 seconds
written_delay None = written_flag false ++ to_be_bytes w32 0

-- the limits of an integer or a positive integer value: the high one, the low one, the deadband, and which of them are enabled
abbrev pub written_limits : ObjectSite → List ℕ
written_limits site =
    to_be_bytes w32 (cast_unsigned w32 site.high) ++ (to_be_bytes w32 (cast_unsigned w32 site.low) ++ (to_be_bytes w32 site.deadband ++ written_flags site.limit_enable))

-- the alarm value of a binary value
abbrev pub number_of : Option Value → ℕ
number_of (Some (Enumerated number)) = number
number_of _ = 0

-- what only some kinds of objects have
abbrev pub written_keys : Option ObjectKind → ObjectSite → List ℕ
written_keys (Some IntegerValue) site = written_limits site
written_keys (Some PositiveIntegerValue) site = written_limits site
written_keys (Some BinaryValue) site = to_be_bytes w32 (number_of site.alarm_value)
written_keys _ site = []

-- the writable properties of a value object, and the reliability of what gives its value. What an object lacks is 0
abbrev pub written_row : Row → List ℕ
written_row row =
    written_value row.site.value
    ++ (written_flag row.site.out_of_service
    ++ (written_flag row.site.inhibit
    ++ (written_flag row.site.reliability_inhibit
    ++ (row.field_fault ∷ (written_flags row.site.enable
    ++ (to_be_bytes w32 row.site.time_delay
    ++ (written_delay row.site.time_delay_normal
    ++ written_keys (kind_of row.site.object.number) row.site)))))))

-- ---- alarms

-- what stands in place of a state's number where none was entered
abbrev pub no_state : ℕ
no_state = 255

-- a state that was entered, if one was
abbrev pub written_last : Option EventState → List ℕ
written_last (Some state) = number_of_state state ∷ []
written_last None = no_state ∷ []

-- a cause is one more than its place, and 0 where there is none
abbrev pub written_cause : Option ℕ → List ℕ
written_cause (Some place) = to_be_bytes w32 (place + 1)
written_cause None = to_be_bytes w32 0

abbrev pub written_run : Option Run → List ℕ
written_run (Some run) = written_flag true ++ (to_be_bytes w64 run.start ++ to_be_bytes w32 run.key)
written_run None = written_flag false ++ (to_be_bytes w64 0 ++ to_be_bytes w32 0)

abbrev pub written_stamp : Stamp → List ℕ
written_stamp stamp = stamp.octets

-- an alarm: the state, which transitions are acknowledged, their stamps and the states that they entered, the cause, the last reliability, and the runs
abbrev pub written_alarm : AlarmState → List ℕ
written_alarm alarm =
    number_of_state alarm.state ∷ (written_flags alarm.acked
    ++ (flat_map written_stamp alarm.stamps
    ++ (flat_map written_last alarm.last_states
    ++ (written_cause alarm.cause
    ++ (number_of_reliability alarm.last_reliability ∷ flat_map written_run alarm.runs)))))

-- the writable properties of an enrollment; a value object has its own above
abbrev pub written_enrollment : Option EnrollmentSite → List ℕ
written_enrollment (Some site) = written_flag site.inhibit ++ written_flags site.enable
written_enrollment None = []

-- an object with a notification class, or an enrollment
abbrev pub written_subject : CoreState → Subject → List ℕ
written_subject state subject = written_alarm (alarm_in state subject.object) ++ written_enrollment (site_of subject.object state.values.enrollments)

-- ---- classes, logs and the outbox

-- the recipients of a class, behind the last octet of their number; there are at most 32
abbrev pub written_class : Class → List ℕ
written_class class = to_be_bytes w8 (length class.destinations) ++ flat_map written_destination class.destinations

-- octets, behind how many they are
abbrev pub written_body : List ℕ → List ℕ
written_body body = to_be_bytes w16 (length body) ++ body

-- a record of a log: at a site with a zone rule its hundredths stand behind its stamp
abbrev pub written_entry : Bool → LogRecord → List ℕ
written_entry has_rule entry =
    entry.stamp.octets ++ ((if has_rule then to_be_bytes w64 entry.hundredths else []) ++ written_body entry.body)

abbrev pub written_log : Bool → SiteLogState → List ℕ
written_log has_rule kept =
    written_flag kept.log.enabled ++ (to_be_bytes w32 kept.log.total ++ (to_be_bytes w32 (length kept.log.records) ++ flat_map (written_entry has_rule) kept.log.records))

abbrev pub written_note : Note → List ℕ
written_note note = written_flag note.confirmed ++ written_body note.body

abbrev pub written_post : MailboxState → List ℕ
written_post post =
    written_peer post.peer ++ (post.next_invoke ∷ post.attempts ∷ (to_be_bytes w64 post.deadline ++ (to_be_bytes w16 (length post.notes) ++ flat_map written_note post.notes)))

abbrev pub written_outbox : OutboxState → List ℕ
written_outbox outbox = to_be_bytes w16 (length outbox.posts) ++ flat_map written_post outbox.posts

-- ---- states

-- the snapshot of a site with a zone rule has version 2, of every other version 1
abbrev pub has_rule : Site → Bool
has_rule site = is_some site.device.zone_rule

abbrev pub version_of : Site → ℕ
version_of site = if has_rule site then 2 else 1

-- the snapshot of a state
abbrev pub written_state : CoreState → List ℕ
written_state state =
    version_of state.site ∷ (to_be_bytes w64 state.events ++ (to_be_bytes w64 state.last_moment
    ++ (flat_map written_row state.values.rows
    ++ (flat_map (written_subject state) (alarm_subjects state.site)
    ++ (flat_map written_class state.classes
    ++ (flat_map (written_log (has_rule state.site)) state.logs
    ++ written_outbox state.outbox))))))
