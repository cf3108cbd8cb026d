-- The event logs of a site after a history (ANSI/ASHRAE 135-2020, 12.27).
use Rattle.std.specs.Prelude.{◌≡◌, ℕ, zero, ◌/◌, ◌==◌, Bool, IsTrue, IsSomeAnd, if◌then◌else◌, Option, None, List, [], ◌∷◌, ◌++◌, map, find}
use Rattle.std.specs.List.{flat_map, list_any}
use Rattle.std.specs.Option.{option_map, option_to_list}
use Rattle.bac_values.specs.Identifier.{ObjectIdData, number_of_kind}
use Rattle.bac_values.specs.Properties.{enable_property, record_count_property}
use Rattle.bac_values.specs.declared.object_kind.ObjectKind.TheVariants.{EventLog}
use Rattle.bac_values.specs.declared.value.Value.{Value}
use Rattle.bac_values.specs.declared.value.Value.TheVariants.{Bool as Truth, Unsigned}
use Rattle.event_log.specs.History.{Call, Cleared, Recorded, Switched, log_after}
use Rattle.event_log.specs.Log.{new_log, EventLogState}
use Rattle.event_services.specs.Notifications.{written_notification}
use Rattle.notify_class.specs.declared.class.Class.{Class}
use Rattle.object_table.specs.declared.change.Change.{Change}
use Rattle.object_table.specs.declared.change.What.{What}
use Rattle.object_table.specs.declared.change.What.TheVariants.{Property, FieldFault}
use Rattle.object_table.specs.Rows.{is_object, row_of}
pub use Rattle.property_values.specs.LogProperties.{takes, takes_value}
use Rattle.enrollment.specs.declared.subject.Subject.{Subject}
use Rattle.enrollment.specs.Enrollments.{site_of}
use Rattle.enrollment.specs.Objects.{ObjectsState}
use Rattle.alarm_core.specs.declared.event.Act.{Act}
use Rattle.alarm_core.specs.declared.event.Act.TheVariants.{Write}
use Rattle.alarm_core.specs.declared.event.Event.{Event}
use Rattle.event_log.specs.declared.log_site.LogSite.{LogSite}
use Rattle.alarm_core.specs.declared.site.Site.{Site}
use Rattle.alarm_core.specs.Classes.{classes_after}
use Rattle.alarm_core.specs.History.{StateTransition, event_looks, joined}
use Rattle.alarm_core.specs.Notes.{addressed, notification_of}
use Rattle.alarm_core.specs.Evaluations.{site_stamp}

-- a log of a site, and what it holds
pub record SiteLogState : Type 0 where
  pub site : LogSite
  pub log : EventLogState

-- no value object and no enrollment has the identifier of an event log
abbrev pub HasNoLog : ObjectsState → Type 0
HasNoLog values = (object : ObjectIdData) → object.number ≡ number_of_kind EventLog → (row_of object values.rows ≡ None) × (site_of object values.enrollments ≡ None)

-- a log at the start
abbrev pub first_log : LogSite → EventLogState
first_log listed = new_log listed.size listed.stop_when_full listed.enable

-- ---- what is recorded

-- whether a log records the notifications of a class
abbrev pub records_class : LogSite → Class → Bool
records_class listed class = list_any (λ instance. instance == class.instance) listed.classes

-- the record of a transition, if the log records the class whose recipients are told: the notification with process identifier 0, at the local date and time of its point, and its moment in hundredths rounded down
abbrev pub record_of_transition : Site → List Class → LogSite → StateTransition → List Call
record_of_transition site classes listed transition =
    flat_map (λ (to : Subject × Class). if records_class listed to.1 then Recorded (record { stamp = site_stamp site transition.moment; hundredths = transition.moment / 10; body = written_notification (notification_of site transition to.0 to.1) }) ∷ [] else [])
    (option_to_list (addressed classes transition))

-- those of some transitions, in their order
abbrev pub records_of : Site → List Class → LogSite → List StateTransition → List Call
records_of site classes listed transitions = flat_map (record_of_transition site classes listed) transitions

-- ---- what is written

-- a value of Enable turns a log on or off, and a Record_Count of 0 clears it
abbrev pub call_of_value : ℕ → Value → List Call
call_of_value number (Truth on) = if number == enable_property then Switched on ∷ [] else []
call_of_value number (Unsigned zero) = if number == record_count_property then Cleared ∷ [] else []
call_of_value number _ = []

abbrev pub call_of_what : What → List Call
call_of_what (Property property value) = call_of_value property.0 value
call_of_what (FieldFault reliability) = []

-- what a write does to a log
abbrev pub call_of_change : LogSite → Change → List Call
call_of_change listed change = if is_object change.object listed.object then call_of_what change.what else []

-- ---- over a history

-- what an act writes to a log
abbrev pub call_of_act : LogSite → Act → List Call
call_of_act listed (Write change) = call_of_change listed change
call_of_act listed act = []

-- what an act does to a log, by the transitions of each of its looks, in this order: the records of the first look, what it writes, and the records of the second; so the first sees the old properties of the log and the second its new ones; acknowledgements aren't recorded
abbrev pub calls_by : Site → List Class → LogSite → Act → List (List StateTransition) → List Call
calls_by site classes listed act [] = []
calls_by site classes listed act (first ∷ later) = records_of site classes listed first ++ (call_of_act listed act ++ records_of site classes listed (joined later))

-- some calls in their order, behind older ones, of which the newest is the first
abbrev pub behind : List Call → List Call → List Call
behind [] older = older
behind (call ∷ later) older = behind later (call ∷ older)

-- all that a history does to a log, the newest first
abbrev pub calls_of : Site → LogSite → List Event → List Call
calls_of site listed [] = []
calls_of site listed (event ∷ older) =
    behind (calls_by site (classes_after site older) listed event.act (event_looks site event older)) (calls_of site listed older)

abbrev pub kept_log_of : Site → List Event → LogSite → SiteLogState
kept_log_of site history listed = record { site = listed; log = log_after (first_log listed) (calls_of site listed history) }

-- the logs of a history
abbrev pub logs_after : Site → List Event → List SiteLogState
logs_after site history = map (kept_log_of site history) site.logs

-- ---- one log

-- the log with an identifier
abbrev pub kept_log : ObjectIdData → List SiteLogState → Option SiteLogState
kept_log object logs = find (λ (kept : SiteLogState). is_object object kept.site.object) logs

abbrev pub log_of : SiteLogState → EventLogState
log_of kept = kept.log

abbrev pub log_in : ObjectIdData → List SiteLogState → Option EventLogState
log_in object logs = option_map log_of (kept_log object logs)

-- there is the log, and it takes the change
abbrev pub IsTakenByLog : Change → List SiteLogState → Type 0
IsTakenByLog change logs = IsSomeAnd (kept_log change.object logs) (λ kept. IsTrue (takes change.what))
