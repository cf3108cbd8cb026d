-- What is told of the active objects of a site (ANSI/ASHRAE 135-2020, 13.12: GetEventInformation).
use Rattle.std.specs.Prelude.{ℕ, ◌/◌, nat_lt, ◌&&◌, ◌||◌, Bool, true, false, not, replicate, Option, Some, None, List, length, map, filter, take}
use Rattle.std.specs.List.{list_any}
use Rattle.std.specs.Option.{option_and_then}
use Rattle.std.specs.Ordering.{is_lt}
use Rattle.bac_values.specs.Identifier.{ObjectIdData}
use Rattle.bac_values.specs.Orders.{identifier_order}
use Rattle.bac_values.specs.EventStates.{is_normal}
use Rattle.event_services.specs.declared.information.EventSummary.{EventSummary}
use Rattle.notify_class.specs.declared.class.Class.{Class}
use Rattle.enrollment.specs.declared.subject.Subject.{Subject}
use Rattle.enrollment.specs.Subjects.{subject_in}
use Rattle.alarm_core.specs.Notes.{class_for}
use Rattle.alarm_core.specs.State.{DetectedObjectState, CoreState}

-- an object is active where its event state isn't NORMAL, or a transition of it isn't acknowledged
abbrev pub is_active : DetectedObjectState → Bool
is_active detected = not (is_normal detected.alarm.state) || list_any not detected.alarm.acked

-- whether an object is behind the last one that was received, if one was
abbrev pub is_behind : Option ObjectIdData → ObjectIdData → Bool
is_behind None object = true
is_behind (Some last) object = is_lt (identifier_order last object)

abbrev pub is_told : Option ObjectIdData → DetectedObjectState → Bool
is_told last detected = is_behind last detected.object && is_active detected

-- the active objects behind it, by ascending identifier
abbrev pub active_behind : Option ObjectIdData → CoreState → List DetectedObjectState
active_behind last state = filter (is_told last) state.alarms

abbrev pub notify_of : Option Subject → ℕ
notify_of (Some subject) = subject.notify
notify_of None = 0

abbrev pub enable_of : Option Subject → List Bool
enable_of (Some subject) = subject.enable
enable_of None = replicate 3 false

abbrev pub priority_of : Option Class → List ℕ
priority_of (Some class) = class.priority
priority_of None = replicate 3 0

-- a BACnetEventSummary: what the object's alarm shows, with Notify_Type and Event_Enable of the object and Priority of its notification class
abbrev pub summary_by : CoreState → DetectedObjectState → Option Subject → EventSummary
summary_by state detected subject = record {
  object = detected.object;
  state = detected.alarm.state;
  acked = detected.alarm.acked;
  stamps = detected.alarm.stamps;
  notify = notify_of subject;
  enable = enable_of subject;
  priority = priority_of (option_and_then (λ s. class_for s state.classes) subject);
}

abbrev pub summary_of : CoreState → DetectedObjectState → EventSummary
summary_of state detected = summary_by state detected (subject_in detected.object state.values)

-- a summary has 61 octets
abbrev pub most_summaries : ℕ → ℕ
most_summaries room = room / 61

-- the first of them, as many as a room of octets holds
abbrev pub summaries_of : Option ObjectIdData → ℕ → CoreState → List EventSummary
summaries_of last room state = map (summary_of state) (take (most_summaries room) (active_behind last state))

-- whether more remain
abbrev pub has_more : Option ObjectIdData → ℕ → CoreState → Bool
has_more last room state = nat_lt (most_summaries room) (length (active_behind last state))
