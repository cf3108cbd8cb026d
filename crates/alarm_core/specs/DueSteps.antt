-- When each object is next to be looked at, and what a round of looks at the objects that are due makes of alarms and timers.
use Rattle.std.specs.Prelude.{Bool, true, false, if◌then◌else◌, ◌≡◌, ◌≢◌, ◌⊎◌, ⊤, ℕ, ◌+◌, Option, Some, None, List, [], ◌∷◌, map, slice_get, slice_index_or, slice_set, length, ◌<◌}
use Rattle.std.specs.List.{list_any}
use Rattle.std.specs.Option.{option_map}
use Rattle.held_timers.specs.Dues.{is_due}
use Rattle.object_table.specs.Rows.{Ascends, is_object}
use Rattle.enrollment.specs.Watchers.{referrers_in, watchers}
use Rattle.bac_values.specs.Identifier.{ObjectIdData}
use Rattle.algorithm_rules.specs.Facts.{Facts}
use Rattle.algorithm_rules.specs.declared.table.Algorithm.{Algorithm}
use Rattle.event_machine.specs.AlarmRecord.{never}
use Rattle.event_machine.specs.Points.{Point}
use Rattle.event_machine.specs.SettledSteps.{due_with}
use Rattle.event_machine.specs.Summary.{AlarmState}
use Rattle.civil_stamp.specs.LocalTime.{LocalMomentData}
use Rattle.object_table.specs.declared.change.Change.{Change}
use Rattle.enrollment.specs.Objects.{ObjectsState, facts_at, reliability_at, written}
use Rattle.enrollment.specs.Subjects.{is_inhibited}
use Rattle.alarm_core.specs.declared.due_looks.Former.{Former}
use Rattle.alarm_core.specs.declared.event.Act.{Act}
use Rattle.alarm_core.specs.declared.event.Act.TheVariants.{Tick, Write}
use Rattle.alarm_core.specs.State.{CoreState, DetectedObjectState}
use Rattle.alarm_core.specs.CoreSteps.{evaluated_all, transitions_by}

-- what is seen of an object, whatever the moment
abbrev pub sight_with : ObjectIdData → ObjectsState → Facts → Point
sight_with object values facts = record {
  moment = 0;
  stamp = never;
  facts = facts;
  reliability = reliability_at object values;
  inhibited = is_inhibited object values;
  ack_required = [];
}

abbrev pub due_by : Algorithm → Option Point → AlarmState → Option ℕ
due_by algorithm None alarm = None
due_by algorithm (Some point) alarm = due_with algorithm point alarm

-- the moment at which an object is next to be looked at, if it is there and a rule of it will be held; one that isn't settled is so at once
abbrev pub due_of : ObjectsState → DetectedObjectState → Option ℕ
due_of values detected = due_by detected.algorithm (option_map (sight_with detected.object values) (facts_at detected.object values)) detected.alarm

-- a timer of an object is at its due moment, or set at once
abbrev pub IsEarly : ObjectsState → DetectedObjectState → Option ℕ → Type 0
IsEarly values detected due = (due ≡ due_of values detected) ⊎ (due ≡ Some 0)

-- so is the timer of each of some objects
abbrev pub AreEarly : ObjectsState → List DetectedObjectState → List (Option ℕ) → Type 0
AreEarly values [] [] = ⊤
AreEarly values (detected ∷ alarms) (due ∷ timers) = IsEarly values detected due × AreEarly values alarms timers
AreEarly values _ _ = ⊥

-- a write touches the written object, and its watchers: all objects and enrollments that refer to it
abbrev pub touched_by : ObjectIdData → ObjectsState → List ObjectIdData
touched_by changed objects = changed ∷ watchers changed (referrers_in objects)

abbrev pub is_among : List ObjectIdData → ObjectIdData → Bool
is_among touched object = list_any (λ one. is_object one object) touched

-- the timers of all objects, of which one is set at once
abbrev pub once : ObjectIdData → List DetectedObjectState → List (Option ℕ) → List (Option ℕ)
once object (detected ∷ alarms) (due ∷ timers) = (if is_object object detected.object then Some 0 else due) ∷ once object alarms timers
once object _ _ = []

-- and some, one after the other
abbrev pub all_once : List ObjectIdData → List DetectedObjectState → List (Option ℕ) → List (Option ℕ)
all_once [] alarms timers = timers
all_once (object ∷ later) alarms timers = all_once later alarms (once object alarms timers)

-- how many of some timers are due at a moment
abbrev pub due_count : ℕ → List (Option ℕ) → ℕ
due_count moment [] = 0
due_count moment (due ∷ timers) = (if is_due moment due then 1 else 0) + due_count moment timers

-- each object that is due moves as it is evaluated
abbrev pub DueOnesMove : LocalMomentData → ObjectsState → List DetectedObjectState → Type 0
DueOnesMove at values alarms = (index : ℕ) (d : DetectedObjectState) → index < length alarms → is_due at.moment (due_of values (slice_index_or alarms index d)) ≡ true →
    transitions_by at values (slice_index_or alarms index d) ≢ []

-- the objects of some alarms, and alarms that ascend by them
abbrev pub object_of : DetectedObjectState → ObjectIdData
object_of detected = detected.object

abbrev pub AscendByObject : List DetectedObjectState → Type 0
AscendByObject alarms = Ascends (map object_of alarms)

-- the alarm at the place is that of the object, and no other is
pub record StandsAt (object : ObjectIdData) (alarms : List DetectedObjectState) (place : ℕ) : Type 0 where
  pub within : place < length alarms
  pub here : (d : DetectedObjectState) → is_object object (slice_index_or alarms place d).object ≡ true
  pub others : (k : ℕ) (d : DetectedObjectState) → k < length alarms → k ≢ place → is_object object (slice_index_or alarms k d).object ≡ false

-- the properties and the alarms of a core
pub record DetectionsState : Type 0 where
  pub values : ObjectsState
  pub alarms : List DetectedObjectState

-- alarms after former ones are put back, the last one first
abbrev pub restored : List Former → List DetectedObjectState → List DetectedObjectState
restored [] alarms = alarms
restored (former ∷ later) alarms = slice_set (restored later alarms) former.index former.detected

-- one of some former alarms has the index
abbrev pub IsAmong : ℕ → List Former → Type 0
IsAmong index [] = ⊥
IsAmong index (former ∷ later) = (former.index ≡ index) ⊎ IsAmong index later

-- Some former alarms undo what led from one state to some alarms and timers: put back, they make the alarms; and the timer of every other index is as it was.
pub record Undoes (formers : List Former) (before : DetectionsState) (alarms : List DetectedObjectState) (timers : List (Option ℕ)) : Type 0 where
  pub puts_back : restored formers alarms ≡ before.alarms
  pub keeps : (index : ℕ) → IsAmong index formers ⊎ (slice_get timers index ≡ slice_get (map (due_of before.values) before.alarms) index)
  pub within : (index : ℕ) → IsAmong index formers → index < length before.alarms
  pub many : length timers ≡ length before.alarms

-- the due moments of all objects
abbrev pub dues_of : DetectionsState → List (Option ℕ)
dues_of state = map (due_of state.values) state.alarms

-- so some former alarms undo what led from one state to another; the objects are the same
pub record LeadsBack (formers : List Former) (before after : DetectionsState) : Type 0 where
  pub undoes : Undoes formers before after.alarms (dues_of after)
  pub objects : map object_of before.alarms ≡ map object_of after.alarms

-- the state to which they lead back where nothing was written
abbrev pub start_of : List Former → DetectionsState → DetectionsState
start_of formers state = record state { alarms = restored formers state.alarms }

-- what a core looks at
abbrev pub detections_of : CoreState → DetectionsState
detections_of state = record { values = state.values; alarms = state.alarms }

-- how many looks an act makes at most: at each of its looks as many as are due; a write sets what it touches at once before the second
abbrev pub due_steps : LocalMomentData → Act → DetectionsState → ℕ
due_steps at Tick state = due_count at.moment (dues_of state)
due_steps at (Write change) state =
    let between = evaluated_all at state.values state.alarms in
    due_count at.moment (dues_of state) + due_count at.moment (all_once (touched_by change.object state.values) between (map (due_of state.values) between))
due_steps at act state = 0

-- what a change takes back, if there is one
abbrev pub undone_by : Option Change → ObjectsState → ObjectsState
undone_by (Some change) values = written change values
undone_by None values = values
