-- What makes the definitions believable: the next state is that of the longer history, and the run starts are in it; the state that a history leaves keeps to its site; when a tick is never refused; which number a refusal tells; which peers are known, and that classes are there; which changes are allowed; and that Object_List ascends.
use Rattle.std.specs.Prelude.{◌≡◌, ◌↔◌, ◌<◌, ℕ, ◌+◌, Bool, true, false, IsTrue, IsOk, IsSome, Some, None, List, [], ◌∷◌, ◌++◌, length, map, reverse, All, Contains, Ok, Err}
use Rattle.bac_values.specs.Address.{PeerData}
use Rattle.bac_values.specs.Identifier.{ObjectIdData}
use Rattle.bac_values.specs.Limits.{most_events}
use Rattle.bac_values.specs.Orders.{IsAscending}
use Rattle.bac_values.specs.Properties.{present_value_property}
use Rattle.bac_values.specs.declared.value.Value.{Value}
use Rattle.object_table.specs.Rows.{Ascends}
use Rattle.object_table.specs.Verdicts.{checked_fault, checked_set, fault_change, property_change}
use Rattle.outbox.specs.Outboxes.{unfinished_in}
use Rattle.property_values.specs.DeviceProperties.{object_list}
use Rattle.enrollment.specs.declared.subject.Subject.{Subject}
use Rattle.enrollment.specs.Subjects.{object_of, subject_in}
use Rattle.alarm_core.specs.declared.event.Act.{Act}
use Rattle.alarm_core.specs.declared.event.Act.TheVariants.{Tick, Write, Ack}
use Rattle.alarm_core.specs.declared.event.Event.{Event}
use Rattle.alarm_core.specs.declared.event.StepFault.TheVariants.{Full}
use Rattle.alarm_core.specs.declared.site.Site.{Site}
use Rattle.alarm_core.specs.Fits.{FitsEvent, FitsSite}
use Rattle.alarm_core.specs.History.{tick_at, transitions_of, values_after}
use Rattle.alarm_core.specs.State.{state_of, CoreState}
use Rattle.alarm_core.specs.Allowed.{Comes, IsAllowed, IsHistory, Represents}
use Rattle.alarm_core.specs.Classes.{classes_after, known_peers_of, listed_peers}
use Rattle.alarm_core.specs.Deliveries.{event_sends, notifications_of, outbox_after}
use Rattle.alarm_core.specs.Devices.{identifiers_of}
use Rattle.alarm_core.specs.CoreSteps.{first_state, next_notes, next_sends, next_state, next_transitions}
use Rattle.alarm_core.specs.Following.{AreAllowed, state_over}
use Rattle.alarm_core.specs.RunStarts.{run_starts_in, run_starts_of}
use Rattle.alarm_core.specs.Notes.{class_for}
use Rattle.alarm_core.specs.Reading.{write_of}
use Rattle.alarm_core.specs.SiteStates.{IsStateOf}
use Rattle.alarm_core.specs.Sites.{IsSite}
use Rattle.alarm_core.specs.Subjects.{subjects_of}
use Rattle.alarm_core.specs.Verdicts.{step_verdict}

-- going on from event to event, as they come, is looking back over the whole history
pub record StandsForItsHistory : Type 0 where
  pub starts : (site : Site) → first_state site ≡ state_of site []
  pub state : (site : Site) (event : Event) (history : List Event) → Comes site event history → next_state event (state_of site history) ≡ state_of site (event ∷ history)
  pub transitions : (site : Site) (event : Event) (history : List Event) → Comes site event history →
      transitions_of site (event ∷ history) ≡ transitions_of site history ++ next_transitions event (state_of site history)
  pub notifications : (site : Site) (event : Event) (history : List Event) → Comes site event history →
      notifications_of site (event ∷ history) ≡ notifications_of site history ++ next_notes event (state_of site history)
  pub sends : (site : Site) (event : Event) (history : List Event) → next_sends event (state_of site history) ≡ event_sends site event history
  pub run_starts : (site : Site) (history : List Event) → run_starts_in (state_of site history) ≡ run_starts_of site history
  -- the objects that have event detection stand in the order of their identifiers
  pub ascending : (site : Site) → IsSite site → Ascends (map object_of (subjects_of site))
  -- where no notification is unfinished, a tick is never refused
  pub ticks_fit : (site : Site) → IsSite site → (history : List Event) → IsHistory site history → unfinished_in (outbox_after site history).posts ≡ 0 →
      (moment : ℕ) → step_verdict (tick_at moment) (state_of site history) ≡ Ok tt

-- an act that may give notifications
abbrev pub may_notify : Act → Bool
may_notify Tick = true
may_notify (Write change) = true
may_notify (Ack object transition named) = true
may_notify act = false

-- the number that a refusal tells is that of the unfinished notifications of the longer history, which are those before the event and those that it gives
pub record CountsTheLongerHistory : Type 0 where
  pub adds : (site : Site) (event : Event) (history : List Event) → Comes site event history → IsTrue (may_notify event.act) →
      unfinished_in (outbox_after site (event ∷ history)).posts ≡ unfinished_in (outbox_after site history).posts + length (next_notes event (state_of site history))
  -- an event is refused exactly where more of them would be unfinished than may be
  pub full : (site : Site) (event : Event) (history : List Event) → Comes site event history → (would limit : ℕ) →
      (step_verdict event (state_of site history) ≡ Err (Full would limit))
      ↔ ((would ≡ unfinished_in (outbox_after site (event ∷ history)).posts) × (limit ≡ site.device.outbox) × (limit < would))

-- the class of an object that has one is there after every history, so its notifications have a class
pub record ClassesAreThere : Type 0 where
  pub there : (site : Site) → IsSite site → (history : List Event) (object : ObjectIdData) (subject : Subject) → subject_in object (values_after site history) ≡ Some subject → IsSome subject.class →
      IsSome (class_for subject (classes_after site history))

-- the peers that are known after a history are those of the site's lists and of every edit, and each stands there once
pub record KnowsListedPeers : Type 0 where
  pub known : (site : Site) (history : List Event) (peer : PeerData) → Contains (known_peers_of site history) peer ↔ Contains (listed_peers site history) peer
  pub ascending : (site : Site) (history : List Event) → IsAscending (known_peers_of site history)

-- a change of a property is allowed exactly where a write of it, without an index, is answered with no error; a fault from the field where its check accepts it; and a present value from the field where its check does
pub record AllowsWhatChecksAccept : Type 0 where
  pub writes : (site : Site) → IsSite site → (history : List Event) (object : ObjectIdData) (number : ℕ) (value : Value) →
      IsAllowed (state_of site history) (Write (property_change object number value)) ↔ IsOk (write_of (state_of site history) object number None value)
  pub field_faults : (state : CoreState) (object : ObjectIdData) (reliability : ℕ) →
      IsAllowed state (Write (fault_change object reliability)) ↔ IsOk (checked_fault state.values.rows object reliability)
  pub sets : (state : CoreState) (object : ObjectIdData) (value : Value) → IsOk (checked_set state.values.rows object value) → IsAllowed state (Write (property_change object present_value_property value))

-- the state over some events, each of which may follow on those before it, is that of the history with all of them
abbrev pub StandsOverEvents : Type 0
StandsOverEvents = (state : CoreState) (history events : List Event) → IsSite state.site → Represents state history → AreAllowed state events →
    Represents (state_over state events) (reverse events ++ history)

-- The state that a history leaves is one that the state of its site may be: of fewer than 2^63 events, and of values that fit their types.
pub record KeepsToItsSite : Type 0 where
  pub keeps : (site : Site) → IsSite site → FitsSite site → (history : List Event) → IsHistory site history → All FitsEvent history → length history < most_events →
      IsStateOf site (state_of site history)

-- Object_List ascends (12.11)
abbrev pub ObjectListAscends : Type 0
ObjectListAscends = (site : Site) → IsSite site → Ascends (object_list (identifiers_of site))
