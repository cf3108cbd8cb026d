-- The parameters of event notifications in their order (ANSI/ASHRAE 135-2020, clause 21, ConfirmedEventNotification-Request).
use Rattle.std.specs.Prelude.{◌≡◌, ℕ, ◌⊎◌, Bool, Option, Some, List, Result, Ok, Err}
use Rattle.bac_values.specs.Identifier.{ObjectIdData}
use Rattle.bac_values.specs.declared.event_state.EventState.{EventState}
use Rattle.bac_values.specs.declared.stamp.Stamp.{Stamp}
use Rattle.bac_tags.specs.ReadingSteps.{unsigned_at, object_at, boolean_at, ◌>>=◌}
use Rattle.bac_tags.specs.declared.malformed.Malformed.{Malformed}
use Rattle.bac_tags.specs.ParameterReadingSteps.{required, optional, nothing_follows}
use Rattle.event_services.specs.declared.notification.Notification.{Notification}
use Rattle.event_services.specs.declared.read_note.NoteFault.{NoteFault}
use Rattle.event_services.specs.declared.read_note.NoteFault.TheVariants as faults
use Rattle.event_services.specs.NoteReadingSteps.{octet_number_at, state_at, text_at, moment_at, values_at}

-- [0] to [3]: process, device, object, time stamp
unfoldable pub source_at : List ℕ → Result ((ℕ × ObjectIdData × ObjectIdData × Stamp) × ℕ) Malformed
source_at input = do
  process ← required input 0 (unsigned_at input 0 (Some 0))
  device ← required input process.1 (object_at input process.1 (Some 1))
  object ← required input device.1 (object_at input device.1 (Some 2))
  stamp ← required input object.1 (moment_at 3 input object.1)
  Ok ((process.0, device.0, object.0, stamp.0), stamp.1)

-- [4] to [6]: class, priority, event type
unfoldable pub kind_at : List ℕ → ℕ → Result ((ℕ × ℕ × ℕ) × ℕ) Malformed
kind_at input place = do
  class ← required input place (unsigned_at input place (Some 4))
  priority ← required input class.1 (octet_number_at 5 input class.1)
  type ← required input priority.1 (octet_number_at 6 input priority.1)
  Ok ((class.0, priority.0, type.0), type.1)

-- [8] to [11]: notify type, whether it is to be acknowledged, the state before and the state after
unfoldable pub states_at : List ℕ → ℕ → Result ((ℕ × Option Bool × Option EventState × EventState) × ℕ) Malformed
states_at input place = do
  notify ← required input place (octet_number_at 8 input place)
  ack ← optional input notify.1 (boolean_at input notify.1 (Some 9))
  from ← optional input ack.1 (state_at 10 input ack.1)
  to ← required input from.1 (state_at 11 input from.1)
  Ok ((notify.0, ack.0, from.0, to.0), to.1)

-- [7] a text, and [12] the values of the event's type, may be absent
unfoldable pub notification_of : List ℕ → Result Notification Malformed
notification_of input = do
  source ← source_at input
  kind ← kind_at input source.1
  text ← optional input kind.1 (text_at 7 input kind.1)
  states ← states_at input text.1
  values ← optional input states.1 (values_at kind.0.2 input states.1)
  nothing ← nothing_follows input values.1
  Ok (record {
    process = source.0.0;
    device = source.0.1;
    object = source.0.2;
    stamp = source.0.3;
    class = kind.0.0;
    priority = kind.0.1;
    event_type = kind.0.2;
    text = text.0;
    notify = states.0.0;
    ack_required = states.0.1;
    from = states.0.2;
    to = states.0.3;
    values = values.0;
  })

-- a refusal as the reader of notifications answers it
abbrev pub fault_of : Malformed → NoteFault
fault_of why = faults.Malformed why.reject why.at

abbrev pub as_note : {X : Type 0} → Result X Malformed → Result X NoteFault
as_note (Ok x) = Ok x
as_note (Err why) = Err (fault_of why)

-- what was answered is what reading gives, but that a text may get no memory
abbrev pub GivesNote : {X : Type 0} → Type 0 → Result X NoteFault → Result X Malformed → Type 0
GivesNote Text answer read = (answer ≡ as_note read) ⊎ ((answer ≡ Err faults.NoMemory) × Text)
