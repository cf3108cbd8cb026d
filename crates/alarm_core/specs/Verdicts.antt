-- Whether the notifications of an event fit the outbox.
use Rattle.std.specs.Prelude.{◌≡◌, ◌+◌, ◌&&◌, nat_lt, if◌then◌else◌, List, length, Result, Ok, Err}
use Rattle.bac_values.specs.declared.note.Note.{Note}
use Rattle.outbox.specs.Outboxes.{OutboxState, unfinished_in}
use Rattle.outbox.specs.declared.answers.QueueFault.{QueueFault}
use Rattle.outbox.specs.declared.answers.QueueFault.TheVariants as faults
use Rattle.alarm_core.specs.declared.event.Event.{Event}
use Rattle.alarm_core.specs.declared.event.StepFault.{StepFault}
use Rattle.alarm_core.specs.declared.event.StepFault.TheVariants.{Full, NoMemory}
use Rattle.alarm_core.specs.CoreSteps.{next_notes}
use Rattle.alarm_core.specs.State.{CoreState}

-- notifications are added, and more would then wait than there may
abbrev pub queue_verdict : List Note → OutboxState → Result (Unit {0}) StepFault
queue_verdict notes outbox =
    let would = unfinished_in outbox.posts + length notes in
    if nat_lt 0 (length notes) && nat_lt outbox.limit would then Err (Full would outbox.limit) else Ok tt

-- why an event isn't taken whose notifications aren't queued
abbrev pub refusal_of : QueueFault → StepFault
refusal_of (faults.Full would limit notes) = Full would limit
refusal_of (faults.NoMemory notes) = NoMemory

-- an event that is entered gives notifications by its act alone
abbrev pub step_verdict : Event → CoreState → Result (Unit {0}) StepFault
step_verdict event state = queue_verdict (next_notes event state) state.outbox

-- an answer is as the verdict says, unless memory is refused
abbrev pub Answers : {A : Type 0} → Result A StepFault → Result (Unit {0}) StepFault → Type 0
Answers (Ok outcome) verdict = verdict ≡ Ok tt
Answers (Err NoMemory) verdict = Unit {0}
Answers (Err (Full would limit)) verdict = verdict ≡ Err (Full would limit)
