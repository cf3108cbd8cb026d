-- What one input makes of a floor, and a press that leaves it.
use Rattle.std.specs.Prelude.{◌≡◌, ◌≢◌, ◌⊎◌, ◌<◌, ◌≤◌, ℕ, ◌+◌, All, List, [], ◌++◌, length, reverse, Option, Result, Ok, Err}
use Rattle.bac_values.specs.Limits.{most_pending_calls}
use Rattle.bac_values.specs.declared.note.Send.{Send}
use Rattle.alarm_core.specs.Allowed.{Represents}
use Rattle.alarm_core.specs.Fits.{FitsEvent}
use Rattle.alarm_core.specs.State.{CoreState}
use Rattle.alarm_core.specs.declared.event.Event.{Event}
use Rattle.alarm_journal.specs.Press.{room_of}
use Rattle.service_desk.specs.Answers.{Answer, Full, dues_of, event_of, state_behind}
use Rattle.state_codec.specs.Contents.{records_of}
use Rattle.state_codec.specs.Records.{HasRecord}
use Rattle.state_codec.specs.Work.{IsWorkOf}
use Rattle.floor_desk.specs.Accounts.{IsTicketOf, counts, if_event, most_pending_octets}
use Rattle.floor_desk.specs.Moves.{IsNotBroken}
use Rattle.floor_desk.specs.States.{FloorState}
use Rattle.floor_desk.specs.declared.entry.Ticket.{Ticket}
use Rattle.floor_desk.specs.declared.faults.EnterFault.{EnterFault}
use Rattle.floor_desk.specs.declared.faults.EnterFault.TheVariants as enters
use Rattle.floor_desk.specs.declared.load.Load.{Load}
use Rattle.floor_desk.specs.declared.floor.Spot.TheVariants.{Home, Out, Broken}

-- what an answer enters may follow: it has a record, its values fit, and the state behind it stands for each history of the state before it with it
pub record MayEnter (state : CoreState) (answer : Answer) : Type 0 where
  pub recorded : All HasRecord (if_event (event_of answer))
  pub fit : All FitsEvent (if_event (event_of answer))
  pub stands : (history : List Event) → Represents state history → Represents (state_behind state answer) (reverse (if_event (event_of answer)) ++ history)

module _ {G : Type 0} where
  -- the floor, whose core is in a state, with what an answer makes of it
  abbrev pub with_answer : CoreState → FloorState G → Answer → FloorState G
  with_answer state floor answer = record floor {
    core = state_behind state answer;
    records = floor.records ++ records_of (if_event (event_of answer));
    sends = floor.sends ++ dues_of state answer;
    calls = floor.calls + counts (event_of answer) (dues_of state answer);
  }

  -- the answer was taken
  pub record Accepts (old new : FloorState G) (answer : Answer) : Type 0 where
    pub with_it : new ≡ with_answer old.core old answer
    pub enters : MayEnter old.core answer

  -- what came of an answer
  abbrev pub CameOf : FloorState G → FloorState G → Answer → Result Ticket EnterFault → Type 0
  CameOf old new answer (Ok ticket) = Accepts old new answer × IsTicketOf old.core.events answer ticket
  CameOf old new answer (Err (enters.Full would limit)) = Accepts old new answer × (reply : Option Send) × (answer ≡ Full would limit reply)
  CameOf old new answer (Err enters.NoMemory) = new ≡ old
  CameOf old new answer (Err fault) = ⊥

  -- a commit has to come first
  abbrev pub NeedsCommit : FloorState G → Type 0
  NeedsCommit floor = (most_pending_calls ≤ floor.calls) ⊎ (most_pending_octets < length floor.records)

  -- why no input is looked at
  abbrev pub Refuses : FloorState G → EnterFault → Type 0
  Refuses floor (enters.Stopped at) = (device : G) × (floor.spot ≡ Broken device at)
  Refuses floor (enters.Behind pending octets) = IsNotBroken floor.spot × NeedsCommit floor × (pending ≡ floor.calls) × (octets ≡ length floor.records)
  Refuses floor fault = ⊥

  pub record IsReady (floor : FloorState G) : Type 0 where
    pub works : IsNotBroken floor.spot
    pub calls : floor.calls < most_pending_calls
    pub records : length floor.records ≤ most_pending_octets

  -- ---- a commit

  -- the floor without what is pending, and the press out
  abbrev pub lent : FloorState G → ℕ → FloorState G
  lent floor place = record floor { records = []; sends = []; calls = 0; spot = Out place floor.core.events }

  -- the press left with all that was pending
  pub record IsLentBy (old new : FloorState G) (place : ℕ) (load : Load G) : Type 0 where
    pub left : new ≡ lent old place
    pub home : old.spot ≡ Home load.press
    pub some : old.calls ≢ 0
    pub upto : load.upto ≡ old.core.events
    pub sends : load.sends ≡ old.sends
    pub work : IsWorkOf old.core old.records (room_of load.press.layout) load.work
