-- What a server did, from the opening of its desk to its close: the closed history, and its numbers.
use Rattle.std.specs.Prelude.{◌≡◌, ◌≢◌, ℕ, ◌+◌, List, [], ◌∷◌, ◌++◌, length, reverse, Option, Some, None, Result, Ok, Err}
use Rattle.std.specs.List.{All}
use Rattle.ground_io.specs.Counts.{Rose}
use Rattle.ground_io.specs.Trace.{Told}
use Rattle.bac_values.specs.declared.input.Input.TheVariants.{Tick, Pump}
use Rattle.bac_values.specs.declared.note.Send.{Send}
use Rattle.turnstile.specs.Histories.{Accounts, IsOnce, NoOther}
use Rattle.alarm_core.specs.State.{CoreState}
use Rattle.alarm_journal.specs.Press.{PressState}
use Rattle.floor_desk.specs.declared.entry.Entry.{Entry}
use Rattle.floor_desk.specs.declared.entry.Ticket.{Ticket}
use Rattle.floor_desk.specs.declared.faults.EnterFault.{EnterFault}
use Rattle.floor_desk.specs.declared.faults.EnterFault.TheVariants as enters
use Rattle.floor_desk.specs.LookingBack.{before_returned, dues_over, durable_over, failed_over, reach_over, state_over}
use Rattle.floor_desk.specs.Moves.{IsGroundOf}
use Rattle.floor_desk.specs.Prefixes.{CountsLost, capped}
use Rattle.floor_desk.specs.Standing.{FloorStands}
use Rattle.floor_desk.specs.States.{FloorState}
use Rattle.floor_desk.specs.declared.serve.End.{End}
use Rattle.floor_desk.specs.declared.serve.End.TheVariants as end
use Rattle.floor_desk.specs.declared.serve.Closed.{Closed}
use Rattle.floor_desk.specs.Tries.{AreTicks, AreTried, Attempt, IsAnsweredBehind, IsOfCommit, IsOfInput, Try, tries_in}
use Rattle.floor_desk.specs.Workers.{AreShown, IsReceived, lost_of}

-- the answer is a ticket, or that the notifications don't fit the outbox
abbrev pub WasAnswered : Result Ticket EnterFault → Type 0
WasAnswered (Ok ticket) = Unit {0}
WasAnswered (Err (enters.Full would limit)) = Unit {0}
WasAnswered (Err (enters.Behind pending octets)) = ⊥
WasAnswered (Err (enters.Stopped at)) = ⊥
WasAnswered (Err enters.NoMemory) = ⊥

-- a Tick and then a Pump were tried, and these are their last answers
abbrev pub AreLast : List Try → Result Ticket EnterFault → Result Ticket EnterFault → Type 0
AreLast tries tick pump = AreTried (record { input = Tick; last = tick } ∷ (record { input = Pump; last = pump } ∷ [])) tries

-- What the entries are under the numbers of three passes: the server's, which was its receiver's and goes on alone at the end; its ticker's; and its committer's.
pub record Workings (G : Type 0) : Type 0 where
  pub server : ℕ
  pub ticker : ℕ
  pub committer : ℕ
  pub received : List (Entry G)
  pub last : List (Entry G)
  pub ticked : List (Entry G)
  pub kept : List (Entry G)

module _ {G : Type 0} where
  abbrev pub calls_of : Workings G → List (ℕ × List (Entry G))
  calls_of w = (w.server, w.received ++ w.last) ∷ ((w.committer, w.kept) ∷ ((w.ticker, w.ticked) ∷ []))

  -- a history has just these entries under these numbers, each in its order, and nothing else
  pub record HasAll (history : List (ℕ × Entry G)) (w : Workings G) : Type 0 where
    pub accounts : Accounts history (calls_of w)
    pub once : IsOnce (calls_of w)
    pub only : NoOther history (calls_of w)

  -- the receiver tried the datagrams, the ticker Tick and Pump in turn, and the committer committed
  pub record AreWorkings (shows : ℕ → Type 0) (old new : Option (List Send)) (w : Workings G) (attempts : List Attempt) : Type 0 where
    pub received : IsReceived shows old new w.received attempts
    pub ticks : AreTicks (tries_in w.ticked)
    pub only_ticks : All IsOfInput w.ticked
    pub ticks_shown : AreShown shows w.ticked
    pub commits : All IsOfCommit w.kept

  -- a last Tick and Pump, with their last answers, at moments of the clock
  pub record EndsWith (shows : ℕ → Type 0) (entries : List (Entry G)) (tick pump : Result Ticket EnterFault) : Type 0 where
    pub tries : AreLast (tries_in entries) tick pump
    pub shown : AreShown shows entries

  -- every event of a history is written, and each datagram that it owes was sent or lost
  pub record LeavesNothingPending (origin : CoreState × PressState G) (newest : List (ℕ × Entry G)) : Type 0 where
    pub written : durable_over origin.0 newest ≡ (state_over origin.0 newest).events
    pub sent : (reach_over origin.0 (before_returned newest)).dues ≡ length (dues_over origin.0 newest)

  -- How a server ended, by its history, the newest entry first: with a commit that failed exactly where the disk did. Done, no datagram is left for which a commit had to come first, the last Tick and Pump were answered, and all is written and sent.
  abbrev pub IsEnd : CoreState × PressState G → List (ℕ × Entry G) → List Attempt → Result Ticket EnterFault → Result Ticket EnterFault → End → Type 0
  IsEnd origin newest attempts tick pump end.DiskFault = (at : ℕ) × (failed_over newest ≡ Some at)
  IsEnd origin newest attempts tick pump end.LinkFault = failed_over newest ≡ None
  IsEnd origin newest attempts tick pump end.NoMemory = failed_over newest ≡ None
  IsEnd origin newest attempts tick pump end.Done = (failed_over newest ≡ None) × All (λ one. IsAnsweredBehind one.last → ⊥) attempts × WasAnswered tick × WasAnswered pump × LeavesNothingPending origin newest

-- The disk's count of faults rose where a server ended with a disk fault, and is as it was where it ended otherwise.
pub record LeavesDisk (before now : ℕ) (ended : End) : Type 0 where
  pub rose : ended ≡ end.DiskFault → Rose before now
  pub same : ended ≢ end.DiskFault → now ≡ before

module _ {G : Type 0} (told : G → Option Told) (size disk_faults emit_faults : G → ℕ) where
  -- What a server did over a desk that was opened with this origin: its history, the floor that it left, which stands for the history, the ground that came back, and its numbers. Of what was sent, datagrams were lost just where emissions of the ground failed.
  pub record Serves (shows : ℕ → Type 0) (old new : Option (List Send)) (origin : CoreState × PressState G) (device : G) (closed : Closed) : Type 0 where
    pub history : List (ℕ × Entry G)
    pub workings : Workings G
    pub attempts : List Attempt
    pub tick : Result Ticket EnterFault
    pub pump : Result Ticket EnterFault
    pub floor : FloorState G
    pub from : floor.origin ≡ origin
    pub stands : FloorStands told size disk_faults emit_faults floor history
    pub ground : IsGroundOf floor.spot device
    pub all : HasAll history workings
    pub are : AreWorkings shows old new workings attempts
    pub ends : EndsWith shows workings.last tick pump
    pub received : closed.received ≡ length attempts
    pub events : closed.events ≡ (state_over origin.0 (reverse history)).events
    pub durable : closed.durable ≡ durable_over origin.0 (reverse history)
    pub lost : closed.lost ≡ capped (floor.lost + lost_of attempts)
    pub counted : CountsLost (emit_faults origin.1.device) (emit_faults device) floor.lost
    pub ended : IsEnd origin (reverse history) attempts tick pump closed.end
