-- How a server is put together: three passes that are joined, what the last calls made, and how its end is told.
use Rattle.std.specs.Prelude.{◌≡◌, ◌⊎◌, ℕ, List, [], ◌∷◌, length, IsTrue, false, Bool, Option, Some, None, Result, Ok, Err}
use Rattle.std.specs.List.{All}
use Rattle.bac_values.specs.declared.note.Send.{Send}
use Rattle.turnstile.specs.Passes.{IsWhole, Known}
use Rattle.alarm_core.specs.State.{CoreState}
use Rattle.alarm_journal.specs.Press.{PressState}
use Rattle.floor_desk.specs.declared.entry.Entry.{Entry}
use Rattle.floor_desk.specs.declared.entry.Ticket.{Ticket}
use Rattle.floor_desk.specs.declared.faults.CommitFault.{CommitFault}
use Rattle.floor_desk.specs.declared.faults.CommitFault.TheVariants as commits
use Rattle.floor_desk.specs.declared.faults.EnterFault.{EnterFault}
use Rattle.floor_desk.specs.declared.receiver.Ends.{Ends}
use Rattle.floor_desk.specs.declared.serve.End.{End}
use Rattle.floor_desk.specs.declared.serve.End.TheVariants as end
use Rattle.floor_desk.specs.Accounts.{Account}
use Rattle.floor_desk.specs.Serving.{AreWorkings, EndsWith, WasAnswered, Workings}
use Rattle.floor_desk.specs.Tries.{Attempt, IsAnsweredBehind}
use Rattle.floor_desk.specs.Workers.{MadeEntries, lost_of}

module _ {G : Type 0} where
  -- the server's pass made these
  pub record HasEnded (shows : ℕ → Type 0) (p q : Known (Entry G) (CoreState × PressState G)) (tick pump : Result Ticket EnterFault) : Type 0 where
    pub entries : List (Entry G)
    pub worked : MadeEntries p q entries
    pub ends : EndsWith shows entries tick pump

  -- a pass has worked as a receiver, and two that were split off from it as the others; all were joined, and it has the whole share in its desk
  pub record WorkedTogether (shows : ℕ → Type 0) (old new : Option (List Send)) (q : Known (Entry G) (CoreState × PressState G)) (ends : Ends) : Type 0 where
    pub workings : Workings G
    pub attempts : List Attempt
    pub are : AreWorkings shows old new workings attempts
    pub number : q.number ≡ workings.server
    pub mine : q.mine ≡ workings.received
    pub carried : q.carried ≡ (workings.committer, workings.kept) ∷ ((workings.ticker, workings.ticked) ∷ [])
    pub whole : IsWhole q
    pub count : ends.received ≡ length attempts
    pub lost : ends.lost ≡ lost_of attempts
    pub tried : IsTrue ends.no_memory ⊎ All (λ one. IsAnsweredBehind one.last → ⊥) attempts

  -- all events of an account are written, and all that is owed was sent or lost
  pub record AccountIsDone (a : Account G) : Type 0 where
    pub written : a.durable ≡ a.state.events
    pub sent : a.back.dues ≡ length a.dues

  -- how a server ended, by the account of its history
  abbrev pub EndsAccount : Account G → List Attempt → Result Ticket EnterFault → Result Ticket EnterFault → End → Type 0
  EndsAccount a attempts tick pump end.DiskFault = (at : ℕ) × (a.failed ≡ Some at)
  EndsAccount a attempts tick pump end.LinkFault = a.failed ≡ None
  EndsAccount a attempts tick pump end.NoMemory = a.failed ≡ None
  EndsAccount a attempts tick pump end.Done = (a.failed ≡ None) × All (λ one. IsAnsweredBehind one.last → ⊥) attempts × WasAnswered tick × WasAnswered pump × AccountIsDone a

-- how a server ends whose disk hasn't failed: by its link, else by whether all was answered and no memory was refused
pub record IsUnbroken (ends : Ends) (answered : Bool) (ended : End) : Type 0 where
  pub link : IsTrue ends.link_fault → ended ≡ end.LinkFault
  pub well : (ends.link_fault ≡ false) → (ends.no_memory ≡ false) → IsTrue answered → ended ≡ end.Done
  pub short : (ends.link_fault ≡ false) → (IsTrue ends.no_memory ⊎ (answered ≡ false)) → ended ≡ end.NoMemory

-- the same where the last commit found no memory
abbrev pub IsLate : Ends → End → Type 0
IsLate ends ended = (IsTrue ends.link_fault → ended ≡ end.LinkFault) × ((ends.link_fault ≡ false) → ended ≡ end.NoMemory)

-- how a server ends, by its receiver, whether the last inputs were answered, and the last commit
abbrev pub IsEndBy : Ends → Bool → Result ℕ CommitFault → End → Type 0
IsEndBy ends answered (Err commits.DiskFault) ended = ended ≡ end.DiskFault
IsEndBy ends answered (Err (commits.Stopped at)) ended = ended ≡ end.DiskFault
IsEndBy ends answered (Ok upto) ended = IsUnbroken ends answered ended
IsEndBy ends answered (Err (commits.Nothing upto)) ended = IsUnbroken ends answered ended
IsEndBy ends answered (Err (commits.Busy at upto)) ended = IsLate ends ended
IsEndBy ends answered (Err commits.NoMemory) ended = IsLate ends ended
