-- What is left of a desk that was closed, and what a commit on it adds.
use Rattle.std.specs.Prelude.{◌≡◌, ℕ, ◌+◌, List, [], ◌∷◌, ◌++◌, length, Option, Result, Ok, Err}
use Rattle.ground_io.specs.Trace.{Told}
use Rattle.turnstile.specs.Passes.{Known, Sees}
use Rattle.noted.specs.declared.noted.Noted.{Noted}
use Rattle.alarm_core.specs.State.{CoreState}
use Rattle.alarm_journal.specs.Press.{PressState}
use Rattle.floor_desk.specs.declared.entry.Entry.{Entry}
use Rattle.floor_desk.specs.declared.entry.Entry.TheVariants.{Looked, Taken, Returned, Failed}
use Rattle.floor_desk.specs.declared.entry.Look.TheVariants.{Refused}
use Rattle.floor_desk.specs.declared.faults.CommitFault.{CommitFault}
use Rattle.floor_desk.specs.declared.faults.CommitFault.TheVariants as commits
use Rattle.floor_desk.specs.Accounts.{Account, Licenses, account}
use Rattle.floor_desk.specs.Desks.{Waited}
use Rattle.floor_desk.specs.Prefixes.{capped}
use Rattle.floor_desk.specs.Standing.{FloorStands}
use Rattle.floor_desk.specs.States.{FloorState}

module _ {G : Type 0} where
  -- the entries of a commit on a closed floor, under a number, by what it answers: the press left with all events, and came back with them written; or it left, and was lost; or the commit was refused, and no press was out
  abbrev pub AreOfCommit : Account G → ℕ → List (ℕ × Entry G) → Result ℕ CommitFault → Type 0
  AreOfCommit a n entries (Ok upto) = (upto ≡ a.state.events) × (memo : Noted (PressState G)) × (entries ≡ (n, Taken upto) ∷ (n, Returned upto memo) ∷ [])
  AreOfCommit a n entries (Err commits.DiskFault) = (upto : ℕ) × (upto ≡ a.state.events) × (memo : Noted G) × (entries ≡ (n, Taken upto) ∷ (n, Failed upto memo) ∷ [])
  AreOfCommit a n entries (Err (commits.Busy at upto)) = ⊥
  AreOfCommit a n entries (Err fault) = entries ≡ (n, Looked (Refused fault)) ∷ []

module _ {G : Type 0} (told : G → Option Told) (size disk_faults emit_faults : G → ℕ) where
  -- what is left of a desk whose last pass has waited for the press: the floor stands for a history that has all calls of the pass, and knows the place of the next entry
  pub record IsClosed (p : Known (Entry G) (CoreState × PressState G)) (floor : FloorState G) : Type 0 where
    pub waiting : Known (Entry G) (CoreState × PressState G)
    pub last : Known (Entry G) (CoreState × PressState G)
    pub waited : Waited p waiting
    pub sees : Sees Licenses waiting last
    pub stands : FloorStands told size disk_faults emit_faults floor last.seen
    pub next : floor.next ≡ length last.seen + 1

  -- A commit on a closed floor added its entries to the history, under a number. The floor stands for that, and knows the place of the next entry, as far as 64 bits go.
  pub record IsLastCommit (old new : FloorState G) (h : List (ℕ × Entry G)) (n : ℕ) (answer : Result ℕ CommitFault) : Type 0 where
    pub entries : List (ℕ × Entry G)
    pub are : AreOfCommit (account old.origin h) n entries answer
    pub stands : FloorStands told size disk_faults emit_faults new (h ++ entries)
    pub next : new.next ≡ capped (length (h ++ entries) + 1)
