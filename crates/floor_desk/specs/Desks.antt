-- What a call of the desk adds to the history.
use Rattle.std.specs.Prelude.{◌≡◌, ◌≢◌, ◌<◌, ◌≤◌, ℕ, List, [], ◌∷◌, ◌++◌, max, replicate, Option, Some, Result, Ok, Err}
use Rattle.ground_io.specs.Trace.{Told}
use Rattle.turnstile.specs.Histories.{StartsWith, entries_under}
use Rattle.turnstile.specs.Passes.{Known}
use Rattle.noted.specs.declared.noted.Noted.{Noted}
use Rattle.alarm_core.specs.State.{CoreState}
use Rattle.alarm_journal.specs.Press.{PressState}
use Rattle.floor_desk.specs.declared.desk.Standing.{Standing}
use Rattle.floor_desk.specs.declared.desk.Standing.TheVariants.{Durable, NotYet}
use Rattle.floor_desk.specs.declared.entry.Entry.{Entry}
use Rattle.floor_desk.specs.declared.entry.Entry.TheVariants.{Looked, Taken, Returned, Failed}
use Rattle.floor_desk.specs.declared.entry.Look.TheVariants.{Refused, Closing}
use Rattle.floor_desk.specs.declared.faults.CommitFault.{CommitFault}
use Rattle.floor_desk.specs.declared.faults.CommitFault.TheVariants as commits
use Rattle.floor_desk.specs.Accounts.{Loan, account}
use Rattle.floor_desk.specs.Legal.{IsLegal}
use Rattle.floor_desk.specs.Courses.{KeepsFronts}

module _ {G : Type 0} (origin : CoreState × PressState G) where
  -- the pass took the press, in what it has seen, and it has the press until now
  pub record HasTaken (p : Known (Entry G) (CoreState × PressState G)) (upto : ℕ) : Type 0 where
    pub loan : Loan
    pub number : loan.number ≡ p.number
    pub upto_is : loan.upto ≡ upto
    pub out : (account origin p.seen).loan ≡ Some loan
    pub own : entries_under p.number p.seen ≡ p.mine
    pub fronts : KeepsFronts origin (account origin p.seen)

module _ {G : Type 0} (told : G → Option Told) (size disk_faults emit_faults : G → ℕ) (origin : CoreState × PressState G) where
  -- One entry of this call, behind what came between: of the pass's own entries that holds those from before, and as many events were durable then as its mark tells.
  pub record MakesEntry (p q : Known (Entry G) (CoreState × PressState G)) (e : Entry G) : Type 0 where
    pub between : List (ℕ × Entry G)
    pub same : q ≡ record p { mine = p.mine ++ e ∷ []; seen = (p.seen ++ between) ++ (p.number, e) ∷ [] }
    pub legal : IsLegal told size disk_faults emit_faults origin q.seen
    pub own : entries_under p.number (p.seen ++ between) ≡ p.mine
    pub marked : p.mark ≢ 0 → p.mark ≤ (account origin (p.seen ++ between)).durable

  -- the press left, with all events of that moment
  pub record TakesPress (p q : Known (Entry G) (CoreState × PressState G)) (upto : ℕ) : Type 0 where
    pub adds : MakesEntry p q (Taken upto)
    pub all : upto ≡ (account origin (p.seen ++ adds.between)).state.events
    pub has : HasTaken origin q upto

  -- the press left, with all events of that moment, and this entry ended its way, both under the number of this pass
  pub record Leaves (p q : Known (Entry G) (CoreState × PressState G)) (upto : ℕ) (e : Entry G) (mark : ℕ) : Type 0 where
    pub before : List (ℕ × Entry G)
    pub between : List (ℕ × Entry G)
    pub same : q ≡ record p { mine = (p.mine ++ Taken upto ∷ []) ++ e ∷ []; seen = (((p.seen ++ before) ++ (p.number, Taken upto) ∷ []) ++ between) ++ (p.number, e) ∷ []; mark = mark }
    pub all : upto ≡ (account origin (p.seen ++ before)).state.events
    pub legal : IsLegal told size disk_faults emit_faults origin q.seen
    pub own : entries_under p.number (p.seen ++ before) ≡ p.mine
    pub marked : p.mark ≢ 0 → p.mark ≤ (account origin (p.seen ++ before)).durable

  -- what a commit has done: all events were written that there were as the press left, and the mark is no lower; or the disk failed; or the commit was refused
  abbrev pub HasCommitted : Known (Entry G) (CoreState × PressState G) → Known (Entry G) (CoreState × PressState G) → Result ℕ CommitFault → Type 0
  HasCommitted p q (Ok upto) = (memo : Noted (PressState G)) × Leaves p q upto (Returned upto memo) (max p.mark upto)
  HasCommitted p q (Err commits.DiskFault) = (upto : ℕ) × (memo : Noted G) × Leaves p q upto (Failed upto memo) p.mark
  HasCommitted p q (Err fault) = MakesEntry p q (Looked (Refused fault))

module _ {G : Type 0} where
  -- the pass waited for the press, and has seen more
  pub record Waited (p q : Known (Entry G) (CoreState × PressState G)) : Type 0 where
    pub count : ℕ
    pub begins : StartsWith q.seen p.seen
    pub same : q ≡ record p { mine = p.mine ++ replicate count (Looked Closing); seen = q.seen }

  -- what is told of the event with a number, and the mark that the pass then knows
  abbrev pub TellsStanding : ℕ → Known (Entry G) (CoreState × PressState G) → Known (Entry G) (CoreState × PressState G) → Standing → Type 0
  TellsStanding number p q (Durable mark) = (number ≤ mark) × (p.mark ≤ mark) × (q ≡ record p { mark = mark })
  TellsStanding number p q (NotYet mark) = (mark < number) × (p.mark ≤ mark) × (q ≡ record p { mark = mark })
