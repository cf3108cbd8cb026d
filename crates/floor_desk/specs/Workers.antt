-- What each worker of a server did, told by the entries that its pass made.
use Rattle.std.specs.Prelude.{◌≡◌, ◌⊎◌, ◌<◌, ◌≤◌, ◌+◌, ℕ, All, List, [], ◌∷◌, ◌++◌, length, map, take, drop, IsTrue, Option, Result, Ok, Err}
use Rattle.bac_values.specs.Limits.{most_datagram_octets}
use Rattle.bac_values.specs.declared.input.Input.{Input}
use Rattle.bac_values.specs.declared.input.Input.TheVariants.{Datagram}
use Rattle.bac_values.specs.declared.note.Send.{Send}
use Rattle.ground_io.specs.Counts.{HasCause}
use Rattle.ground_io.specs.Trace.{WhereTold}
use Rattle.turnstile.specs.Histories.{StartsWith}
use Rattle.turnstile.specs.Passes.{Known}
use Rattle.alarm_core.specs.State.{CoreState}
use Rattle.alarm_journal.specs.Press.{PressState}
use Rattle.floor_desk.specs.declared.entry.Entry.{Entry}
use Rattle.floor_desk.specs.declared.entry.Entry.TheVariants.{Returned, Failed}
use Rattle.floor_desk.specs.declared.entry.Ticket.{Ticket}
use Rattle.floor_desk.specs.declared.faults.EnterFault.{EnterFault}
use Rattle.floor_desk.specs.declared.receiver.Ends.{Ends}
use Rattle.floor_desk.specs.Prefixes.{capped}
use Rattle.floor_desk.specs.Tries.{AreTicks, AreTried, Attempt, GaveUp, IsAnsweredBehind, IsOfCommit, IsOfInput, tries_in}

-- a datagram of the link as an input: cut to these octets
abbrev pub input_of : Send → Input
input_of datagram = Datagram datagram.peer (take most_datagram_octets datagram.bytes)

-- how many of these have no ticket as their last answer
abbrev pub if_lost : Result Ticket EnterFault → ℕ
if_lost (Ok ticket) = 0
if_lost (Err fault) = 1

abbrev pub lost_of : List Attempt → ℕ
lost_of [] = 0
lost_of (one ∷ more) = if_lost one.last + lost_of more

-- so many datagrams were taken from a link, and these are the inputs that they are, in their order; where the link tells
abbrev pub AreTaken : Option (List Send) → Option (List Send) → List Attempt → Type 0
AreTaken old new attempts = WhereTold old new (λ before now. (map (λ one. one.input) attempts ≡ map input_of (take (length attempts) before)) × (now ≡ drop (length attempts) before))

-- a receiver ends where so many datagrams have come, where the link failed, as its count of faults tells, or where memory was refused
pub record EndsReceiving (count before now : ℕ) (ends : Ends) : Type 0 where
  pub most : ends.received ≤ count
  pub why : (ends.received ≡ count) ⊎ (IsTrue ends.link_fault ⊎ IsTrue ends.no_memory)
  pub cause : HasCause before now (IsTrue ends.link_fault)
  pub counted : IsTrue ends.link_fault ⊎ (now ≡ before)

-- the inputs are datagrams
abbrev pub IsDatagram : Input → Type 0
IsDatagram (Datagram peer octets) = Unit {0}
IsDatagram input = ⊥

module _ {G : Type 0} where
  -- a pass made these entries, and has seen more
  pub record MadeEntries (p q : Known (Entry G) (CoreState × PressState G)) (entries : List (Entry G)) : Type 0 where
    pub begins : StartsWith q.seen p.seen
    pub same : q ≡ record p { mine = p.mine ++ entries; seen = q.seen; mark = q.mark }
    pub mark : p.mark ≤ q.mark

  -- how many calls of the desk made these entries: each made one entry, but that a commit whose press left made two
  abbrev pub calls_in : List (Entry G) → ℕ
  calls_in [] = 0
  calls_in (Returned upto press ∷ more) = calls_in more
  calls_in (Failed upto device ∷ more) = calls_in more
  calls_in (entry ∷ more) = 1 + calls_in more

  -- Behind one of its steps and up to another a worker went through its gate at each, and its pass made no more calls of the desk than these, as far as 64 bits number the steps.
  pub record GoesThrough (passed : ℕ → Type 0) (from to : ℕ) (p q : Known (Entry G) (CoreState × PressState G)) : Type 0 where
    pub entries : List (Entry G)
    pub mine : q.mine ≡ p.mine ++ entries
    pub turns : (step : ℕ) → from < step → step ≤ to → passed step
    pub calls : capped (from + calls_in entries) ≤ to

  -- a worker went through its gate at its first steps, so many, and made no more calls of the desk
  abbrev pub TakesTurns : (ℕ → Type 0) → Known (Entry G) (CoreState × PressState G) → Known (Entry G) (CoreState × PressState G) → Type 0
  TakesTurns passed p q = (steps : ℕ) × GoesThrough passed 0 steps p q

  -- each moment is one that the clock shows
  abbrev pub AreShown : (ℕ → Type 0) → List (Entry G) → Type 0
  AreShown shows entries = All (λ one. shows one.moment) (tries_in entries)

  -- Some datagrams were taken from the link, and tried in their order, each again and again while a commit had to come first, with commits between. None is left for which one had to come first, but where memory was refused: then the entries end with that.
  pub record IsReceived (shows : ℕ → Type 0) (old new : Option (List Send)) (entries : List (Entry G)) (attempts : List Attempt) : Type 0 where
    pub tried : AreTried attempts (tries_in entries)
    pub datagrams : All (λ one. IsDatagram one.input) attempts
    pub taken : AreTaken old new attempts
    pub parts : All (λ entry. IsOfInput entry ⊎ IsOfCommit entry) entries
    pub shown : AreShown shows entries
    pub gave_up : All (λ one. IsAnsweredBehind one.last → ⊥) attempts ⊎ GaveUp entries

  -- what a receiver did: it counts the datagrams, and those that were given no ticket. None is left for which a commit had to come first, but where memory was refused
  pub record HasReceived (shows : ℕ → Type 0) (old new : Option (List Send)) (p q : Known (Entry G) (CoreState × PressState G)) (ends : Ends) : Type 0 where
    pub entries : List (Entry G)
    pub attempts : List Attempt
    pub worked : MadeEntries p q entries
    pub received : IsReceived shows old new entries attempts
    pub count : ends.received ≡ length attempts
    pub lost : ends.lost ≡ lost_of attempts
    pub tried : IsTrue ends.no_memory ⊎ All (λ one. IsAnsweredBehind one.last → ⊥) attempts

  -- what a ticker did: Tick and Pump in turn
  pub record HasTicked (shows : ℕ → Type 0) (p q : Known (Entry G) (CoreState × PressState G)) : Type 0 where
    pub entries : List (Entry G)
    pub worked : MadeEntries p q entries
    pub ticks : AreTicks (tries_in entries)
    pub parts : All IsOfInput entries
    pub shown : AreShown shows entries

  -- what a committer did: it made entries of commits alone
  pub record HasKept (p q : Known (Entry G) (CoreState × PressState G)) : Type 0 where
    pub entries : List (Entry G)
    pub worked : MadeEntries p q entries
    pub parts : All IsOfCommit entries
