-- What the entries of a caller tried: the inputs, with their moments and answers.
use Rattle.std.specs.Prelude.{◌≡◌, ℕ, List, [], ◌∷◌, ◌++◌, Result, Ok, Err}
use Rattle.std.specs.List.{flat_map}
use Rattle.bac_values.specs.declared.input.Input.{Input}
use Rattle.bac_values.specs.declared.input.Input.TheVariants.{Tick, Pump}
use Rattle.floor_desk.specs.declared.entry.Entry.{Entry}
use Rattle.floor_desk.specs.declared.entry.Entry.TheVariants.{Event, Looked, Taken, Returned, Failed}
use Rattle.floor_desk.specs.declared.entry.Look.TheVariants.{Tried, Refused, Closing}
use Rattle.floor_desk.specs.declared.entry.Ticket.{Ticket}
use Rattle.floor_desk.specs.declared.faults.CommitFault.TheVariants as commits
use Rattle.floor_desk.specs.declared.faults.EnterFault.{EnterFault}
use Rattle.floor_desk.specs.declared.faults.EnterFault.TheVariants as enters

-- an input that was tried at a moment, and what was answered
pub record Try : Type 0 where
  pub input : Input
  pub moment : ℕ
  pub answer : Result Ticket EnterFault

module _ {G : Type 0} where
  -- what an entry tried, if it tried anything
  abbrev pub tried_by : Entry G → List Try
  tried_by (Event input moment ticket) = record { input = input.value; moment = moment; answer = Ok ticket } ∷ []
  tried_by (Looked (Tried input moment answer)) = record { input = input.value; moment = moment; answer = answer } ∷ []
  tried_by (Looked (Refused fault)) = []
  tried_by (Looked Closing) = []
  tried_by (Taken upto) = []
  tried_by (Returned upto press) = []
  tried_by (Failed upto device) = []

  -- what some entries tried, the oldest first
  abbrev pub tries_in : List (Entry G) → List Try
  tries_in entries = flat_map tried_by entries

  -- an entry of a commit: the press left, came back or was lost, or the commit was refused
  abbrev pub IsOfCommit : Entry G → Type 0
  IsOfCommit (Taken upto) = Unit {0}
  IsOfCommit (Returned upto press) = Unit {0}
  IsOfCommit (Failed upto device) = Unit {0}
  IsOfCommit (Looked (Refused fault)) = Unit {0}
  IsOfCommit (Looked (Tried input moment answer)) = ⊥
  IsOfCommit (Looked Closing) = ⊥
  IsOfCommit (Event input moment ticket) = ⊥

  -- an entry of an input
  abbrev pub IsOfInput : Entry G → Type 0
  IsOfInput (Event input moment ticket) = Unit {0}
  IsOfInput (Looked (Tried input moment answer)) = Unit {0}
  IsOfInput (Looked (Refused fault)) = ⊥
  IsOfInput (Looked Closing) = ⊥
  IsOfInput (Taken upto) = ⊥
  IsOfInput (Returned upto press) = ⊥
  IsOfInput (Failed upto device) = ⊥

-- the answer is that a commit has to come first
abbrev pub IsAnsweredBehind : Result Ticket EnterFault → Type 0
IsAnsweredBehind (Ok ticket) = ⊥
IsAnsweredBehind (Err (enters.Behind pending octets)) = Unit {0}
IsAnsweredBehind (Err (enters.Stopped at)) = ⊥
IsAnsweredBehind (Err (enters.Full would limit)) = ⊥
IsAnsweredBehind (Err enters.NoMemory) = ⊥

module _ {G : Type 0} where
  -- why an input isn't tried again to which a commit had to come first: that commit found no memory
  abbrev pub GaveUp : List (Entry G) → Type 0
  GaveUp entries = (front : List (Entry G)) × (entries ≡ front ++ Looked (Refused commits.NoMemory) ∷ [])

-- The input was tried until it was no longer answered that a commit has to come first, or once more was refused: each answer but the last is that, and this is the last one.
abbrev pub IsTried : Input → Result Ticket EnterFault → List Try → Type 0
IsTried input last [] = ⊥
IsTried input last (one ∷ []) = (one.input ≡ input) × (one.answer ≡ last)
IsTried input last (one ∷ (next ∷ more)) = (one.input ≡ input) × IsAnsweredBehind one.answer × IsTried input last (next ∷ more)

-- an input, and its last answer
pub record Attempt : Type 0 where
  pub input : Input
  pub last : Result Ticket EnterFault

-- these inputs were tried in their order, each as above
abbrev pub AreTried : List Attempt → List Try → Type 0
AreTried [] tries = tries ≡ []
AreTried (one ∷ more) tries = (front rest : List Try) × (tries ≡ front ++ rest) × IsTried one.input one.last front × AreTried more rest

-- Tick and Pump in turn, the first of them a Tick
abbrev pub AreTicks : List Try → Type 0
AreTicks [] = Unit {0}
AreTicks (tick ∷ []) = ⊥
AreTicks (tick ∷ (pump ∷ more)) = (tick.input ≡ Tick) × (pump.input ≡ Pump) × AreTicks more
