-- How a worker takes one datagram, and tries one input.
use Rattle.std.specs.Prelude.{◌≡◌, ◌⊎◌, ℕ, ⊤, All, List, [], ◌∷◌, take, Option, Some, None, Result}
use Rattle.bac_values.specs.Address.{PeerData}
use Rattle.bac_values.specs.declared.input.Input.{Input}
use Rattle.bac_values.specs.declared.input.Input.TheVariants.{Datagram}
use Rattle.bac_values.specs.declared.note.Send.{Send}
use Rattle.ground_io.specs.Trace.{WhereTold}
use Rattle.ground_io.specs.declared.link.Received.{Received}
use Rattle.ground_io.specs.declared.link.Received.TheVariants as arrivals
use Rattle.turnstile.specs.Passes.{Known}
use Rattle.alarm_core.specs.State.{CoreState}
use Rattle.alarm_journal.specs.Press.{PressState}
use Rattle.floor_desk.specs.declared.entry.Entry.{Entry}
use Rattle.floor_desk.specs.declared.entry.Ticket.{Ticket}
use Rattle.floor_desk.specs.declared.faults.EnterFault.{EnterFault}
use Rattle.floor_desk.specs.Tries.{GaveUp, IsAnsweredBehind, IsOfCommit, IsOfInput, IsTried, tries_in}
use Rattle.floor_desk.specs.Workers.{AreShown, MadeEntries, input_of}

-- the first datagram of a link was taken, and this is the input that it is; where the link tells
abbrev pub IsNext : Option (List Send) → Option (List Send) → Input → Type 0
IsNext old None input = ⊤
IsNext None (Some new) input = ⊥
IsNext (Some []) (Some new) input = ⊥
IsNext (Some (first ∷ rest)) (Some new) input = (new ≡ rest) × (input ≡ input_of first)

-- what came is this input: a datagram whose octets stand in a slice
pub record HasCome (received : Received) (into : List ℕ) (input : Input) : Type 0 where
  pub peer : PeerData
  pub length : ℕ
  pub is : received ≡ arrivals.Datagram peer length
  pub input_is : input ≡ Datagram peer (take length into)

-- a link goes on telling what it told
abbrev pub StaysLeft : Option (List Send) → Option (List Send) → Type 0
StaysLeft old new = WhereTold old new (λ before now. now ≡ before)

module _ {G : Type 0} where
  -- one input was tried, again and again while a commit had to come first, with commits between; this is its last answer
  pub record HasTried (shows : ℕ → Type 0) (p q : Known (Entry G) (CoreState × PressState G)) (input : Input) (last : Result Ticket EnterFault) : Type 0 where
    pub entries : List (Entry G)
    pub worked : MadeEntries p q entries
    pub tried : IsTried input last (tries_in entries)
    pub parts : All (λ entry. IsOfInput entry ⊎ IsOfCommit entry) entries
    pub shown : AreShown shows entries
    pub gave_up : IsAnsweredBehind last → GaveUp entries
