-- What a crash leaves of a floor: at each moment a prefix of its order, with every event that a datagram sent until then rests on.
use Rattle.std.specs.Prelude.{◌≡◌, ◌<◌, ◌≤◌, ℕ, ◌+◌, ◌-◌, ◌^◌, min, Option, Some, List, [], ◌∷◌, ◌++◌, All, length, map, reverse, take}
use Rattle.ground_io.specs.Counts.{HasCause}
use Rattle.ground_io.specs.Sent.{Along, emissions}
use Rattle.ground_io.specs.Trace.{Told, Adds, disk_of}
use Rattle.ground_io.specs.declared.entry.Entry.{Entry}
use Rattle.ground_io.specs.declared.entry.Entry.TheVariants.{Wrote, Broke, Synced, Emitted, Lost}
use Rattle.bac_values.specs.declared.note.Send.{Send}
use Rattle.alarm_core.specs.declared.event.Event.{Event}
use Rattle.alarm_core.specs.declared.site.Site.{Site}
use Rattle.alarm_journal.specs.Journal.{Site as Journal}
use Rattle.alarm_journal.specs.Protocol.{IfToldOn}
use Rattle.state_codec.specs.Contents.{ImageStands}
use Rattle.floor_desk.specs.Accounts.{Due}

-- a history, with the first events of an order behind it
abbrev pub with_first : List Event → ℕ → List Event → List Event
with_first history count order = reverse (take count order) ++ history

-- each of these datagrams rests on no more events
abbrev pub RestsOn : ℕ → List Due → Type 0
RestsOn events dues = All (λ due. due.after ≤ events) dues

-- The image stands for the history and the first events of the order: of as many, at least, as the datagrams rest on that were sent until then. No more were sent than are owed.
pub record LeavesPrefix (journal : Journal) (site : Site) (history order : List Event) (dues : List Due) (sent : List Entry) (image : List ℕ) : Type 0 where
  pub count : ℕ
  pub within : count ≤ length order
  pub owed : length sent ≤ length dues
  pub covers : RestsOn (length history + count) (take (length sent) dues)
  pub stands : ImageStands journal site image (with_first history count order)

-- one datagram was sent, or lost
abbrev pub GoesOut : Send → Entry → Type 0
GoesOut send (Emitted peer octets) = (peer ≡ send.peer) × (octets ≡ send.bytes)
GoesOut send (Lost peer octets) = (peer ≡ send.peer) × (octets ≡ send.bytes)
GoesOut send (Wrote place octets) = ⊥
GoesOut send (Broke place tried left) = ⊥
GoesOut send Synced = ⊥

-- these datagrams were sent, or lost, each once and in their order
abbrev pub GoOut : List Send → List Entry → Type 0
GoOut [] [] = Unit {0}
GoOut [] (entry ∷ entries) = ⊥
GoOut (send ∷ sends) [] = ⊥
GoOut (send ∷ sends) (entry ∷ entries) = GoesOut send entry × GoOut sends entries

-- how many of these were lost
abbrev pub losses : List Entry → ℕ
losses [] = 0
losses (Lost peer octets ∷ entries) = 1 + losses entries
losses (Emitted peer octets ∷ entries) = losses entries
losses (Wrote place octets ∷ entries) = losses entries
losses (Broke place tried left ∷ entries) = losses entries
losses (Synced ∷ entries) = losses entries

-- From one to the other just the first of the dues were sent, so many, of which so many were lost, and at each moment each image that a crash may leave stands for a prefix that covers what was sent; where it tells.
abbrev pub KeepsOrder : Journal → Site → List Event → List Event → List Due → ℕ → Option Told → Option Told → Type 0
KeepsOrder journal site history order dues sent old new = IfToldOn old new (λ before now.
    (entries : List Entry) × Adds (Some before) (Some now) entries
    × GoOut (map (λ due. due.send) (take sent dues)) (emissions entries)
    × Along (LeavesPrefix journal site history order dues) [] (disk_of before) entries)

-- a number of 64 bits, where a greater one stands as the greatest
abbrev pub capped : ℕ → ℕ
capped number = min number (2 ^ 64 - 1)

-- so many of the datagrams that went out between the two were lost, as far as 64 bits go, where it tells
abbrev pub HasLost : ℕ → Option Told → Option Told → Type 0
HasLost lost old new = IfToldOn old new (λ before now. (entries : List Entry) × Adds (Some before) (Some now) entries × (lost ≡ capped (losses (emissions entries))))

-- So many datagrams were lost between the two counts of emissions that failed: the count rose where any was, and else it is as it was.
pub record CountsLost (before now lost : ℕ) : Type 0 where
  pub cause : HasCause before now (0 < lost)
  pub same : lost ≡ 0 → now ≡ before
