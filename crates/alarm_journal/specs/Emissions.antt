-- What emissions leave in the trace.
use Rattle.std.specs.Prelude.{◌≡◌, ℕ, ◌+◌, List, [], ◌∷◌, Option, Some}
use Rattle.bac_values.specs.declared.note.Send.{Send}
use Rattle.ground_io.specs.Trace.{Told, Adds}
use Rattle.ground_io.specs.declared.entry.Entry.{Entry}
use Rattle.ground_io.specs.declared.entry.Entry.TheVariants.{Emitted, Lost}
use Rattle.alarm_journal.specs.Protocol.{IfToldOn}

-- One entry for each datagram, in order: so many of them were sent, and so many lost, which may have gone out in part.
abbrev pub AreEmissions : List Send → ℕ → ℕ → List Entry → Type 0
AreEmissions [] sent lost [] = (sent ≡ 0) × (lost ≡ 0)
AreEmissions (send ∷ sends) sent lost (Emitted peer octets ∷ entries) = (peer ≡ send.peer) × (octets ≡ send.bytes) × ((before : ℕ) × (sent ≡ before + 1) × AreEmissions sends before lost entries)
AreEmissions (send ∷ sends) sent lost (Lost peer octets ∷ entries) = (peer ≡ send.peer) × (octets ≡ send.bytes) × ((before : ℕ) × (lost ≡ before + 1) × AreEmissions sends sent before entries)
AreEmissions sends sent lost entries = ⊥

-- these datagrams were emitted or lost, and nothing else was done
pub record EmitsOnly (sends : List Send) (sent lost : ℕ) (old new : Told) : Type 0 where
  pub entries : List Entry
  pub adds : Adds (Some old) (Some new) entries
  pub emissions : AreEmissions sends sent lost entries

-- where it tells
abbrev pub EmitsAll : List Send → ℕ → ℕ → Option Told → Option Told → Type 0
EmitsAll sends sent lost old new = IfToldOn old new (EmitsOnly sends sent lost)
