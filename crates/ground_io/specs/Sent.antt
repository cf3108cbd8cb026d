-- What was sent so far, and what holds of each image that a crash may leave together with that.
use Rattle.std.specs.Prelude.{ℕ, List, [], ◌∷◌, ◌++◌}
use Rattle.ground_io.specs.Disk.{Disk, Each, after_entry}
use Rattle.ground_io.specs.declared.entry.Entry.{Entry}
use Rattle.ground_io.specs.declared.entry.Entry.TheVariants.{Wrote, Broke, Synced, Emitted, Lost}

-- none of these entries is an emission
abbrev pub AreQuiet : List Entry → Type 0
AreQuiet [] = Unit {0}
AreQuiet (Wrote place octets ∷ entries) = AreQuiet entries
AreQuiet (Broke place tried left ∷ entries) = AreQuiet entries
AreQuiet (Synced ∷ entries) = AreQuiet entries
AreQuiet (Emitted peer octets ∷ entries) = ⊥
AreQuiet (Lost peer octets ∷ entries) = ⊥

-- what was sent, lost emissions too, once this entry has come
abbrev pub sent_with : Entry → List Entry → List Entry
sent_with (Wrote place octets) sent = sent
sent_with (Broke place tried left) sent = sent
sent_with Synced sent = sent
sent_with (Emitted peer octets) sent = sent ++ Emitted peer octets ∷ []
sent_with (Lost peer octets) sent = sent ++ Lost peer octets ∷ []

-- and once all of these have come, in order
abbrev pub sent_after : List Entry → List Entry → List Entry
sent_after [] sent = sent
sent_after (entry ∷ entries) sent = sent_after entries (sent_with entry sent)

-- the emissions of a stretch of a trace, in order
abbrev pub emissions : List Entry → List Entry
emissions entries = sent_after entries []

-- at this moment, and after each of these entries: each image that a crash may leave has P, with what was sent until then
abbrev pub Along : (List Entry → List ℕ → Type 0) → List Entry → Disk → List Entry → Type 0
Along P sent disk [] = Each (P sent) disk
Along P sent disk (entry ∷ entries) = Each (P sent) disk × Along P (sent_with entry sent) (after_entry entry disk) entries
