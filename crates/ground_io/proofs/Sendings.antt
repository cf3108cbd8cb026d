-- How a statement along a trace grows: stretches follow each other, and where nothing is sent it is one about images alone.
use Rattle.std.proofs.Common.{◌≡◌, ℕ, List, [], ◌∷◌, ◌++◌, refl}
use Rattle.ground_io.specs.Disk.{Disk, Each, Always, after_entry, disk_after}
use Rattle.ground_io.specs.Sent.{AreQuiet, sent_with, sent_after, Along}
use Rattle.ground_io.specs.declared.entry.Entry.{Entry}
use Rattle.ground_io.specs.declared.entry.Entry.TheVariants.{Wrote, Broke, Synced, Emitted, Lost}

module _ (P : List Entry → List ℕ → Type 0) where
  -- one stretch, and another behind it
  pub along-append : (sent : List Entry) (disk : Disk) (first second : List Entry) → Along P sent disk first → Along P (sent_after first sent) (disk_after first disk) second → Along P sent disk (first ++ second)
  along-append sent disk [] second one two = two
  along-append sent disk (entry ∷ first) second one two = (one.0, along-append (sent_with entry sent) (after_entry entry disk) first second one.1 two)

  -- at each place of a stretch
  pub along_at : (sent : List Entry) (disk : Disk) (first second : List Entry) → Along P sent disk (first ++ second) → Each (P (sent_after first sent)) (disk_after first disk)
  along_at sent disk [] [] all = all
  along_at sent disk [] (entry ∷ second) all = all.0
  along_at sent disk (entry ∷ first) second all = along_at (sent_with entry sent) (after_entry entry disk) first second all.1

  -- where nothing is sent
  pub along_quiet : (sent : List Entry) (disk : Disk) (entries : List Entry) → AreQuiet entries → Always (P sent) disk entries → Along P sent disk entries
  along_quiet sent disk [] quiet all = all
  along_quiet sent disk (Wrote place octets ∷ entries) quiet all = (all.0, along_quiet sent (after_entry (Wrote place octets) disk) entries quiet all.1)
  along_quiet sent disk (Broke place tried left ∷ entries) quiet all = (all.0, along_quiet sent (after_entry (Broke place tried left) disk) entries quiet all.1)
  along_quiet sent disk (Synced ∷ entries) quiet all = (all.0, along_quiet sent (after_entry Synced disk) entries quiet all.1)
  along_quiet sent disk (Emitted peer octets ∷ entries) quiet all = absurd quiet
  along_quiet sent disk (Lost peer octets ∷ entries) quiet all = absurd quiet

-- a quiet stretch sends nothing
pub quiet_sends_nothing : (sent : List Entry) (entries : List Entry) → AreQuiet entries → sent_after entries sent ≡ sent
quiet_sends_nothing sent [] quiet = refl
quiet_sends_nothing sent (Wrote place octets ∷ entries) quiet = quiet_sends_nothing sent entries quiet
quiet_sends_nothing sent (Broke place tried left ∷ entries) quiet = quiet_sends_nothing sent entries quiet
quiet_sends_nothing sent (Synced ∷ entries) quiet = quiet_sends_nothing sent entries quiet
quiet_sends_nothing sent (Emitted peer octets ∷ entries) quiet = absurd quiet
quiet_sends_nothing sent (Lost peer octets ∷ entries) quiet = absurd quiet
