-- How octets are written: each write is brought onto the disk before the next one begins.
use Rattle.std.specs.Prelude.{◌≡◌, ◌⊎◌, ℕ, List, [], ◌∷◌, length, Option, Some, None, ⊤}
use Rattle.ground_io.specs.Disk.{Always}
use Rattle.ground_io.specs.Sent.{AreQuiet}
use Rattle.ground_io.specs.Trace.{Told, Adds, disk_of}
use Rattle.ground_io.specs.declared.entry.Entry.{Entry}
use Rattle.ground_io.specs.declared.entry.Entry.TheVariants.{Wrote, Broke, Synced}

-- a fact about what a ground told before and tells now, where it tells: it may have stopped, and never begins
abbrev pub IfToldOn : Option Told → Option Told → (Told → Told → Type 0) → Type 0
IfToldOn old None P = ⊤
IfToldOn None (Some now) P = ⊥
IfToldOn (Some before) (Some now) P = P before now

-- what is told goes on with some entries that have P
abbrev pub AddsSome : (List Entry → Type 0) → Option Told → Option Told → Type 0
AddsSome P old new = IfToldOn old new (λ before now. (entries : List Entry) × P entries × Adds (Some before) (Some now) entries)

-- the entries of two writes, each with its sync
abbrev pub two_writes : ℕ → List ℕ → ℕ → List ℕ → List Entry
two_writes first body second gate = Wrote first body ∷ Synced ∷ Wrote second gate ∷ Synced ∷ []

-- the entries of one write that failed, or whose sync failed
abbrev pub IsCutShort : ℕ → List ℕ → List Entry → Type 0
IsCutShort place octets entries = (entries ≡ Wrote place octets ∷ []) ⊎ ((left : List ℕ) × (length left ≡ length octets) × (entries ≡ Broke place octets left ∷ []))

-- the entries of two writes of which one failed, or the sync of one: the second only begins once the first is on the disk
abbrev pub IsTwoCutShort : ℕ → List ℕ → ℕ → List ℕ → List Entry → Type 0
IsTwoCutShort first body second gate entries = IsCutShort first body entries ⊎ ((more : List Entry) × IsCutShort second gate more × (entries ≡ Wrote first body ∷ Synced ∷ more))

-- from one to the other nothing was emitted, and each image that a crash may leave at any moment, the first and the last included, has P
pub record Quietly (P : List ℕ → Type 0) (old new : Told) : Type 0 where
  pub entries : List Entry
  pub adds : Adds (Some old) (Some new) entries
  pub quiet : AreQuiet entries
  pub always : Always P (disk_of old) entries

-- where it tells
abbrev pub Leads : (List ℕ → Type 0) → Option Told → Option Told → Type 0
Leads P old new = IfToldOn old new (Quietly P)
