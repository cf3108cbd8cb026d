-- A write on its way, and datagrams on theirs: what each image that a crash may leave opens to at each moment of them.
use Rattle.std.specs.Prelude.{◌≡◌, ◌⊎◌, ℕ, List, [], ◌∷◌, length, Option, Some, None, ⊤}
use Rattle.ground_io.specs.Disk.{Disk, Each, after_entry, disk_with}
use Rattle.ground_io.specs.Trace.{Told, Adds, disk_of}
use Rattle.ground_io.specs.declared.entry.Entry.TheVariants.{Wrote, Synced}
use Rattle.alarm_journal.specs.Journal.{Site, Content, OpensTo, nothing, only_snapshot, with_batch}
use Rattle.alarm_journal.specs.Press.{IsBlank, IsSettled, Lasts, Settled}
use Rattle.alarm_journal.specs.declared.change.Change.{Change}
use Rattle.alarm_journal.specs.declared.change.Change.TheVariants.{Beginning, Batch, Snapshot}
use Rattle.alarm_journal.specs.declared.layout.Layout.{Layout}

-- Each image that a crash may leave has P: as a write begins; while its octets come to their place, where any others of the same number may stand, also those that a failed write leaves; and once they are on the disk.
pub record Underway (P : List ℕ → Type 0) (place : ℕ) (octets : List ℕ) (disk : Disk) : Type 0 where
  pub begins : Each P disk
  pub comes : (left : List ℕ) → length left ≡ length octets → Each P (disk_with place left disk)
  pub ends : Each P (after_entry Synced (disk_with place octets disk))

-- An image on the way of a change opens to what stands as this write of the change begins, or to that with the change: to that and the batch, or to the snapshot alone. A blank device opens to nothing until its journal has begun, and then too.
abbrev pub IsOnWay : Change → Told → List ℕ → Type 0
IsOnWay (Beginning text need) told image = IsBlank told → OpensTo (record { text = text.now; need = need }) image nothing
IsOnWay (Batch layout job) told image = (site : Site) (content : Content) → IsSettled site layout told content → OpensTo site image content ⊎ OpensTo site image (with_batch content job.now)
IsOnWay (Snapshot layout job) told image = (site : Site) (content : Content) → IsSettled site layout told content → OpensTo site image content ⊎ OpensTo site image (only_snapshot job.now)

-- these octets may be written at a place for a change: at each moment each image is on its way, where the ground tells
abbrev pub MayWrite : Change → ℕ → List ℕ → Option Told → Type 0
MayWrite change place octets None = ⊤
MayWrite change place octets (Some told) = Underway (IsOnWay change told) place octets (disk_of told)

-- the same of the second of two writes, once the first is on the disk
abbrev pub MayWriteBehind : Change → ℕ → List ℕ → ℕ → List ℕ → Option Told → Type 0
MayWriteBehind change first octets second gate told = (behind : Option Told) → Adds told behind (Wrote first octets ∷ Synced ∷ []) → MayWrite change second gate behind

-- what stands by a layout is what each image that a crash may leave now opens to: so datagrams that rest on it may go out
abbrev pub MaySend : Layout → Option Told → Type 0
MaySend layout told = (site : Site) (content : Content) → Settled site layout told content → Lasts site told content
