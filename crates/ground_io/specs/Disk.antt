-- What a disk is after a trace, and what a crash may leave of it.
use Rattle.std.specs.Prelude.{◌≡◌, ◌⊎◌, ◌<◌, ◌≤◌, ℕ, ◌+◌, List, [], ◌∷◌, ◌++◌, length, take, drop, slice_get}
use Rattle.ground_io.specs.declared.entry.Entry.{Entry}
use Rattle.ground_io.specs.declared.entry.Entry.TheVariants.{Wrote, Broke, Synced, Emitted, Lost}

-- a place and a number of octets
pub record Range : Type 0 where
  pub place : ℕ
  pub count : ℕ

-- what a read gives, and the ranges that were written since the last sync
pub record Disk : Type 0 where
  pub contents : List ℕ
  pub loose : List Range

-- the contents with these octets at this place
abbrev pub with_octets : ℕ → List ℕ → List ℕ → List ℕ
with_octets place octets contents = take place contents ++ octets ++ drop (place + length octets) contents

-- so many octets at a place
abbrev pub octets_at : ℕ → ℕ → List ℕ → List ℕ
octets_at place count contents = take count (drop place contents)

-- the disk after octets came to stand at a place, whether the write was answered well or not
abbrev pub disk_with : ℕ → List ℕ → Disk → Disk
disk_with place octets disk = record { contents = with_octets place octets disk.contents; loose = record { place = place; count = length octets } ∷ disk.loose }

-- the disk after an entry; a failed write has left some octets in its range
abbrev pub after_entry : Entry → Disk → Disk
after_entry (Wrote place octets) disk = disk_with place octets disk
after_entry (Broke place tried left) disk = disk_with place left disk
after_entry Synced disk = record { contents = disk.contents; loose = [] }
after_entry (Emitted peer octets) disk = disk
after_entry (Lost peer octets) disk = disk

-- the disk after all of them, in order
abbrev pub disk_after : List Entry → Disk → Disk
disk_after [] disk = disk
disk_after (entry ∷ entries) disk = disk_after entries (after_entry entry disk)

-- a place that is in none of these ranges
abbrev pub IsOutside : ℕ → List Range → Type 0
IsOutside place [] = Unit {0}
IsOutside place (range ∷ more) = ((place < range.place) ⊎ (range.place + range.count ≤ place)) × IsOutside place more

-- an image that a crash may leave: any octets in the loose ranges, and in all else what a read gives
pub record MayLeave (disk : Disk) (image : List ℕ) : Type 0 where
  pub size : length image ≡ length disk.contents
  pub as_read : (place : ℕ) → IsOutside place disk.loose → slice_get image place ≡ slice_get disk.contents place

-- each image that a crash may leave at this moment has P
abbrev pub Each : (List ℕ → Type 0) → Disk → Type 0
Each P disk = (image : List ℕ) → MayLeave disk image → P image

-- each image that a crash may leave at this moment, or after any of these entries, has P
abbrev pub Always : (List ℕ → Type 0) → Disk → List Entry → Type 0
Always P disk [] = Each P disk
Always P disk (entry ∷ entries) = Each P disk × Always P (after_entry entry disk) entries

-- an entry of a device of this size: what it wrote lies on the device, and a failed write left as many octets as were tried
abbrev pub IsInside : ℕ → Entry → Type 0
IsInside size (Wrote place octets) = place + length octets ≤ size
IsInside size (Broke place tried left) = (place + length tried ≤ size) × (length left ≡ length tried)
IsInside size Synced = Unit {0}
IsInside size (Emitted peer octets) = Unit {0}
IsInside size (Lost peer octets) = Unit {0}
