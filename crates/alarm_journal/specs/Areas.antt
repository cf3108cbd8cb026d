-- What was read of an area.
use Rattle.std.specs.Prelude.{◌≡◌, ◌≢◌, ◌⊎◌, ◌<◌, ◌≤◌, ℕ, ◌+◌, List, [], length, slice_index, Option}
use Rattle.byteorder.specs.Endian.{big_number}
use Rattle.ground_io.specs.Disk.{octets_at}
use Rattle.ground_io.specs.Trace.{Told}
use Rattle.alarm_journal.specs.Journal.{Content, BeginsWith}
use Rattle.alarm_journal.specs.Opened.{LieBetween, Shows, found_at, pieces, sum_of}
use Rattle.alarm_journal.specs.declared.area.Area.{Area}
use Rattle.alarm_journal.specs.declared.body.Body.{Body}
use Rattle.alarm_journal.specs.declared.open_fault.OpenFault.{OpenFault}
use Rattle.alarm_journal.specs.declared.open_fault.OpenFault.TheVariants.{Damaged, DiskFault, NoMemory}
use Rattle.alarm_journal.specs.declared.opened.Opened.{Opened}

-- In an area of so many octets from a place of the device on, this stands up to the next gate, and that gate is closed, or the area is full.
pub record IsRead (start half next : ℕ) (content : Content) (image : List ℕ) : Type 0 where
  pub closed : next < half → slice_index image (start + next) ≢ 1
  pub reads : BeginsWith (octets_at start next image) content []

-- an open gate, and the length of its body
pub record IsHead (place count : ℕ) (image : List ℕ) : Type 0 where
  pub gate : slice_index image place ≡ 1
  pub size : count ≡ big_number 4 (octets_at (place + 1) 4 image)

-- with so many octets from a place to the end of the area: no gate, or a closed one
abbrev pub IsEnd : ℕ → ℕ → List ℕ → Type 0
IsEnd place left image = 0 < left → slice_index image place ≢ 1

-- an open gate without room for its length, or for the body that its length tells
pub record IsBadHead (place left : ℕ) (image : List ℕ) : Type 0 where
  pub some : 0 < left
  pub gate : slice_index image place ≡ 1
  pub over : (left < 5) ⊎ (left < 5 + big_number 4 (octets_at (place + 1) 4 image))

-- what was opened begins at the start of an area, and its bodies lie from its snapshot up to the next gate
pub record IsLaid (start next : ℕ) (opened : Opened) : Type 0 where
  pub snapshot : opened.snapshot_place ≡ start + 4
  pub bodies : LieBetween (start + 4 + length opened.snapshot) opened.bodies next
  pub whole : sum_of opened.bodies ≡ length opened.batches

-- Of an area that begins at a place: its snapshot and its batches up to a gate were read, and stand there.
pub record IsSoFar (start : ℕ) (snapshot batches : List ℕ) (bodies : List Body) (next : ℕ) (image : List ℕ) : Type 0 where
  pub reads : BeginsWith (octets_at start next image) (record { snapshot = snapshot; bodies = pieces bodies batches }) []
  pub stands : octets_at (start + 4) (length snapshot) image ≡ snapshot
  pub found : found_at image bodies ≡ pieces bodies batches

abbrev pub so_far : Area → List ℕ → Type 0
so_far area image = IsSoFar area.start area.snapshot.items area.batches.items area.bodies.items area.next image

-- the next gate is in the area or at its end, the bodies lie up to it, and they make up the batches
pub record IsWithin (start half : ℕ) (snapshot batches : List ℕ) (bodies : List Body) (next : ℕ) : Type 0 where
  pub behind : 4 ≤ next
  pub within : next ≤ half
  pub lie : LieBetween (start + 4 + length snapshot) bodies (start + next)
  pub whole : sum_of bodies ≡ length batches

abbrev pub within : Area → Type 0
within area = IsWithin area.start area.half area.snapshot.items area.batches.items area.bodies.items area.next

-- where it is, and what its snapshot is, stays
abbrev pub StaysAt : Area → Area → Type 0
StaysAt old new = (new.start ≡ old.start) × ((new.half ≡ old.half) × (new.snapshot.items ≡ old.snapshot.items))

-- a failing device or want of memory; or a damage, where this is so of its place and the octets
abbrev pub IsDamage : Option Told → (ℕ → List ℕ → Type 0) → OpenFault → Type 0
IsDamage told Bad fault = (fault ≡ DiskFault) ⊎ ((fault ≡ NoMemory) ⊎ ((at : ℕ) × (fault ≡ Damaged at) × Shows told (Bad at)))
