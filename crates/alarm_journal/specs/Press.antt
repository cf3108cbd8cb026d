-- A press at rest, and what its calls leave.
use Rattle.std.specs.Prelude.{◌≡◌, ◌≢◌, ◌⊎◌, ◌≤◌, ◌<◌, ◌↔◌, ◌^◌, ℕ, ◌+◌, ◌-◌, ◌%◌, Bool, not, List, [], ◌∷◌, length, slice_index, Option, Some, None, Result, Ok, Err, if◌then◌else◌, ⊤, IsTrue}
use Rattle.ground_io.specs.Disk.{Each, Always, octets_at}
use Rattle.ground_io.specs.Trace.{Told, Adds, disk_of}
use Rattle.ground_io.specs.declared.entry.Entry.{Entry}
use Rattle.ground_io.specs.declared.entry.Entry.TheVariants.{Synced}
use Rattle.alarm_journal.specs.Journal.{Site, Content, OpensTo, OpenAlike, IsRefused, IsOurs, BeginsWith, half_of, heading}
use Rattle.ground_io.specs.Sent.{AreQuiet}
use Rattle.alarm_journal.specs.Protocol.{IfToldOn, Leads, two_writes, IsTwoCutShort}
use Rattle.alarm_journal.specs.declared.layout.Layout.{Layout}
use Rattle.alarm_journal.specs.declared.open_fault.OpenFault.{OpenFault}
use Rattle.alarm_journal.specs.declared.open_fault.OpenFault.TheVariants.{Damaged, DiskFault, Foreign, NoMemory, SmallDevice}

-- a press: its ground, and where its journal lies
pub record PressState (G : Type 0) : Type 0 where
  pub device : G
  pub layout : Layout

-- where the selected area begins, and where it ends
abbrev pub start_of : Layout → ℕ
start_of layout = if layout.second then layout.areas + layout.half else layout.areas

abbrev pub end_of : Layout → ℕ
end_of layout = start_of layout + layout.half

-- where the other area begins
abbrev pub other_of : Layout → ℕ
other_of layout = if layout.second then layout.areas else layout.areas + layout.half

-- the selector of the other area
abbrev pub selector_of : Layout → ℕ
selector_of layout = if layout.second then 0 else 1

-- the longest body of a batch that the area still takes: with a gate and a length before it and a closed gate behind it
abbrev pub room_of : Layout → ℕ
room_of layout = end_of layout - layout.next - 6

-- behind a batch whose body has so many octets
abbrev pub behind_batch : Layout → ℕ → Layout
behind_batch layout size = record { areas = layout.areas; half = layout.half; second = layout.second; next = layout.next + 5 + size }

-- with the other area selected, that holds a snapshot of so many octets alone
abbrev pub behind_snapshot : Layout → ℕ → Layout
behind_snapshot layout size = record { areas = layout.areas; half = layout.half; second = not layout.second; next = other_of layout + 4 + size }

-- the two areas lie on a device of this size, and the next gate within the selected one or at its end
pub record IsSound (size : ℕ) (layout : Layout) : Type 0 where
  pub fits : layout.areas + layout.half + layout.half ≤ size
  pub behind : start_of layout + 4 ≤ layout.next
  pub within : layout.next ≤ end_of layout
  pub header : 22 ≤ layout.areas
  pub word : size < 2 ^ 64

-- what stands on the device is this content, and the next gate is closed where there is one:
-- from the area's beginning up to that gate stands the content, and nothing else
pub record StandsFor (site : Site) (layout : Layout) (contents : List ℕ) (content : Content) : Type 0 where
  pub ours : IsOurs site contents
  pub areas : layout.areas ≡ 22 + length site.text
  pub half : half_of site.text contents ≡ layout.half
  pub selected : slice_index contents (21 + length site.text) % 2 ≡ (if layout.second then 1 else 0)
  pub closed : layout.next < end_of layout → slice_index contents layout.next ≢ 1
  pub reads : BeginsWith (octets_at (start_of layout) (layout.next - start_of layout) contents) content []

-- and nothing that was written is off the disk
pub record IsSettled (site : Site) (layout : Layout) (told : Told) (content : Content) : Type 0 where
  pub stands : StandsFor site layout (disk_of told).contents content
  pub stable : (disk_of told).loose ≡ []

-- where it tells
abbrev pub Settled : Site → Layout → Option Told → Content → Type 0
Settled site layout None content = ⊤
Settled site layout (Some told) content = IsSettled site layout told content

-- each image that a crash may leave now opens to this, where it tells
abbrev pub Lasts : Site → Option Told → Content → Type 0
Lasts site None content = ⊤
Lasts site (Some told) content = Each (λ image. OpensTo site image content) (disk_of told)

-- at each moment on the way from one to the other, each image that a crash may leave opens to this, where it tells
abbrev pub Throughout : Site → Content → Option Told → Option Told → Type 0
Throughout site content old new = IfToldOn old new (λ before now. (entries : List Entry) × Adds (Some before) (Some now) entries × Always (λ image. OpensTo site image content) (disk_of before) entries)

-- a crash at any moment leaves what opens to one of the two
abbrev pub Between : Site → Content → Content → Option Told → Option Told → Type 0
Between site before after old new = Leads (λ image. OpensTo site image before ⊎ OpensTo site image after) old new

-- The sync was done first. Each image that a crash may leave from it on opens to what the device opened to before, or is refused as it was.
pub record OpensSame (site : Site) (old new : Told) : Type 0 where
  pub entries : List Entry
  pub adds : Adds (Some old) (Some new) (Synced ∷ entries)
  pub quiet : AreQuiet entries
  pub always : Always (λ image. OpenAlike site image (disk_of old).contents) (record { contents = (disk_of old).contents; loose = [] }) entries

-- where it tells
abbrev pub ReopensSynced : Site → Option Told → Option Told → Type 0
ReopensSynced site old new = IfToldOn old new (OpensSame site)

-- the first sync failed, and nothing else was done; or it was done, and so on
abbrev pub Reopens : Site → Option Told → Option Told → Type 0
Reopens site old new = IfToldOn old new (λ before now. Adds (Some before) (Some now) [] ⊎ OpensSame site before now)

-- what the octets that stood open to, or why they are refused; a failing device and want of memory may come in between
abbrev pub IsAnswer : Site → List ℕ → Result Content OpenFault → Type 0
IsAnswer site image (Ok content) = OpensTo site image content
IsAnswer site image (Err fault) = (fault ≡ DiskFault) ⊎ ((fault ≡ NoMemory) ⊎ IsRefused site image fault)

-- where it tells
abbrev pub Answers : Site → Option Told → Option Told → Result Content OpenFault → Type 0
Answers site old new answer = IfToldOn old new (λ before _. IsAnswer site (disk_of before).contents answer)

-- whether the device was blank, where it tells
abbrev pub WasBlank : Option Told → Option Told → Bool → Type 0
WasBlank old new fresh = IfToldOn old new (λ before _. IsTrue fresh ↔ (slice_index (disk_of before).contents 0 ≢ 1))

-- a device is refused as small only where it is: this is its size, and it must have more
abbrev pub IsSmall : ℕ → OpenFault → Type 0
IsSmall size (SmallDevice has need) = (has ≡ size) × (size < need)
IsSmall size fault = ⊤

-- why a device of this size, which must have more, isn't opened: it failed, or it is small
abbrev pub IsBelow : ℕ → ℕ → OpenFault → Type 0
IsBelow size need fault = (fault ≡ DiskFault) ⊎ (fault ≡ SmallDevice size need)

-- The writes of an opening: none but the first sync, or behind it the two of a blank device's formatting.
abbrev pub IsOpening : List ℕ → ℕ → List Entry → Type 0
IsOpening text size entries = (entries ≡ []) ⊎ ((entries ≡ Synced ∷ []) ⊎ ((more : List Entry) × ((more ≡ two_writes 1 (heading text size) 0 (1 ∷ [])) ⊎ IsTwoCutShort 1 (heading text size) 0 (1 ∷ []) more) × (entries ≡ Synced ∷ more)))

-- A journal isn't opened for what its device is: a device whose call failed, or want of memory, tells nothing of that.
abbrev pub IsRefusal : OpenFault → Type 0
IsRefusal DiskFault = ⊥
IsRefusal (SmallDevice size need) = Unit {0}
IsRefusal (Foreign at) = Unit {0}
IsRefusal (Damaged at) = Unit {0}
IsRefusal NoMemory = ⊥

-- A device may be formatted: it is as large as it must be, and its gate isn't open, where it tells.
abbrev pub MayFormat : ℕ → ℕ → Option Told → Option Told → Type 0
MayFormat size need (Some old) (Some new) = (need ≤ size) × (slice_index (disk_of old).contents 0 ≢ 1)
MayFormat size need None new = need ≤ size
MayFormat size need old None = need ≤ size

-- no write came, and at most the first sync
abbrev pub IsAtMostSynced : List Entry → Type 0
IsAtMostSynced entries = (entries ≡ []) ⊎ (entries ≡ Synced ∷ [])

-- The octets that an opening has just synced: a blank device, or one with an open gate; nothing is loose.
pub record IsBlank (told : Told) : Type 0 where
  pub gate : slice_index (disk_of told).contents 0 ≢ 1
  pub stable : (disk_of told).loose ≡ []

pub record IsBegun (told : Told) : Type 0 where
  pub gate : slice_index (disk_of told).contents 0 ≡ 1
  pub stable : (disk_of told).loose ≡ []

-- where it tells
abbrev pub Blank : Option Told → Type 0
Blank None = ⊤
Blank (Some told) = IsBlank told

abbrev pub Begun : Option Told → Type 0
Begun None = ⊤
Begun (Some told) = IsBegun told
