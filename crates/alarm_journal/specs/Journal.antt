-- The octets of a journal on its device, and what they open to. Numbers have their highest octet first, and n is the length of the site's text.
--
--   place 0          the gate of the device: 1 is open; with any other octet the device is blank
--   1 to 8           the mark, BACALRM1
--   9 to 16          the size of the device when it was formatted
--   17 to 20         n
--   21 to 20 + n     the site's text
--   21 + n           the selector: the first area where it is even, the second where it is odd
--   22 + n on        the first area and then the second, each half of what is left of the size
--
-- An area is the length of its snapshot in four octets, where 0 is no snapshot, the snapshot, and its batches. A batch
-- is a gate, the length of its body in four octets, and the body. Only a gate of 1 opens a batch; any other ends them.
use Rattle.std.specs.Prelude.{◌≡◌, ◌≢◌, ◌⊎◌, ◌↔◌, ◌<◌, ◌≤◌, ◌==◌, ℕ, ◌+◌, ◌-◌, ◌/◌, ◌%◌, List, [], ◌∷◌, ◌++◌, length, take, slice_get, slice_index, flat_map, if◌then◌else◌}
use Rattle.byteorder.specs.Endian.{big_number, big_bytes}
use Rattle.ground_io.specs.Disk.{octets_at}
use Rattle.alarm_journal.specs.declared.open_fault.OpenFault.{OpenFault}
use Rattle.alarm_journal.specs.declared.open_fault.OpenFault.TheVariants.{DiskFault, SmallDevice, Foreign, Damaged, NoMemory}

-- whose journal it is: the site's text, and how many octets the device must have
pub record Site : Type 0 where
  pub text : List ℕ
  pub need : ℕ

-- what a journal holds: the snapshot's octets, and the body of each open batch, in order
pub record Content : Type 0 where
  pub snapshot : List ℕ
  pub bodies : List (List ℕ)

-- the bodies one after the other
abbrev pub batches_of : Content → List ℕ
batches_of content = flat_map (λ body. body) content.bodies

-- no snapshot and no batch
abbrev pub nothing : Content
nothing = record { snapshot = []; bodies = [] }

-- more batches behind those that it holds
abbrev pub with_bodies : Content → List (List ℕ) → Content
with_bodies content more = record { snapshot = content.snapshot; bodies = content.bodies ++ more }

-- one batch more
abbrev pub with_batch : Content → List ℕ → Content
with_batch content body = with_bodies content (body ∷ [])

-- a snapshot in the place of all
abbrev pub only_snapshot : List ℕ → Content
only_snapshot state = record { snapshot = state; bodies = [] }

-- BACALRM1
abbrev pub mark : List ℕ
mark = 66 ∷ 65 ∷ 67 ∷ 65 ∷ 76 ∷ 82 ∷ 77 ∷ 49 ∷ []

-- the size at formatting that a header tells
abbrev pub formatted_size : List ℕ → ℕ
formatted_size image = big_number 8 (octets_at 9 8 image)

-- how many octets an area has
abbrev pub half_of : List ℕ → List ℕ → ℕ
half_of text image = (formatted_size image - 22 - length text) / 2

-- where the selected area begins
abbrev pub selected_place : List ℕ → List ℕ → ℕ
selected_place text image = if slice_index image (21 + length text) % 2 == 0 then 22 + length text else 22 + length text + half_of text image

-- its octets
abbrev pub selected_area : List ℕ → List ℕ → List ℕ
selected_area text image = octets_at (selected_place text image) (half_of text image) image

-- four octets that tell a number
abbrev pub Tell : List ℕ → ℕ → Type 0
Tell four number = (length four ≡ 4) × (big_number 4 four ≡ number)

-- Open batches stand first, with these bodies, and behind them the rest: each is a gate of 1, the length of its body in four octets, and the body.
abbrev pub AreBatches : List ℕ → List (List ℕ) → List ℕ → Type 0
AreBatches octets [] rest = octets ≡ rest
AreBatches octets (body ∷ more) rest = (four : List ℕ) × (behind : List ℕ) × (octets ≡ 1 ∷ (four ++ (body ++ behind))) × Tell four (length body) × AreBatches behind more rest

-- An area begins with this, and behind it stands the rest: the length of the snapshot in four octets, the snapshot, and the batches.
pub record BeginsWith (area : List ℕ) (content : Content) (rest : List ℕ) : Type 0 where
  pub four : List ℕ
  pub behind : List ℕ
  pub whole : area ≡ four ++ (content.snapshot ++ behind)
  pub size : Tell four (length content.snapshot)
  pub batches : AreBatches behind content.bodies rest

-- no open gate stands first: there are no octets, or the first one isn't 1
abbrev pub IsShut : List ℕ → Type 0
IsShut octets = slice_index octets 0 ≢ 1

-- an open gate stands first, without room for its length, or for the body that its length tells
abbrev pub IsCut : List ℕ → Type 0
IsCut octets = (slice_index octets 0 ≡ 1) × (length octets < 5 + big_number 4 (octets_at 1 4 octets))

-- an area holds this: its snapshot, and its batches up to the first gate that isn't open
abbrev pub Holds : List ℕ → Content → Type 0
Holds area content = (rest : List ℕ) × BeginsWith area content rest × IsShut rest

-- The place of the first length that leaves its area, which begins at a place: that of the snapshot, or behind some open batches that of the next one, which stands behind its gate.
abbrev pub LeavesAt : ℕ → List ℕ → ℕ → Type 0
LeavesAt place area at =
    ((at ≡ place) × (length area < 4 + big_number 4 (take 4 area)))
    ⊎ ((content : Content) × (rest : List ℕ) × BeginsWith area content rest × IsCut rest × (at ≡ place + (length area - length rest) + 1))

-- a device that is as large as it must be, with an open gate, and as large as it was at its formatting
pub record IsWhole (site : Site) (image : List ℕ) : Type 0 where
  pub enough : site.need ≤ length image
  pub gate : slice_index image 0 ≡ 1
  pub whole : formatted_size image ≤ length image

-- the header is that of a site with this text, but for the size, which may be any
pub record IsOwn (site_text : List ℕ) (image : List ℕ) : Type 0 where
  pub mark : octets_at 1 8 image ≡ mark
  pub count : octets_at 17 4 image ≡ big_bytes 4 (length site_text)
  pub text : octets_at 21 (length site_text) image ≡ site_text

-- From a place on these octets are wanted. So many of them stand there, and at the place behind these another octet does, or none.
pub record DiffersAt (place : ℕ) (wanted image : List ℕ) (at : ℕ) : Type 0 where
  pub count : ℕ
  pub is : at ≡ place + count
  pub within : count < length wanted
  pub before : octets_at place count image ≡ take count wanted
  pub other : slice_get image at ≢ slice_get wanted count

-- the first place of the mark, the text's length or the text whose octet isn't this site's
abbrev pub IsForeignAt : List ℕ → List ℕ → ℕ → Type 0
IsForeignAt text image at =
    DiffersAt 1 mark image at
    ⊎ (((octets_at 1 8 image ≡ mark) × DiffersAt 17 (big_bytes 4 (length text)) image at)
    ⊎ ((octets_at 1 8 image ≡ mark) × (octets_at 17 4 image ≡ big_bytes 4 (length text)) × DiffersAt 21 text image at))

-- the header is this site's, with an open gate, and the device is as large as it was at formatting and large enough
pub record IsOurs (site : Site) (image : List ℕ) : Type 0 where
  pub gate : slice_index image 0 ≡ 1
  pub own : IsOwn site.text image
  pub enough : site.need ≤ formatted_size image
  pub whole : formatted_size image ≤ length image

-- A device with these octets opens for a site, and to this: it is as large as it must be; and its gate isn't open, and nothing is held, or its header is the site's and its selected area holds it.
pub record OpensTo (site : Site) (image : List ℕ) (content : Content) : Type 0 where
  pub enough : site.need ≤ length image
  pub holds : ((slice_index image 0 ≢ 1) × (content ≡ nothing)) ⊎ (IsOurs site image × Holds (selected_area site.text image) content)

-- Why it isn't opened; each is looked for behind the ones before it. A failing device and want of memory are no matter of its octets.
abbrev pub IsRefused : Site → List ℕ → OpenFault → Type 0
IsRefused site image DiskFault = ⊥
IsRefused site image (SmallDevice size need) =
    (size ≡ length image) × (size < need) × ((need ≡ site.need) ⊎ ((site.need ≤ size) × (slice_index image 0 ≡ 1) × (need ≡ formatted_size image)))
IsRefused site image (Foreign at) = IsWhole site image × IsForeignAt site.text image at
IsRefused site image (Damaged at) =
    IsWhole site image × IsOwn site.text image
    × (((formatted_size image < site.need) × (at ≡ 9)) ⊎ ((site.need ≤ formatted_size image) × LeavesAt (selected_place site.text image) (selected_area site.text image) at))
IsRefused site image NoMemory = ⊥

-- two images open to the same, or are refused for the same
pub record OpenAlike (site : Site) (image other : List ℕ) : Type 0 where
  pub opens : (content : Content) → OpensTo site image content ↔ OpensTo site other content
  pub refused : (fault : OpenFault) → IsRefused site image fault ↔ IsRefused site other fault

-- what is written of a batch's or a snapshot's body: its length, the body, and a closed gate behind it
abbrev pub framed : List ℕ → List ℕ
framed body = big_bytes 4 (length body) ++ (body ++ 0 ∷ [])

-- what is written from place 1 of a blank device on: the header, a selector for the first area, no snapshot and a closed gate
abbrev pub heading : List ℕ → ℕ → List ℕ
heading text size = mark ++ big_bytes 8 size ++ big_bytes 4 (length text) ++ text ++ (0 ∷ 0 ∷ 0 ∷ 0 ∷ 0 ∷ 0 ∷ [])
