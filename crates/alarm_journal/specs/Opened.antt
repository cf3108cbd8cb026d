-- What an opening hands up, and where it lies on the device.
use Rattle.std.specs.Prelude.{◌≡◌, ◌<◌, ℕ, ◌+◌, ◌^◌, List, [], ◌∷◌, length, map, take, drop, Option, Some, None, ⊤}
use Rattle.ground_io.specs.Disk.{octets_at}
use Rattle.ground_io.specs.Trace.{Told, disk_of}
use Rattle.alarm_journal.specs.Journal.{Content}
use Rattle.alarm_journal.specs.declared.body.Body.{Body}
use Rattle.alarm_journal.specs.declared.opened.Opened.{Opened}

-- octets in pieces, each as long as one of these bodies
abbrev pub pieces : List Body → List ℕ → List (List ℕ)
pieces [] octets = []
pieces (body ∷ more) octets = take body.length octets ∷ pieces more (drop body.length octets)

-- what was opened
abbrev pub content_in : Opened → Content
content_in opened = record { snapshot = opened.snapshot; bodies = pieces opened.bodies opened.batches }

-- how many octets these bodies have together
abbrev pub sum_of : List Body → ℕ
sum_of [] = 0
sum_of (body ∷ more) = body.length + sum_of more

-- Each of these bodies lies behind a gate and a length, from the first gate up to the next one, with nothing in between.
abbrev pub LieBetween : ℕ → List Body → ℕ → Type 0
LieBetween gate [] next = gate ≡ next
LieBetween gate (body ∷ more) next = (body.place ≡ gate + 5) × LieBetween (gate + 5 + body.length) more next

-- a body ends at a place of a device, which is a number of 64 bits
abbrev pub EndsOnDevice : Body → Type 0
EndsOnDevice body = body.place + body.length < 2 ^ 64

-- the octets of a device at the places of these bodies
abbrev pub found_at : List ℕ → List Body → List (List ℕ)
found_at image bodies = map (λ body. octets_at body.place body.length image) bodies

-- what was opened stands on a device with these octets, at its places
pub record StandsAt (opened : Opened) (image : List ℕ) : Type 0 where
  pub snapshot : octets_at opened.snapshot_place (length opened.snapshot) image ≡ opened.snapshot
  pub bodies : found_at image opened.bodies ≡ (content_in opened).bodies

-- the octets of the device have P, where the ground tells them
abbrev pub Shows : Option Told → (List ℕ → Type 0) → Type 0
Shows None P = ⊤
Shows (Some told) P = P (disk_of told).contents
