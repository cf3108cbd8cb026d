-- How it is computed what a journal opens to. Laws says that this is what Journal says.
use Rattle.std.specs.Prelude.{◌==◌, ℕ, ◌+◌, zero, suc, List, [], ◌∷◌, length, take, drop, slice_index, nat_lt, Option, Some, None, Result, Ok, Err, if◌then◌else◌}
use Rattle.byteorder.specs.Endian.{big_number, big_bytes}
use Rattle.ground_io.specs.Disk.{octets_at}
use Rattle.alarm_journal.specs.Journal.{Site, Content, nothing, with_bodies, only_snapshot, mark, formatted_size, selected_area, selected_place}
use Rattle.alarm_journal.specs.declared.open_fault.OpenFault.{OpenFault}
use Rattle.alarm_journal.specs.declared.open_fault.OpenFault.TheVariants.{SmallDevice, Foreign, Damaged}

-- a body in front of those that are read behind it, where they are read
abbrev pub in_front : List ℕ → Result (List (List ℕ)) ℕ → Result (List (List ℕ)) ℕ
in_front body (Ok bodies) = Ok (body ∷ bodies)
in_front body (Err place) = Err place

-- The bodies of the open batches from a place on, where so many octets of a body come first that was read already; or
-- the place of the first length that leaves the area.
abbrev pub batches_from : ℕ → ℕ → List ℕ → Result (List (List ℕ)) ℕ
batches_from place zero [] = Ok []
batches_from place zero (gate ∷ a ∷ b ∷ c ∷ d ∷ rest) =
    if gate == 1 then (if nat_lt (length rest) (big_number 4 (a ∷ b ∷ c ∷ d ∷ [])) then Err (place + 1) else in_front (take (big_number 4 (a ∷ b ∷ c ∷ d ∷ [])) rest) (batches_from (place + 5) (big_number 4 (a ∷ b ∷ c ∷ d ∷ [])) rest)) else Ok []
batches_from place zero (gate ∷ rest) = if gate == 1 then Err (place + 1) else Ok []
batches_from place (suc left) [] = Ok []
batches_from place (suc left) (octet ∷ rest) = batches_from (place + 1) left rest

-- a content with the batches that were read behind it, where they were read
abbrev pub with_more : Content → Result (List (List ℕ)) ℕ → Result Content ℕ
with_more content (Ok more) = Ok (with_bodies content more)
with_more content (Err place) = Err place

-- what an area holds that begins at a place; or the place of the first length that leaves it
abbrev pub content_of : ℕ → List ℕ → Result Content ℕ
content_of place area =
    let count = big_number 4 (take 4 area) in
    if nat_lt (length area) (4 + count) then Err place else with_more (only_snapshot (octets_at 4 count area)) (batches_from (place + (4 + count)) zero (drop (4 + count) area))

-- the first place at which the octets from a place on aren't the ones wanted
abbrev pub first_other : ℕ → List ℕ → List ℕ → Option ℕ
first_other place [] found = None
first_other place (octet ∷ wanted) [] = Some place
first_other place (octet ∷ wanted) (x ∷ found) = if x == octet then first_other (place + 1) wanted found else Some place

-- this one, or else the other
abbrev pub or_else : Option ℕ → Option ℕ → Option ℕ
or_else (Some place) other = Some place
or_else None other = other

-- the first place of the mark, the text's length or the text whose octet isn't this site's
abbrev pub foreign_place : List ℕ → List ℕ → Option ℕ
foreign_place text image = or_else (first_other 1 mark (octets_at 1 8 image)) (or_else (first_other 17 (big_bytes 4 (length text)) (octets_at 17 4 image)) (first_other 21 text (octets_at 21 (length text) image)))

-- the size at formatting in the header of an open device of this size, where nothing is wrong with the header
abbrev pub own_header : Site → List ℕ → Option ℕ → Result ℕ OpenFault
own_header site header (Some place) = Err (Foreign place)
own_header site header None = if nat_lt (formatted_size header) site.need then Err (Damaged 9) else Ok (formatted_size header)

abbrev pub checked_header : Site → ℕ → List ℕ → Result ℕ OpenFault
checked_header site size header =
    if nat_lt size (formatted_size header) then Err (SmallDevice size (formatted_size header)) else own_header site header (foreign_place site.text header)

-- a length that leaves its area damages the journal
abbrev pub or_damaged : Result Content ℕ → Result Content OpenFault
or_damaged (Ok content) = Ok content
or_damaged (Err place) = Err (Damaged place)

-- what the selected area of an open device holds, where its header was checked
abbrev pub selected_content : Site → List ℕ → Result ℕ OpenFault → Result Content OpenFault
selected_content site image (Ok formatted) = or_damaged (content_of (selected_place site.text image) (selected_area site.text image))
selected_content site image (Err fault) = Err fault

-- what a device with these octets opens to for a site, or why it isn't opened
abbrev pub opened_from : Site → List ℕ → Result Content OpenFault
opened_from site image =
    if nat_lt (length image) site.need then Err (SmallDevice (length image) site.need) else (if slice_index image 0 == 1 then selected_content site image (checked_header site (length image) image) else Ok nothing)
