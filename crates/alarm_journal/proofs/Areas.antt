-- Reading an area, batch by batch.
use Rattle.std.proofs.Common.{◌≡◌, ◌⊎◌, inl, inr, ℕ, ◌+◌, ◌-◌, ◌<◌, ◌≤◌, List, [], ◌∷◌, ◌++◌, length, take, drop, get_or, refl, sym, ◌∙◌, ap, subst, arith, length-drop, length-append, Option, Some, None}
use Rattle.std.proofs.lemmas.List.{drop-drop, get_or-drop, length-take-le, take-take}
use Rattle.byteorder.specs.Endian.{big_number}
use Rattle.ground_io.specs.Disk.{Disk, octets_at}
use Rattle.ground_io.specs.Trace.{Told, Adds, Reads, HasSize, disk_of}
use Rattle.ground_io.proofs.Crashes.{disk_adds}
use Rattle.alarm_journal.specs.Journal.{Content, BeginsWith, with_batch, only_snapshot}
use Rattle.alarm_journal.specs.Journal.{LeavesAt}
use Rattle.alarm_journal.specs.Opened.{LieBetween, Shows, StandsAt, content_in, found_at, pieces, sum_of}
use Rattle.alarm_journal.specs.Areas.{IsRead, IsHead, IsEnd, IsBadHead, IsSoFar, IsWithin, IsDamage, IsLaid}
use Rattle.alarm_journal.specs.declared.body.Body.{Body}
use Rattle.alarm_journal.specs.declared.opened.Opened.{Opened}
use Rattle.alarm_journal.specs.declared.open_fault.OpenFault.{OpenFault}
use Rattle.alarm_journal.proofs.Parsing.{reads_snapshot, reads_batch, bad_batch}
use Rattle.alarm_journal.proofs.Rules.{computed_leaves}
use Rattle.alarm_journal.proofs.Places.{sum_more, lie_more, found_more, pieces_more}

-- octets within those from a place on
part : (start place count : ℕ) (image : List ℕ) → octets_at place count (drop start image) ≡ octets_at (start + place) count image
part start place count image = ap (take count) (drop-drop place start image)

-- an open gate in an area, and its length
gate_in : (start next : ℕ) (image : List ℕ) → get_or image (start + next) 0 ≡ 1 → get_or (drop start image) next 0 ≡ 1
gate_in start next image gate = get_or-drop start image next 0 ∙ gate

word_in : (start next : ℕ) (image : List ℕ) → big_number 4 (octets_at (start + next + 1) 4 image) ≡ big_number 4 (octets_at (next + 1) 4 (drop start image))
word_in start next image = ap (λ (k : ℕ). big_number 4 (octets_at k 4 image)) sum ∙ ap (λ (l : List ℕ). big_number 4 l) (sym (part start (next + 1) 4 image))
  where
    sum : start + next + 1 ≡ start + (next + 1)
    sum = omega arith

-- one batch more was read
one_more : (start half next size : ℕ) (snapshot batches body : List ℕ) (bodies : List Body) (image : List ℕ) → IsSoFar start snapshot batches bodies next image → IsWithin start half snapshot batches bodies next → IsHead (start + next) size image
    → body ≡ octets_at (start + next + 5) (length body) image → length body ≡ size → start + next + 5 + size ≤ length image
    → IsSoFar start snapshot (batches ++ body) (bodies ++ record { place = start + next + 5; length = size } ∷ []) (next + (5 + size)) image
one_more start half next size snapshot batches body bodies image so inside head stands long fits =
    let here : Body = record { place = start + next + 5; length = size } in
    let content : Content = record { snapshot = snapshot; bodies = pieces bodies batches } in
    let room : next + 5 + size ≤ length (drop start image) = omega (arith, fits, length-drop start image) in
    let at : octets_at (start + next + 5) size image ≡ body = ap (λ (k : ℕ). octets_at (start + next + 5) k image) (sym long) ∙ sym stands in
    let is : octets_at (next + 5) size (drop start image) ≡ body = part start (next + 5) size image ∙ ap (λ (k : ℕ). octets_at k size image) sum ∙ at in
    let all : pieces (bodies ++ here ∷ []) (batches ++ body) ≡ pieces bodies batches ++ body ∷ [] = pieces_more bodies batches here body inside.whole long in
    let read = reads_batch (drop start image) content next size so.reads room (gate_in start next image head.gate) (head.size ∙ word_in start next image) in
    record {
      reads = subst (λ (l : List (List ℕ)). BeginsWith (octets_at start (next + (5 + size)) image) (record { snapshot = snapshot; bodies = l }) []) (sym all)
          (subst (λ (k : ℕ). BeginsWith (octets_at start k image) (with_batch content body) []) sum2 (subst (λ (l : List ℕ). BeginsWith (octets_at start (next + 5 + size) image) (with_batch content l) []) is read));
      stands = so.stands;
      found = found_more image bodies here ∙ (λ i. so.found i ++ at i ∷ []) ∙ sym all;
    }
  where
    sum : start + (next + 5) ≡ start + next + 5
    sum = omega arith

    sum2 : next + 5 + size ≡ next + (5 + size)
    sum2 = omega arith

pub more_within : (start half next size : ℕ) (snapshot batches body : List ℕ) (bodies : List Body) → IsWithin start half snapshot batches bodies next → length body ≡ size → 5 + size ≤ half - next
    → IsWithin start half snapshot (batches ++ body) (bodies ++ record { place = start + next + 5; length = size } ∷ []) (next + (5 + size))
more_within start half next size snapshot batches body bodies inside long fits =
    let here : Body = record { place = start + next + 5; length = size } in
    record {
      behind = omega (arith, inside.behind);
      within = omega (arith, inside.within, fits);
      lie = lie_more (start + 4 + length snapshot) bodies (start + next) here (start + (next + (5 + size))) inside.lie refl (omega arith);
      whole = sum_more bodies here ∙ ap (λ (k : ℕ). k + size) inside.whole ∙ (omega (arith, long, length-append batches body));
    }

-- the disk stays while it is read
same_after : (a b : Told) → Adds (Some a) (Some b) [] → (disk_of a).contents ≡ (disk_of b).contents
same_after a b adds = ap (λ (k : Disk). k.contents) (sym (disk_adds a b [] adds))

pub more_so_far : (start half next size whole : ℕ) (snapshot batches body : List ℕ) (bodies : List Body) (a b d : Option Told) → Shows a (IsSoFar start snapshot batches bodies next) → Adds a b [] → Shows b (IsHead (start + next) size) → Adds b d [] → Reads d (start + next + 5) body
    → HasSize whole d → IsWithin start half snapshot batches bodies next → length body ≡ size → start + next + 5 + size ≤ whole
    → Shows d (IsSoFar start snapshot (batches ++ body) (bodies ++ record { place = start + next + 5; length = size } ∷ []) (next + (5 + size)))
more_so_far start half next size whole snapshot batches body bodies a b None so ab head bd reads sized inside long fits = tt
more_so_far start half next size whole snapshot batches body bodies a None (Some d) so ab head bd reads sized inside long fits = absurd bd
more_so_far start half next size whole snapshot batches body bodies None (Some b) (Some d) so ab head bd reads sized inside long fits = absurd ab
more_so_far start half next size whole snapshot batches body bodies (Some a) (Some b) (Some d) so ab head bd reads sized inside long fits =
    let same = same_after b d bd in
    one_more start half next size snapshot batches body bodies (disk_of d).contents (subst (IsSoFar start snapshot batches bodies next) (same_after a b ab ∙ same) so) inside (subst (IsHead (start + next) size) same head)
    reads long (subst (λ (k : ℕ). start + next + 5 + size ≤ k) (sym sized) fits)

-- the next batch's length leaves the area
head_damage : (start half next whole : ℕ) (snapshot batches : List ℕ) (bodies : List Body) (image : List ℕ) → IsSoFar start snapshot batches bodies next image → IsBadHead (start + next) (half - next) image → length image ≡ whole → start + half ≤ whole
    → LeavesAt start (octets_at start half image) (start + next + 1)
head_damage start half next whole snapshot batches bodies image so bad sized room =
    computed_leaves start (octets_at start half image) (start + next + 1)
    (bad_batch (drop start image) (record { snapshot = snapshot; bodies = pieces bodies batches }) start half next so.reads (omega (arith, sized, room, length-drop start image)) (gate_in start next image bad.gate) (over bad.over) (omega (arith, bad.some)))
  where
    over : (half - next < 5) ⊎ (half - next < 5 + big_number 4 (octets_at (start + next + 1) 4 image)) → (half < next + 5) ⊎ (half < next + 5 + big_number 4 (octets_at (next + 1) 4 (drop start image)))
    over (inl short) = inl (omega (arith, short))
    over (inr long) = inr (subst (λ (k : ℕ). half < next + 5 + k) (word_in start next image) (omega (arith, long)))

bad_so_far : (start half next whole at : ℕ) (snapshot batches : List ℕ) (bodies : List Body) (a b : Option Told) → Shows a (IsSoFar start snapshot batches bodies next) → Adds a b [] → HasSize whole b → start + half ≤ whole
    → Shows b (λ image. (at ≡ start + next + 1) × IsBadHead (start + next) (half - next) image) → Shows b (λ image. LeavesAt start (octets_at start half image) at)
bad_so_far start half next whole at snapshot batches bodies a None so ab sized room bad = tt
bad_so_far start half next whole at snapshot batches bodies None (Some b) so ab sized room bad = absurd ab
bad_so_far start half next whole at snapshot batches bodies (Some a) (Some b) so ab sized room bad =
    subst (λ (k : ℕ). LeavesAt start (octets_at start half (disk_of b).contents) k) (sym bad.0)
    (head_damage start half next whole snapshot batches bodies (disk_of b).contents (subst (IsSoFar start snapshot batches bodies next) (same_after a b ab) so) bad.1 sized room)

pub damage_so_far : (start half next whole : ℕ) (snapshot batches : List ℕ) (bodies : List Body) (fault : OpenFault) (a b : Option Told) → Shows a (IsSoFar start snapshot batches bodies next) → Adds a b [] → HasSize whole b → start + half ≤ whole
    → IsDamage b (λ at image. (at ≡ start + next + 1) × IsBadHead (start + next) (half - next) image) fault → IsDamage b (λ at image. LeavesAt start (octets_at start half image) at) fault
damage_so_far start half next whole snapshot batches bodies fault a b so ab sized room (inl disk) = inl disk
damage_so_far start half next whole snapshot batches bodies fault a b so ab sized room (inr (inl memory)) = inr (inl memory)
damage_so_far start half next whole snapshot batches bodies fault a b so ab sized room (inr (inr (at, is, bad))) = inr (inr (at, is, bad_so_far start half next whole at snapshot batches bodies a b so ab sized room bad))

-- the snapshot alone was read
pub begun_so_far : (start half count whole : ℕ) (snapshot : List ℕ) (b d : Option Told) → Shows b (λ image. count ≡ big_number 4 (octets_at start 4 image)) → Adds b d [] → Reads d (start + 4) snapshot → length snapshot ≡ count → HasSize whole d → start + 4 + count ≤ whole
    → Shows d (IsSoFar start snapshot [] [] (4 + count))
begun_so_far start half count whole snapshot b None word bd reads long sized fits = tt
begun_so_far start half count whole snapshot None (Some d) word bd reads long sized fits = absurd bd
begun_so_far start half count whole snapshot (Some b) (Some d) word bd reads long sized fits =
    let image = (disk_of d).contents in
    let same = same_after b d bd in
    let room : 4 + count ≤ length (drop start image) = omega (arith, fits, sized, length-drop start image) in
    let stands : octets_at (start + 4) (length snapshot) image ≡ snapshot = sym reads in
    let is : octets_at 4 count (drop start image) ≡ snapshot = part start 4 count image ∙ ap (λ (k : ℕ). octets_at (start + 4) k image) (sym long) ∙ stands in
    record {
      reads = subst (λ (l : List ℕ). BeginsWith (octets_at start (4 + count) image) (only_snapshot l) []) is
          (reads_snapshot (drop start image) count room (subst (λ (l : List ℕ). count ≡ big_number 4 (octets_at start 4 l)) same word));
      stands = stands;
      found = refl;
    }

-- its length leaves the area
pub snapshot_damage : (start half count whole : ℕ) (b : Option Told) → Shows b (λ image. count ≡ big_number 4 (octets_at start 4 image)) → HasSize whole b → start + half ≤ whole → 5 ≤ half → half < 4 + count → Shows b (λ image. LeavesAt start (octets_at start half image) start)
snapshot_damage start half count whole None word sized room some over = tt
snapshot_damage start half count whole (Some b) word sized room some over =
    let image = (disk_of b).contents in
    let area : List ℕ = octets_at start half image in
    let long : length area ≡ half = length-take-le half (drop start image) (omega (arith, sized, room, length-drop start image)) in
    let four : take 4 area ≡ octets_at start 4 image = take-take 4 half (drop start image) (omega (arith, some)) in
    let number : count ≡ big_number 4 (take 4 area) = word ∙ ap (λ (l : List ℕ). big_number 4 l) (sym four) in
    inl (refl, omega (arith, long, over, number))

-- what an area was opened as
pub area_read : (start half : ℕ) (next : ℕ) (snapshot batches : List ℕ) (bodies : List Body) (d : Option Told) → Shows d (IsSoFar start snapshot batches bodies next) → Shows d (IsEnd (start + next) (half - next)) → Shows d (IsRead start half next (record { snapshot = snapshot; bodies = pieces bodies batches }))
area_read start half next snapshot batches bodies None so end = tt
area_read start half next snapshot batches bodies (Some d) so end = record { closed = λ lt is. end (omega (arith, lt)) is; reads = so.reads }

-- and where it lies
pub area_laid : (start half next : ℕ) (snapshot batches : List ℕ) (bodies : List Body) (opened : Opened) → IsWithin start half snapshot batches bodies next → opened.snapshot ≡ snapshot → opened.snapshot_place ≡ start + 4 → opened.batches ≡ batches → opened.bodies ≡ bodies → IsLaid start (start + next) opened
area_laid start half next snapshot batches bodies opened inside is_snapshot place is_batches is_bodies = record {
  snapshot = place;
  bodies = subst (λ (l : List ℕ). LieBetween (start + 4 + length l) opened.bodies (start + next)) (sym is_snapshot) (subst (λ (l : List Body). LieBetween (start + 4 + length snapshot) l (start + next)) (sym is_bodies) inside.lie);
  whole = ap sum_of is_bodies ∙ inside.whole ∙ ap length (sym is_batches);
}

pub area_stands : (start next : ℕ) (snapshot batches : List ℕ) (bodies : List Body) (opened : Opened) (d : Option Told) → Shows d (IsSoFar start snapshot batches bodies next) → opened.snapshot ≡ snapshot → opened.snapshot_place ≡ start + 4 → opened.batches ≡ batches → opened.bodies ≡ bodies → Shows d (StandsAt opened)
area_stands start next snapshot batches bodies opened None so is_snapshot place is_batches is_bodies = tt
area_stands start next snapshot batches bodies opened (Some d) so is_snapshot place is_batches is_bodies = record {
  snapshot = (λ i. octets_at (place i) (length (is_snapshot i)) (disk_of d).contents) ∙ so.stands ∙ sym is_snapshot;
  bodies = ap (found_at (disk_of d).contents) is_bodies ∙ so.found ∙ (λ i. pieces (sym is_bodies i) (sym is_batches i));
}

pub opened_content : (snapshot batches : List ℕ) (bodies : List Body) (opened : Opened) → opened.snapshot ≡ snapshot → opened.batches ≡ batches → opened.bodies ≡ bodies → (let k : Content = record { snapshot = snapshot; bodies = pieces bodies batches } in k) ≡ content_in opened
opened_content snapshot batches bodies opened is_snapshot is_batches is_bodies = λ i. record { snapshot = sym is_snapshot i; bodies = pieces (sym is_bodies i) (sym is_batches i) }
