-- What a crash may leave at each moment of a snapshot's commit.
use Rattle.std.proofs.Common.{◌≡◌, ◌⊎◌, ⊎_elim, add_assoc, inl, inr, ℕ, zero, ◌+◌, ◌-◌, ◌/◌, ◌%◌, ◌<◌, ◌≤◌, ◌^◌, Bool, true, false, not, if◌then◌else◌, List, [], ◌∷◌, ◌++◌, length, take, drop, get_or, refl, sym, ◌∙◌, ap, subst, arith, append_assoc, length-append, Ok, Option, Some, None}
use Rattle.std.proofs.lemmas.List.{append-nil, take_at, drop-drop, get_or-drop, get_or-take, get_or_at}
use Rattle.std.proofs.Math.Seq.{take-append-add}
use Rattle.std.proofs.lemmas.Bool.{cases_eq, cases_lt}
use Rattle.byteorder.specs.Endian.{big_bytes}
use Rattle.ground_io.specs.Disk.{Disk, Each, octets_at, with_octets}
use Rattle.ground_io.specs.Trace.{Told, HasSize, disk_of}
use Rattle.ground_io.proofs.Crashes.{only_read, one_loose}
use Rattle.ground_io.proofs.Disks.{length-with_octets}
use Rattle.alarm_journal.specs.Journal.{Site, Content, BeginsWith, OpensTo, framed, only_snapshot, half_of}
use Rattle.alarm_journal.specs.JournalSteps.{content_of, batches_from, with_more}
use Rattle.alarm_journal.specs.Journal.{IsOurs}
use Rattle.alarm_journal.specs.Press.{StandsFor, IsSound, Settled, start_of, end_of, other_of, selector_of, behind_snapshot}
use Rattle.alarm_journal.specs.declared.layout.Layout.{Layout}
use Rattle.alarm_journal.proofs.Batches.{batches_closed, length-four, length-framed, reads_back}
use Rattle.alarm_journal.proofs.Fronts.{slice_front, slice_back, take_front, put_front, put_from, put_past}
use Rattle.alarm_journal.proofs.Standings.{area_on, start_low, Heads, heads_front, ours_front, opens_area}
use Rattle.alarm_journal.proofs.Rest.{opens_now}
use Rattle.alarm_journal.proofs.Rules.{begins_snapshot, reads_any}
use Rattle.alarm_journal.proofs.TwoWrites.{TwoWrites, Ready, Ended}

-- a length and a snapshot
state_alone : (state : List ℕ) → length state < 2 ^ 32 → BeginsWith (big_bytes 4 (length state) ++ state) (only_snapshot state) []
state_alone state few = begins_snapshot (big_bytes 4 (length state)) state (length-four (length state), reads_back (length state) few)

-- whatever stands behind
content_state : (place : ℕ) (state tail : List ℕ) → length state < 2 ^ 32 → content_of place ((big_bytes 4 (length state) ++ state) ++ tail) ≡ with_more (only_snapshot state) (batches_from (place + (4 + length state)) zero tail)
content_state place state tail few =
    let lead : List ℕ = big_bytes 4 (length state) ++ state in
    let long : length lead ≡ 4 + length state = length-append (big_bytes 4 (length state)) state in
    reads_any lead (only_snapshot state) (state_alone state few) place tail ∙ ap (λ (k : ℕ). with_more (only_snapshot state) (batches_from (place + k) zero tail)) long

-- what stands in the selected area now
area_now : (site : Site) (layout : Layout) (c : List ℕ) (content : Content) (size : ℕ) → IsSound size layout → StandsFor site layout c content → content_of (start_of layout) (octets_at (start_of layout) layout.half c) ≡ Ok content
area_now site layout c content size sound stands =
    let behind : ℕ = end_of layout - layout.next in
    let none : batches_from layout.next zero (octets_at layout.next behind c) ≡ Ok [] = elim (cases_lt layout.next (end_of layout)) [
      | inl inside ↦
          let some : zero < behind = omega (arith, inside) in
          let gate : get_or (octets_at layout.next behind c) 0 0 ≡ get_or c layout.next 0 =
          get_or-take behind (drop layout.next c) 0 0 some ∙ get_or-drop layout.next c 0 0 ∙ ap (λ (n : ℕ). get_or c n 0) (add_none layout.next) in
          batches_closed layout.next (octets_at layout.next behind c) (λ is. stands.closed inside (sym gate ∙ is))
      | inr full ↦ let empty : end_of layout - layout.next ≡ zero = omega (arith, full) in ap (λ (n : ℕ). batches_from layout.next zero (octets_at layout.next n c)) empty
    ] in
    area_on site layout c content size sound stands c refl ∙ ap (with_more content) none ∙ (λ i. Ok (record { snapshot = content.snapshot; bodies = append-nil content.bodies i }))
  where
    add_none : (n : ℕ) → n + 0 ≡ n
    add_none n = omega arith

-- one of the two areas
pick : (s b : Bool) (areas half : ℕ) (x : List ℕ) (content state : Content) → content_of (if s then areas + half else areas) (octets_at (if s then areas + half else areas) half x) ≡ Ok content → content_of (if s then areas else areas + half) (octets_at (if s then areas else areas + half) half x) ≡ Ok state
    → (content_of (if b then areas + half else areas) (octets_at (if b then areas + half else areas) half x) ≡ Ok content) ⊎ (content_of (if b then areas + half else areas) (octets_at (if b then areas + half else areas) half x) ≡ Ok state)
pick true true areas half x content state now other = inl now
pick true false areas half x content state now other = inr other
pick false true areas half x content state now other = inr other
pick false false areas half x content state now other = inl now

-- the two areas don't meet
kept : (s : Bool) (areas half count : ℕ) (x c : List ℕ) → count ≤ half → take (if s then areas else areas + half) x ≡ take (if s then areas else areas + half) c
    → drop ((if s then areas else areas + half) + count) x ≡ drop ((if s then areas else areas + half) + count) c → octets_at (if s then areas + half else areas) half x ≡ octets_at (if s then areas + half else areas) half c
kept true areas half count x c le front back = slice_back (areas + count) (areas + half) half x c (omega (arith, le)) back
kept false areas half count x c le front back = slice_front (areas + half) areas half x c (omega arith) front

other_low : (layout : Layout) → layout.areas ≤ other_of layout
other_low layout = low layout.second layout.areas layout.half
  where
    low : (b : Bool) (a h : ℕ) → a ≤ (if b then a else a + h)
    low true a h = omega arith
    low false a h = omega arith

pub other_high : (layout : Layout) → other_of layout ≤ layout.areas + layout.half
other_high layout = high layout.second layout.areas layout.half
  where
    high : (b : Bool) (a h : ℕ) → (if b then a else a + h) ≤ a + h
    high true a h = omega arith
    high false a h = omega arith

start_behind : (layout : Layout) (n : ℕ) → start_of (behind_snapshot layout n) ≡ other_of layout
start_behind layout n = at layout.second layout.areas layout.half
  where
    at : (b : Bool) (a h : ℕ) → (if not b then a + h else a) ≡ (if b then a else a + h)
    at true a h = refl
    at false a h = refl

selector_behind : (b : Bool) → (if b then 0 else 1) % 2 ≡ (if not b then 1 else 0)
selector_behind true = refl
selector_behind false = refl

module _ (site : Site) (layout : Layout) (content : Content) (state : List ℕ) (size : ℕ) (sound : IsSound size layout) (few : length state < 2 ^ 32) (room : length state + 5 ≤ layout.half) where
  abbrev P : List ℕ → Type 0
  P image = OpensTo site image content ⊎ OpensTo site image (only_snapshot state)

  abbrev p1 : ℕ
  p1 = other_of layout

  module _ (c : List ℕ) (whole : length c ≡ size) (stands : StandsFor site layout c content) where
    heads : Heads site layout c
    heads = record { ours = stands.ours; half = stands.half; selected = stands.selected; areas = stands.areas }

    long : p1 + length (framed state) ≤ length c
    long = omega (arith, whole, sound.fits, other_high layout, length-framed state, room)

    abbrev c1 : List ℕ
    c1 = with_octets p1 (framed state) c

    abbrev c2 : List ℕ
    c2 = with_octets (layout.areas - 1) (selector_of layout ∷ []) c1

    long1 : length c1 ≡ length c
    long1 = length-with_octets p1 (framed state) c long

    selector_fits : layout.areas ≤ length c1
    selector_fits = omega (arith, long1, long, other_low layout)

    long2 : length c2 ≡ length c
    long2 = length-with_octets (layout.areas - 1) (selector_of layout ∷ []) c1 (omega (arith, selector_fits, sound.header)) ∙ long1

    -- the other area may hold anything
    before_switch : (x : List ℕ) → length x ≡ length c → take p1 x ≡ take p1 c → drop (p1 + length (framed state)) x ≡ drop (p1 + length (framed state)) c → OpensTo site x content
    before_switch x same front back =
        opens_area site layout x content (heads_front site layout x c same (take_front p1 layout.areas x c (other_low layout) front) heads)
        (ap (content_of (start_of layout)) (kept layout.second layout.areas layout.half (length (framed state)) x c (omega (arith, length-framed state, room)) front back) ∙ area_now site layout c content size sound stands)

    at_first : (o : List ℕ) → length o ≡ length (framed state) → Each P (record { contents = with_octets p1 o c; loose = record { place = p1; count = length o } ∷ [] })
    at_first o is x may =
        let same = one_loose (with_octets p1 o c) x p1 (length o) may in
        let fits : p1 + length o ≤ length c = omega (arith, is, long) in
        let back : drop (p1 + length o) x ≡ drop (p1 + length o) c = same.after ∙ put_past p1 o c (omega (arith, fits)) in
        inl (before_switch x (same.size ∙ length-with_octets p1 o c fits) (same.before ∙ put_front p1 o c (omega (arith, fits))) (subst (λ (n : ℕ). drop (p1 + n) x ≡ drop (p1 + n) c) is back))

    at_middle : Each P (record { contents = c1; loose = [] })
    at_middle x may =
        let is = only_read c1 x may in
        inl (before_switch x (ap length is ∙ long1) (ap (take p1) is ∙ put_front p1 (framed state) c (omega (arith, long))) (ap (drop (p1 + length (framed state))) is ∙ put_past p1 (framed state) c (omega (arith, long))))

    behind1 : drop p1 c1 ≡ framed state ++ drop (p1 + length (framed state)) c
    behind1 = put_from p1 (framed state) c (omega (arith, long))

    abbrev lead : List ℕ
    lead = big_bytes 4 (length state) ++ state

    lead_long : length lead ≡ 4 + length state
    lead_long = length-append (big_bytes 4 (length state)) state

    -- the other area from its front on: the snapshot and a closed gate
    staged : (x : List ℕ) → drop layout.areas x ≡ drop layout.areas c1 → drop p1 x ≡ lead ++ 0 ∷ drop (p1 + length (framed state)) c
    staged x same =
        let sum : layout.areas + (p1 - layout.areas) ≡ p1 = omega (arith, other_low layout) in
        ap (λ (n : ℕ). drop n x) (sym sum) ∙ sym (drop-drop (p1 - layout.areas) layout.areas x) ∙ ap (drop (p1 - layout.areas)) same ∙ drop-drop (p1 - layout.areas) layout.areas c1 ∙ ap (λ (n : ℕ). drop n c1) sum
        ∙ behind1 ∙ ap (λ (l : List ℕ). l ++ drop (p1 + length (framed state)) c) (sym (append_assoc (big_bytes 4 (length state)) state (0 ∷ []))) ∙ append_assoc lead (0 ∷ []) (drop (p1 + length (framed state)) c)

    other_now : (x : List ℕ) → drop layout.areas x ≡ drop layout.areas c1 → content_of p1 (octets_at p1 layout.half x) ≡ Ok (only_snapshot state)
    other_now x same =
        let rest = drop (p1 + length (framed state)) c in
        let k : ℕ = layout.half - (length lead + 1) in
        let sum : layout.half ≡ length lead + (1 + k) = omega (arith, lead_long, room) in
        let part : octets_at p1 layout.half x ≡ lead ++ take (1 + k) (0 ∷ rest) = ap (take layout.half) (staged x same) ∙ ap (λ (n : ℕ). take n (lead ++ 0 ∷ rest)) sum ∙ take-append-add lead (0 ∷ rest) (1 + k) in
        let gate : get_or (take (1 + k) (0 ∷ rest)) 0 0 ≡ 0 = get_or-take (1 + k) (0 ∷ rest) 0 0 (omega arith) in
        let none : batches_from (p1 + (4 + length state)) zero (take (1 + k) (0 ∷ rest)) ≡ Ok [] = batches_closed (p1 + (4 + length state)) (take (1 + k) (0 ∷ rest)) (λ is. zero_not_one (sym gate ∙ is)) in
        ap (content_of p1) part ∙ content_state p1 state (take (1 + k) (0 ∷ rest)) few ∙ ap (with_more (only_snapshot state)) none
      where
        zero_not_one : zero ≡ 1 → ⊥
        zero_not_one is = omega arith

    -- the selected area is still what it was
    current_now : (x : List ℕ) → drop layout.areas x ≡ drop layout.areas c1 → content_of (start_of layout) (octets_at (start_of layout) layout.half x) ≡ Ok content
    current_now x same =
        ap (content_of (start_of layout)) (slice_back layout.areas (start_of layout) layout.half x c1 (start_low layout) same
        ∙ kept layout.second layout.areas layout.half (length (framed state)) c1 c (omega (arith, length-framed state, room)) (put_front p1 (framed state) c (omega (arith, long))) (put_past p1 (framed state) c (omega (arith, long))))
        ∙ area_now site layout c content size sound stands

    -- with the header whole but for the selector
    ours_kept : (x : List ℕ) → length x ≡ length c → take (layout.areas - 1) x ≡ take (layout.areas - 1) c → IsOurs site x × (half_of site.text x ≡ layout.half)
    ours_kept x size_same same =
        let got = ours_front site (layout.areas - 1) x c (omega (arith, stands.areas)) size_same same stands.ours in
        (got.0, ap (λ (n : ℕ). (n - 22 - length site.text) / 2) got.1 ∙ stands.half)

    switched : (x : List ℕ) → length x ≡ length c → take (layout.areas - 1) x ≡ take (layout.areas - 1) c → drop layout.areas x ≡ drop layout.areas c1 → P x
    switched x same front back =
        let g : ℕ = get_or x (21 + length site.text) 0 in
        elim (cases_eq (g % 2) 0) [
          | inl even ↦ at false even
          | inr odd ↦ let one : g % 2 ≡ 1 = omega (arith, odd) in at true one
        ]
      where
        at : (b : Bool) → get_or x (21 + length site.text) 0 % 2 ≡ (if b then 1 else 0) → P x
        at b is =
            let there : Layout = record { areas = layout.areas; half = layout.half; second = b; next = layout.next } in
            let found : Heads site there x = record { ours = (ours_kept x same front).0; half = (ours_kept x same front).1; selected = is; areas = stands.areas } in
            ⊎_elim (λ now. inl (opens_area site there x content found now)) (λ other. inr (opens_area site there x (only_snapshot state) found other))
            (pick layout.second b layout.areas layout.half x content (only_snapshot state) (current_now x back) (other_now x back))

    low1 : take (layout.areas - 1) c1 ≡ take (layout.areas - 1) c
    low1 = take_front p1 (layout.areas - 1) c1 c (omega (arith, other_low layout)) (put_front p1 (framed state) c (omega (arith, long)))

    past_selector : (o : List ℕ) → length o ≡ 1 → drop layout.areas (with_octets (layout.areas - 1) o c1) ≡ drop layout.areas c1
    past_selector o one =
        let at : layout.areas ≡ layout.areas - 1 + length o = omega (arith, one, sound.header) in
        subst (λ (n : ℕ). drop n (with_octets (layout.areas - 1) o c1) ≡ drop n c1) (sym at) (put_past (layout.areas - 1) o c1 (omega (arith, selector_fits)))

    at_switch : (o : List ℕ) → length o ≡ 1 → Each P (record { contents = with_octets (layout.areas - 1) o c1; loose = record { place = layout.areas - 1; count = length o } ∷ [] })
    at_switch o one x may =
        let same = one_loose (with_octets (layout.areas - 1) o c1) x (layout.areas - 1) (length o) may in
        let at : layout.areas - 1 + length o ≡ layout.areas = omega (arith, one, sound.header) in
        let fits : layout.areas - 1 + length o ≤ length c1 = omega (arith, at, selector_fits) in
        switched x (same.size ∙ length-with_octets (layout.areas - 1) o c1 fits ∙ long1) (same.before ∙ put_front (layout.areas - 1) o c1 (omega (arith, selector_fits)) ∙ low1)
        (subst (λ (n : ℕ). drop n x ≡ drop n (with_octets (layout.areas - 1) o c1)) at same.after ∙ past_selector o one)

    front2 : take (layout.areas - 1) c2 ≡ take (layout.areas - 1) c
    front2 = put_front (layout.areas - 1) (selector_of layout ∷ []) c1 (omega (arith, selector_fits)) ∙ low1

    back2 : drop layout.areas c2 ≡ drop layout.areas c1
    back2 = past_selector (selector_of layout ∷ []) refl

    at_last : Each P (record { contents = c2; loose = [] })
    at_last x may = let is = only_read c2 x may in switched x (ap length is ∙ long2) (ap (take (layout.areas - 1)) is ∙ front2) (ap (drop layout.areas) is ∙ back2)

    pub steps : TwoWrites P c p1 (framed state) (layout.areas - 1) (selector_of layout ∷ [])
    steps = record {
      rest = λ x may. inl (subst (λ (l : List ℕ). OpensTo site l content) (sym (only_read c x may)) (opens_now site layout c content size sound stands));
      first = at_first;
      middle = at_middle;
      second = at_switch;
      last = at_last;
    }

    -- with the selector written, the device stands for the snapshot
    stands_behind : StandsFor site (behind_snapshot layout (length state)) c2 (only_snapshot state)
    stands_behind =
        let n : ℕ = length state in
        let rest = drop (p1 + length (framed state)) c in
        let octet : get_or c2 (21 + length site.text) 0 ≡ selector_of layout =
        ap (λ (k : ℕ). get_or c2 k 0) at_selector ∙ sym (get_or-drop (layout.areas - 1) c2 0 0) ∙ ap (λ (l : List ℕ). get_or l 0 0) (put_from (layout.areas - 1) (selector_of layout ∷ []) c1 (omega (arith, selector_fits))) in
        let there = staged c2 back2 in
        let gate : get_or c2 (p1 + 4 + n) 0 ≡ 0 =
        ap (λ (k : ℕ). get_or c2 k 0) (add_assoc p1 4 n) ∙ sym (get_or-drop p1 c2 (4 + n) 0) ∙ ap (λ (l : List ℕ). get_or l (4 + n) 0) there ∙ get_or_at lead 0 rest 0 (4 + n) lead_long in
        let begins : start_of (behind_snapshot layout n) ≡ p1 = start_behind layout n in
        let inner : p1 + 4 + n - p1 ≡ 4 + n = omega arith in
        let part : octets_at (start_of (behind_snapshot layout n)) (p1 + 4 + n - start_of (behind_snapshot layout n)) c2 ≡ lead =
        (λ i. octets_at (begins i) (p1 + 4 + n - begins i) c2) ∙ ap (λ (k : ℕ). take k (drop p1 c2)) inner ∙ ap (take (4 + n)) there ∙ take_at lead (0 ∷ rest) (4 + n) lead_long in
        record {
          ours = (ours_kept c2 long2 front2).0;
          areas = stands.areas;
          half = (ours_kept c2 long2 front2).1;
          selected = ap (λ (k : ℕ). k % 2) octet ∙ selector_behind layout.second;
          closed = λ _ is. zero_not_one (sym gate ∙ is);
          reads = subst (λ (l : List ℕ). BeginsWith l (only_snapshot state) []) (sym part) (state_alone state few);
        }
      where
        zero_not_one : zero ≡ 1 → ⊥
        zero_not_one is = omega arith

        at_selector : 21 + length site.text ≡ layout.areas - 1 + 0
        at_selector = omega (arith, stands.areas)

  pub ready : (a : Option Told) → HasSize size a → Settled site layout a content → Ready P p1 (framed state) (layout.areas - 1) (selector_of layout ∷ []) a
  ready None whole settled = tt
  ready (Some a) whole settled = (settled.stable, steps (disk_of a).contents whole settled.stands)

  pub committed : (a d : Option Told) → HasSize size a → Ended p1 (framed state) (layout.areas - 1) (selector_of layout ∷ []) a d → Settled site layout a content → Settled site (behind_snapshot layout (length state)) d (only_snapshot state)
  committed a None whole ended settled = tt
  committed None (Some d) whole ended settled = absurd ended
  committed (Some a) (Some d) whole ended settled = record {
    stands = subst (λ (k : Disk). StandsFor site (behind_snapshot layout (length state)) k.contents (only_snapshot state)) (sym ended) (stands_behind (disk_of a).contents whole settled.stands);
    stable = ap (λ (k : Disk). k.loose) ended;
  }
