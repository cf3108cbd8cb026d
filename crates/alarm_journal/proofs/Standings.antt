-- Images that keep what stands in front of a place.
use Rattle.std.proofs.Common.{◌≡◌, ◌≢◌, ℕ, zero, suc, ◌+◌, ◌-◌, ◌%◌, ◌<◌, ◌≤◌, ◌^◌, ◌==◌, ◌/◌, if◌then◌else◌, add-zero, Bool, true, false, List, [], ◌∷◌, ◌++◌, length, take, drop, get_or, refl, sym, ◌∙◌, ap, subst, arith, append_assoc, length-append, length-drop, Ok}
use Rattle.std.proofs.lemmas.List.{append-nil, drop-drop, get_or-take, get_or-drop, get_or_at, length-take-le, take_at}
use Rattle.std.proofs.Math.Seq.{take-add, take-append-add}
use Rattle.byteorder.specs.Endian.{big_number, big_bytes}
use Rattle.ground_io.specs.Disk.{octets_at}
use Rattle.alarm_journal.specs.Journal.{Site, Content, BeginsWith, with_batch, with_bodies, OpensTo, formatted_size, half_of, selected_area, selected_place, framed}
use Rattle.alarm_journal.specs.JournalSteps.{opened_from, or_damaged, content_of, batches_from, with_more}
use Rattle.alarm_journal.specs.Journal.{IsOurs}
use Rattle.alarm_journal.specs.Press.{StandsFor, IsSound, start_of, end_of}
use Rattle.alarm_journal.specs.declared.layout.Layout.{Layout}
use Rattle.alarm_journal.proofs.Batches.{batch_framed, batches_closed, length-four, length-framed, reads_back}
use Rattle.alarm_journal.proofs.Fronts.{slice_front, octet_front, take_front}
use Rattle.alarm_journal.proofs.Headers.{opens_ours, opens_selected}
use Rattle.alarm_journal.proofs.Rules.{begins_batch, reads_any}

start_is : (q a h : ℕ) (b : Bool) → q ≡ (if b then 1 else 0) → (if q == 0 then a else a + h) ≡ (if b then a + h else a)
start_is q a h true is = ap (λ (n : ℕ). if n == 0 then a else a + h) is
start_is q a h false is = ap (λ (n : ℕ). if n == 0 then a else a + h) is

pub start_low : (layout : Layout) → layout.areas ≤ start_of layout
start_low layout = low layout.second layout.areas layout.half
  where
    low : (b : Bool) (a h : ℕ) → a ≤ (if b then a + h else a)
    low true a h = omega arith
    low false a h = omega arith

start_high : (layout : Layout) → start_of layout ≤ layout.areas + layout.half
start_high layout = high layout.second layout.areas layout.half
  where
    high : (b : Bool) (a h : ℕ) → (if b then a + h else a) ≤ a + h
    high true a h = omega arith
    high false a h = omega arith

-- the header and the selector of a device
pub record Heads (site : Site) (layout : Layout) (x : List ℕ) : Type 0 where
  pub ours : IsOurs site x
  pub half : half_of site.text x ≡ layout.half
  pub selected : get_or x (21 + length site.text) 0 % 2 ≡ (if layout.second then 1 else 0)
  pub areas : layout.areas ≡ 22 + length site.text

pub ours_front : (site : Site) (m : ℕ) (x c : List ℕ) → 21 + length site.text ≤ m → length x ≡ length c → take m x ≡ take m c → IsOurs site c → IsOurs site x × (formatted_size x ≡ formatted_size c)
ours_front site m x c enough size same ours =
    let formatted : formatted_size x ≡ formatted_size c = ap (λ (l : List ℕ). big_number 8 l) (slice_front m 9 8 x c (omega (arith, enough)) same) in (
      record {
        gate = octet_front m 0 x c (omega (arith, enough)) same ∙ ours.gate;
        own = record {
          mark = slice_front m 1 8 x c (omega (arith, enough)) same ∙ ours.own.mark;
          count = slice_front m 17 4 x c (omega (arith, enough)) same ∙ ours.own.count;
          text = slice_front m 21 (length site.text) x c enough same ∙ ours.own.text;
        };
        enough = subst (λ (n : ℕ). site.need ≤ n) (sym formatted) ours.enough;
        whole = subst (λ (n : ℕ). n ≤ length x) (sym formatted) (subst (λ (n : ℕ). formatted_size c ≤ n) (sym size) ours.whole);
      },
      formatted,
    )

pub heads_front : (site : Site) (layout : Layout) (x c : List ℕ) → length x ≡ length c → take layout.areas x ≡ take layout.areas c → Heads site layout c → Heads site layout x
heads_front site layout x c size same heads =
    let kept = ours_front site layout.areas x c (omega (arith, heads.areas)) size same heads.ours in
    record {
      ours = kept.0;
      half = ap (λ (n : ℕ). (n - 22 - length site.text) / 2) kept.1 ∙ heads.half;
      selected = ap (λ (n : ℕ). n % 2) (octet_front layout.areas (21 + length site.text) x c (omega (arith, heads.areas)) same) ∙ heads.selected;
      areas = heads.areas;
    }

-- what a device with this header opens to
area_is : (site : Site) (layout : Layout) (x : List ℕ) → Heads site layout x → content_of (selected_place site.text x) (selected_area site.text x) ≡ content_of (start_of layout) (octets_at (start_of layout) layout.half x)
area_is site layout x heads =
    let start : selected_place site.text x ≡ start_of layout =
    start_is (get_or x (21 + length site.text) 0 % 2) (22 + length site.text) (half_of site.text x) layout.second heads.selected
    ∙ (λ i. if layout.second then (sym heads.areas i) + heads.half i else sym heads.areas i) in
    λ i. content_of (start i) (octets_at (start i) (heads.half i) x)

pub area_opens : (site : Site) (layout : Layout) (x : List ℕ) → Heads site layout x → opened_from site x ≡ or_damaged (content_of (start_of layout) (octets_at (start_of layout) layout.half x))
area_opens site layout x heads = opens_selected site x heads.ours ∙ ap or_damaged (area_is site layout x heads)

pub opens_area : (site : Site) (layout : Layout) (x : List ℕ) (content : Content) → Heads site layout x → content_of (start_of layout) (octets_at (start_of layout) layout.half x) ≡ Ok content → OpensTo site x content
opens_area site layout x content heads is = opens_ours site x content heads.ours (area_is site layout x heads ∙ is)

module _ (site : Site) (layout : Layout) (c : List ℕ) (content : Content) (size : ℕ) (sound : IsSound size layout) (stands : StandsFor site layout c content) where
  pub heads : Heads site layout c
  heads = record { ours = stands.ours; half = stands.half; selected = stands.selected; areas = stands.areas }

  low : layout.areas ≤ layout.next
  low = omega (arith, start_low layout, sound.behind)

  -- the next gate is on the device, or at its end
  next_on : layout.next ≤ length c
  next_on = omega (arith, sound.behind, sound.within, stands.half, stands.areas, stands.ours.whole, start_high layout)

  -- what stands is read as it, whatever stands behind it
  reads : (tail : List ℕ) → content_of (start_of layout) (octets_at (start_of layout) (layout.next - start_of layout) c ++ tail) ≡ with_more content (batches_from layout.next zero tail)
  reads tail =
      let s = start_of layout in
      let long : length (octets_at s (layout.next - s) c) ≡ layout.next - s = length-take-le (layout.next - s) (drop s c) (omega (arith, length-drop s c, next_on)) in
      let up_to : s + length (octets_at s (layout.next - s) c) ≡ layout.next = omega (arith, long, sound.behind) in
      reads_any (octets_at s (layout.next - s) c) content stands.reads s tail ∙ ap (λ (k : ℕ). with_more content (batches_from k zero tail)) up_to

  -- an image with this front is read as what stands, and what it has behind
  pub area_on : (x : List ℕ) → take layout.next x ≡ take layout.next c → content_of (start_of layout) (octets_at (start_of layout) layout.half x) ≡ with_more content (batches_from layout.next zero (octets_at layout.next (end_of layout - layout.next) x))
  area_on x same =
      let s = start_of layout in
      let before : ℕ = layout.next - s in
      let behind : ℕ = end_of layout - layout.next in
      let whole : layout.half ≡ before + behind = omega (arith, sound.behind, sound.within) in
      let up_to : s + before ≡ layout.next = omega (arith, sound.behind) in
      let parts : octets_at s layout.half x ≡ octets_at s before c ++ octets_at layout.next behind x =
      ap (λ (n : ℕ). octets_at s n x) whole ∙ take-add before behind (drop s x)
      ∙ (λ i. slice_front layout.next s before x c (omega (arith, up_to)) same i ++ take behind ((drop-drop before s x ∙ ap (λ (n : ℕ). drop n x) up_to) i)) in
      ap (content_of s) parts ∙ reads (octets_at layout.next behind x)

  pub reads_on : (x : List ℕ) (more : List (List ℕ)) → length x ≡ length c → take layout.next x ≡ take layout.next c → batches_from layout.next zero (octets_at layout.next (end_of layout - layout.next) x) ≡ Ok more → OpensTo site x (with_bodies content more)
  reads_on x more long same is =
      opens_area site layout x (with_bodies content more) (heads_front site layout x c long (take_front layout.next layout.areas x c low same) heads) (area_on x same ∙ ap (with_more content) is)

  no_more : (x : List ℕ) → OpensTo site x (with_bodies content []) → OpensTo site x content
  no_more x opens = subst (OpensTo site x) (λ i. record { snapshot = content.snapshot; bodies = append-nil content.bodies i }) opens

  -- with the gate closed, as what stands
  pub reads_closed : (x : List ℕ) → length x ≡ length c → take (layout.next + 1) x ≡ take (layout.next + 1) c → layout.next < end_of layout → OpensTo site x content
  reads_closed x long same inside =
      let behind : ℕ = end_of layout - layout.next in
      let some : zero < behind = omega (arith, inside) in
      let gate : get_or (octets_at layout.next behind x) 0 0 ≡ get_or c layout.next 0 =
      get_or-take behind (drop layout.next x) 0 0 some ∙ get_or-drop layout.next x 0 0 ∙ ap (λ (n : ℕ). get_or x n 0) (add-zero layout.next)
      ∙ octet_front (layout.next + 1) layout.next x c (omega arith) same in
      let none : batches_from layout.next zero (octets_at layout.next behind x) ≡ Ok [] = batches_closed layout.next (octets_at layout.next behind x) (λ is. stands.closed inside (sym gate ∙ is)) in
      no_more x (reads_on x [] long (take_front (layout.next + 1) layout.next x c (omega arith) same) none)

  -- a batch behind a gate counts where the gate is open
  pub reads_staged : (body : List ℕ) (x : List ℕ) (g : ℕ) (more : List ℕ) → length x ≡ length c → length body < 2 ^ 32 → layout.next + length body + 6 ≤ end_of layout → take layout.next x ≡ take layout.next c
      → drop layout.next x ≡ g ∷ (framed body ++ more) → (g ≢ 1 → OpensTo site x content) × (g ≡ 1 → OpensTo site x (with_batch content body))
  reads_staged body x g more long few room front behind_is =
      let behind : ℕ = end_of layout - layout.next in
      let k : ℕ = behind - length (g ∷ framed body) in
      let sizes : behind ≡ length (g ∷ framed body) + k = omega (arith, length-framed body, room) in
      let part : octets_at layout.next behind x ≡ g ∷ (framed body ++ take k more) =
      (λ i. take (sizes i) (behind_is i)) ∙ take-append-add (g ∷ framed body) more k in (
        λ shut.
            let none : batches_from layout.next zero (octets_at layout.next behind x) ≡ Ok [] = ap (batches_from layout.next zero) part ∙ batches_closed layout.next (g ∷ (framed body ++ take k more)) shut in
            no_more x (reads_on x [] long front none),
        λ is_open.
            let here : batches_from layout.next zero (octets_at layout.next behind x) ≡ Ok (body ∷ []) =
            ap (batches_from layout.next zero) part ∙ ap (λ (n : ℕ). batches_from layout.next zero (n ∷ (framed body ++ take k more))) is_open ∙ batch_framed layout.next body (take k more) few in
            reads_on x (body ∷ []) long front here,
      )

  -- with the gate open, the device stands for what stood, and the batch
  pub stands_open : (body x more : List ℕ) (next : ℕ) → length x ≡ length c → length body < 2 ^ 32 → next ≡ layout.next + length (framed body) → take layout.next x ≡ take layout.next c
      → drop layout.next x ≡ 1 ∷ (framed body ++ more) → StandsFor site (record { areas = layout.areas; half = layout.half; second = layout.second; next = next }) x (with_batch content body)
  stands_open body x more next long few next_is front behind_is =
      let s = start_of layout in
      let before : ℕ = layout.next - s in
      let lead : List ℕ = big_bytes 4 (length body) ++ body in
      let mid : List ℕ = 1 ∷ lead in
      let up_to : s + before ≡ layout.next = omega (arith, sound.behind) in
      let lead_long : length lead ≡ 4 + length body = length-append (big_bytes 4 (length body)) body in
      let mid_long : length mid ≡ 5 + length body = five (length lead) lead_long in
      let longer : next - s ≡ before + length mid = omega (arith, sound.behind, next_is, length-framed body, mid_long) in
      let split : framed body ++ more ≡ lead ++ 0 ∷ more =
      ap (λ (l : List ℕ). l ++ more) (sym (append_assoc (big_bytes 4 (length body)) body (0 ∷ []))) ∙ append_assoc lead (0 ∷ []) more in
      let behind : drop layout.next x ≡ mid ++ 0 ∷ more = behind_is ∙ ap (λ (l : List ℕ). 1 ∷ l) split in
      let part : octets_at s (next - s) x ≡ octets_at s before c ++ mid =
      ap (λ (n : ℕ). octets_at s n x) longer ∙ take-add before (length mid) (drop s x)
      ∙ (λ i. slice_front layout.next s before x c (omega (arith, up_to)) front i
      ++ (ap (take (length mid)) (drop-drop before s x ∙ ap (λ (n : ℕ). drop n x) up_to ∙ behind) ∙ take_at mid (0 ∷ more) (length mid) refl) i) in
      let head = heads_front site layout x c long (take_front layout.next layout.areas x c low front) heads in
      record {
        ours = head.ours;
        areas = head.areas;
        half = head.half;
        selected = head.selected;
        closed = λ _ is. zero_not_one (sym (get_or_at mid 0 more 0 (length mid) refl) ∙ ap (λ (l : List ℕ). get_or l (length mid) 0) (sym behind) ∙ get_or-drop layout.next x (length mid) 0
            ∙ ap (λ (n : ℕ). get_or x n 0) (omega (arith, next_is, length-framed body, mid_long)) ∙ is);
        reads = subst (λ (l : List ℕ). BeginsWith l (with_batch content body) []) (sym part) (begins_batch (octets_at s before c) content (big_bytes 4 (length body)) body stands.reads (length-four (length body), reads_back (length body) few));
      }
    where
      zero_not_one : zero ≡ 1 → ⊥
      zero_not_one is = omega arith

      five : (n : ℕ) → n ≡ 4 + length body → suc n ≡ 5 + length body
      five n is = omega arith
