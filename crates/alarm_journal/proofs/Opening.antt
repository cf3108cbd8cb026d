-- What is read of a journal whose gate is open.
use Rattle.std.proofs.Common.{◌≡◌, ◌⊎◌, inl, inr, ℕ, ◌+◌, ◌-◌, ◌/◌, ◌%◌, ◌<◌, ◌≤◌, ◌^◌, if◌then◌else◌, List, [], length, take, get_or, sym, ◌∙◌, ap, subst, arith, Option, Some, None, Result, Ok, Err, nat_lt}
use Rattle.std.proofs.lemmas.List.{take-take}
use Rattle.byteorder.specs.Endian.{big_number, big_bytes}
use Rattle.ground_io.specs.Disk.{Disk, octets_at}
use Rattle.ground_io.specs.Trace.{Told, Adds, Reads, HasSize, disk_of}
use Rattle.ground_io.specs.declared.entry.Entry.{Entry}
use Rattle.ground_io.proofs.Crashes.{disk_adds}
use Rattle.alarm_journal.specs.Journal.{LeavesAt, Site, Content, BeginsWith, mark, formatted_size}
use Rattle.alarm_journal.specs.JournalSteps.{or_else, first_other, foreign_place, checked_header, or_damaged, selected_content}
use Rattle.alarm_journal.specs.Press.{StandsFor, Settled, IsSound, Begun, Answers, start_of}
use Rattle.alarm_journal.specs.Areas.{IsRead, IsDamage}
use Rattle.alarm_journal.specs.Opened.{Shows}
use Rattle.alarm_journal.specs.declared.layout.Layout.{Layout}
use Rattle.alarm_journal.specs.declared.open_fault.OpenFault.{OpenFault}
use Rattle.alarm_journal.specs.declared.open_fault.OpenFault.TheVariants.{DiskFault, SmallDevice, Foreign, Damaged, NoMemory}
use Rattle.alarm_journal.proofs.Fronts.{slice_front, octet_front}
use Rattle.alarm_journal.proofs.Headers.{checked_ok, owned, opens_by_header}
use Rattle.alarm_journal.proofs.Images.{computed_refused}
use Rattle.alarm_journal.proofs.Rules.{leaves_computed}
use Rattle.alarm_journal.proofs.Standings.{Heads, area_opens}

-- the header by its size and its first foreign place
abbrev own_by : Site → ℕ → Option ℕ → Result ℕ OpenFault
own_by site size (Some place) = Err (Foreign place)
own_by site size None = if nat_lt size site.need then Err (Damaged 9) else Ok size

-- the header that was read is checked as the whole device is
header_same : (site : Site) (size : ℕ) (header c : List ℕ) → take (22 + length site.text) header ≡ take (22 + length site.text) c → checked_header site size c ≡ checked_header site size header
header_same site size header c same =
    let n : ℕ = length site.text in
    let m : ℕ = 22 + n in
    let formatted : formatted_size c ≡ formatted_size header = ap (λ (l : List ℕ). big_number 8 l) (sym (slice_front m 9 8 header c (omega arith) same)) in
    let foreign : foreign_place site.text c ≡ foreign_place site.text header =
    (λ i. or_else (first_other 1 mark (sym (slice_front m 1 8 header c (omega arith) same) i)) (or_else (first_other 17 (big_bytes 4 n) (sym (slice_front m 17 4 header c (omega arith) same) i)) (first_other 21 site.text (sym (slice_front m 21 n header c (omega arith) same) i)))) in
    (λ i. if nat_lt size (formatted i) then Err (SmallDevice size (formatted i)) else own_by site (formatted i) (foreign i))

-- what was found in the header, and where it says that the areas lie
pub record Found (site : Site) (size : ℕ) (header : List ℕ) (formatted : ℕ) (layout : Layout) : Type 0 where
  pub checked : checked_header site size header ≡ Ok formatted
  pub long : length header ≡ 22 + length site.text
  pub areas : layout.areas ≡ 22 + length site.text
  pub half : layout.half ≡ (formatted - 22 - length site.text) / 2
  pub selected : get_or header (21 + length site.text) 0 % 2 ≡ (if layout.second then 1 else 0)

front : (site : Site) (header c : List ℕ) → header ≡ octets_at 0 (length header) c → length header ≡ 22 + length site.text → take (22 + length site.text) header ≡ take (22 + length site.text) c
front site header c is long =
    let m : ℕ = 22 + length site.text in
    ap (take m) (is ∙ ap (λ (k : ℕ). take k c) long) ∙ take-take m m c (omega arith)

pub heads : (site : Site) (size : ℕ) (header c : List ℕ) (formatted : ℕ) (layout : Layout) → Found site size header formatted layout → length c ≡ size → get_or c 0 0 ≡ 1 → header ≡ octets_at 0 (length header) c → Heads site layout c
heads site size header c formatted layout found whole gate is =
    let n : ℕ = length site.text in
    let m : ℕ = 22 + n in
    let same = front site header c is found.long in
    let seen = checked_ok site size header formatted found.checked in
    let own = owned site.text header seen.own in
    let size_is : formatted_size header ≡ formatted_size c = ap (λ (l : List ℕ). big_number 8 l) (slice_front m 9 8 header c (omega arith) same) in
    record {
      ours = record {
        gate = gate;
        own = record {
          mark = sym (slice_front m 1 8 header c (omega arith) same) ∙ own.mark;
          count = sym (slice_front m 17 4 header c (omega arith) same) ∙ own.count;
          text = sym (slice_front m 21 n header c (omega arith) same) ∙ own.text;
        };
        enough = subst (λ (k : ℕ). site.need ≤ k) size_is seen.enough;
        whole = subst (λ (k : ℕ). k ≤ length c) size_is (subst (λ (k : ℕ). formatted_size header ≤ k) (sym whole) seen.whole);
      };
      half = ap (λ (k : ℕ). (k - 22 - n) / 2) (sym size_is ∙ sym seen.is) ∙ sym found.half;
      selected = ap (λ (k : ℕ). k % 2) (sym (octet_front m (21 + n) header c (omega arith) same)) ∙ found.selected;
      areas = found.areas;
    }

-- the layout with the place of the next gate
abbrev at_next : Layout → ℕ → Layout
at_next layout next = record { areas = layout.areas; half = layout.half; second = layout.second; next = next }

pub stands : (site : Site) (layout : Layout) (c : List ℕ) (content : Content) (inner : ℕ) → Heads site layout c → IsRead (start_of layout) layout.half inner content c → StandsFor site (at_next layout (start_of layout + inner)) c content
stands site layout c content inner heads read =
    let s : ℕ = start_of layout in
    let inside : s + inner - s ≡ inner = omega arith in
    record {
      ours = heads.ours;
      areas = heads.areas;
      half = heads.half;
      selected = heads.selected;
      closed = λ lt is. read.closed (omega (arith, lt)) is;
      reads = subst (λ (k : ℕ). BeginsWith (octets_at s k c) content []) (sym inside) read.reads;
    }

pub sound : (size : ℕ) (layout : Layout) (inner : ℕ) → layout.areas + layout.half + layout.half ≤ size → 22 ≤ layout.areas → size < 2 ^ 64 → 4 ≤ inner → inner ≤ layout.half → IsSound size (at_next layout (start_of layout + inner))
sound size layout inner fits header word behind within = record { fits = fits; behind = omega (arith, behind); within = omega (arith, within); header = header; word = word }

-- the disk is the same after entries that aren't any
same_disk : (a d : Told) → Adds (Some a) (Some d) [] → disk_of d ≡ disk_of a
same_disk a d adds = disk_adds a d [] adds

-- what was read stood there before
read_before : (a d : Told) (octets : List ℕ) → Adds (Some a) (Some d) [] → Reads (Some d) 0 octets → Reads (Some a) 0 octets
read_before a d octets adds reads = reads ∙ ap (λ (k : Disk). octets_at 0 (length octets) k.contents) (same_disk a d adds)

pub settled : (site : Site) (size : ℕ) (header : List ℕ) (content : Content) (formatted inner : ℕ) (layout : Layout) (a d : Option Told) → Found site size header formatted layout → HasSize size a → Adds a d []
    → Reads d 0 header → Shows d (IsRead (start_of layout) layout.half inner content) → Begun a → Settled site (at_next layout (start_of layout + inner)) d content
settled site size header content formatted inner layout a None found whole ad first read begun = tt
settled site size header content formatted inner layout None (Some d) found whole ad first read begun = absurd ad
settled site size header content formatted inner layout (Some a) (Some d) found whole ad first read begun =
    let head = heads site size header (disk_of a).contents formatted layout found whole begun.gate (read_before a d header ad first) in
    let same : disk_of d ≡ disk_of a = same_disk a d ad in
    record {
      stands = stands site layout (disk_of d).contents content inner (subst (λ (k : Disk). Heads site layout k.contents) (sym same) head) read;
      stable = ap (λ (k : Disk). k.loose) same ∙ begun.stable;
    }

-- the header is refused
pub bad_header : (site : Site) (size : ℕ) (header : List ℕ) (fault : OpenFault) (a b : Option Told) → checked_header site size header ≡ Err fault → length header ≡ 22 + length site.text → HasSize size a → site.need ≤ size → Adds a b [] → Reads b 0 header → Begun a → Answers site a b (Err fault)
bad_header site size header fault a None checked long whole enough ab first begun = tt
bad_header site size header fault None (Some b) checked long whole enough ab first begun = absurd ab
bad_header site size header fault (Some a) (Some b) checked long whole enough ab first begun =
    let c = (disk_of a).contents in
    let as_read : checked_header site (length c) c ≡ Err fault = ap (λ (k : ℕ). checked_header site k c) whole ∙ header_same site size header c (front site header c (read_before a b header ab first) long) ∙ checked in
    inr (inr (computed_refused site c fault (opens_by_header site c (subst (λ (k : ℕ). site.need ≤ k) (sym whole) enough) begun.gate ∙ ap (selected_content site c) as_read)))

-- a length leaves the area
bad_area : (site : Site) (size : ℕ) (header : List ℕ) (formatted at : ℕ) (layout : Layout) (a d : Option Told) → Found site size header formatted layout → HasSize size a → Adds a d []
    → Reads d 0 header → Shows d (λ image. LeavesAt (start_of layout) (octets_at (start_of layout) layout.half image) at) → Begun a → Answers site a d (Err (Damaged at))
bad_area site size header formatted at layout a None found whole ad first bad begun = tt
bad_area site size header formatted at layout None (Some d) found whole ad first bad begun = absurd ad
bad_area site size header formatted at layout (Some a) (Some d) found whole ad first bad begun =
    let c = (disk_of a).contents in
    let head = heads site size header c formatted layout found whole begun.gate (read_before a d header ad first) in
    let here : LeavesAt (start_of layout) (octets_at (start_of layout) layout.half c) at =
    subst (λ (k : Disk). LeavesAt (start_of layout) (octets_at (start_of layout) layout.half k.contents) at) (same_disk a d ad) bad in
    inr (inr (computed_refused site c (Damaged at) (area_opens site layout c head ∙ ap or_damaged (leaves_computed (start_of layout) (octets_at (start_of layout) layout.half c) at here))))

-- a failing device, or want of memory
pub no_answer : (site : Site) (fault : OpenFault) (a b : Option Told) (entries : List Entry) → (fault ≡ DiskFault) ⊎ (fault ≡ NoMemory) → Adds a b entries → Answers site a b (Err fault)
no_answer site fault a None entries is adds = tt
no_answer site fault None (Some b) entries is adds = absurd adds
no_answer site fault (Some a) (Some b) entries (inl is) adds = inl is
no_answer site fault (Some a) (Some b) entries (inr is) adds = inr (inl is)

-- whatever came in the way of reading the area
pub no_area : (site : Site) (size : ℕ) (header : List ℕ) (formatted : ℕ) (layout : Layout) (fault : OpenFault) (a d : Option Told) → Found site size header formatted layout → HasSize size a → Adds a d []
    → Reads d 0 header → IsDamage d (λ at image. LeavesAt (start_of layout) (octets_at (start_of layout) layout.half image) at) fault → Begun a → Answers site a d (Err fault)
no_area site size header formatted layout fault a d found whole ad first (inl disk) begun = no_answer site fault a d [] (inl disk) ad
no_area site size header formatted layout fault a d found whole ad first (inr (inl memory)) begun = no_answer site fault a d [] (inr memory) ad
no_area site size header formatted layout fault a d found whole ad first (inr (inr (at, is, bad))) begun =
    subst (λ (f : OpenFault). Answers site a d (Err f)) (sym is) (bad_area site size header formatted at layout a d found whole ad first bad begun)
