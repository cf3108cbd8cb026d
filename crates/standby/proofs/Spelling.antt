-- Packets: each has one spelling, and is read as it is written.
use Rattle.std.proofs.Common.{◌≡◌, ℕ, ◌^◌, ◌<◌, ◌≤◌, eqb, leb, List, [], ◌∷◌, ◌++◌, length, Option, Some, None, refl, sym, ap, subst, ◌∙◌, arith}
use Rattle.std.specs.Int.{w16, w32, w64, to_be_bytes}
use Rattle.std.proofs.lemmas.Bool.{eq-eqb, eqb-true, leb-true, le-leb}
use Rattle.std.proofs.lemmas.List.{append-nil, length-append}
use Rattle.std.proofs.lemmas.Option.{none-some}
use Rattle.alarm_core.specs.declared.event.Event.{Event}
use Rattle.state_codec.specs.Contents.{records_of}
use Rattle.state_codec.specs.Records.{written_act, written_event}
use Rattle.state_codec.specs.ReadingSteps.{then_at, last_at, either_at, nothing_at, number_at, octet_at, octets_at}
use Rattle.state_codec.proofs.Behind.{AreOctets, Reads, reads_then, reads_last, some_is}
use Rattle.state_codec.proofs.PartLaws.{HasLength, IsBelow, IsOctet, as_they_are, octet_reads, octets_reads, u16_reads, u32_reads, u64_reads, written_octet}
use Rattle.state_codec.proofs.DestinationLaws.{reads_if}
use Rattle.state_codec.proofs.Recovered.{one_list}
use Rattle.standby.specs.FrameSteps.{RecordsData, body_at, piece_at, piece_packet_at, records_at, records_packet_at}
use Rattle.standby.specs.Packets.{IsNoPiece, IsNoRecords, PieceData, SpellsPiece, SpellsRecords, most_packet_octets, piece_kind, records_kind, written_body, written_piece, written_records}
use Rattle.standby.specs.Once.{OnePacket}

-- ---- octets behind how many they are

abbrev pub IsBody : List ℕ → Type 0
IsBody body = length body ≤ most_packet_octets

pub body_reads : Reads body_at written_body IsBody
unfolding body_at
body_reads =
    reads_then (number_at w16) (λ count. either_at (leb count most_packet_octets) (octets_at count) nothing_at) (to_be_bytes w16) (IsBelow (2 ^ 16)) (λ body. length body) as_they_are IsBody u16_reads (λ body short. omega (arith, short))
    (λ count lt. reads_if (leb count most_packet_octets) (octets_at count) as_they_are (HasLength count) (λ body. IsBody body × (length body ≡ count)) (λ few. octets_reads count)
    (λ body is. (le-leb _ _ (omega (arith, is.0, is.1)), is.1))
    (λ body few long. (omega (arith, leb-true _ _ few, long), long)))

-- ---- the fields of records

abbrev pub written_fields : RecordsData → List ℕ
written_fields x = to_be_bytes w64 x.before ++ (to_be_bytes w16 x.count ++ written_body x.octets)

pub record AreFields (x : RecordsData) : Type 0 where
  pub before : x.before < 2 ^ 64
  pub count : x.count < 2 ^ 16
  pub body : IsBody x.octets

abbrev fields : ℕ → ℕ → List ℕ → RecordsData
fields before count octets = record { before = before; count = count; octets = octets }

abbrev AreSo : ℕ → ℕ → RecordsData → Type 0
AreSo before count x = (AreFields x × (x.before ≡ before)) × (x.count ≡ count)

records_forth : (before count : ℕ) → before < 2 ^ 64 → count < 2 ^ 16 → (octets : List ℕ) (x : RecordsData) → IsBody octets → Some (fields before count octets) ≡ Some x → AreSo before count x × (written_body x.octets ≡ written_body octets)
records_forth before count low few octets x body e =
    subst (λ (y : RecordsData). AreSo before count y × (written_body y.octets ≡ written_body octets)) (some_is (fields before count octets) x e)
    (((record { before = low; count = few; body = body }, refl), refl), refl)

records_back : (before count : ℕ) (x : RecordsData) → AreSo before count x → (octets : List ℕ) × IsBody octets × (Some (fields before count octets) ≡ Some x) × (written_body x.octets ≡ written_body octets)
records_back before count x are =
    (x.octets, are.0.0.body, ap (λ (n : ℕ). Some (fields n count x.octets)) (sym are.0.1) ∙ ap (λ (n : ℕ). Some (fields x.before n x.octets)) (sym are.1), refl)

pub records_reads : Reads records_at written_fields AreFields
unfolding records_at
records_reads =
    reads_then (number_at w64) (λ before. then_at (number_at w16) λ count. last_at body_at λ octets. Some (fields before count octets)) (to_be_bytes w64) (IsBelow (2 ^ 64)) (λ x. x.before) (λ x. to_be_bytes w16 x.count ++ written_body x.octets) AreFields u64_reads (λ x f. f.before)
    (λ before low. reads_then (number_at w16) (λ count. last_at body_at λ octets. Some (fields before count octets)) (to_be_bytes w16) (IsBelow (2 ^ 16)) (λ x. x.count) (λ x. written_body x.octets) (λ x. AreFields x × (x.before ≡ before)) u16_reads (λ x f. f.0.count)
    (λ count few. reads_last body_at (λ octets. Some (fields before count octets)) written_body IsBody (λ x. written_body x.octets) (AreSo before count) body_reads (records_forth before count low few) (records_back before count)))

-- ---- the fields of a piece

abbrev pub written_part : PieceData → List ℕ
written_part x = to_be_bytes w64 x.events ++ (to_be_bytes w32 x.whole ++ (to_be_bytes w32 x.place ++ written_body x.octets))

pub record IsPart (x : PieceData) : Type 0 where
  pub events : x.events < 2 ^ 64
  pub whole : x.whole < 2 ^ 32
  pub place : x.place < 2 ^ 32
  pub body : IsBody x.octets

abbrev part : ℕ → ℕ → ℕ → List ℕ → PieceData
part events whole place octets = record { events = events; whole = whole; place = place; octets = octets }

abbrev IsSo : ℕ → ℕ → ℕ → PieceData → Type 0
IsSo events whole place x = ((IsPart x × (x.events ≡ events)) × (x.whole ≡ whole)) × (x.place ≡ place)

piece_forth : (events whole place : ℕ) → events < 2 ^ 64 → whole < 2 ^ 32 → place < 2 ^ 32 → (octets : List ℕ) (x : PieceData) → IsBody octets → Some (part events whole place octets) ≡ Some x → IsSo events whole place x × (written_body x.octets ≡ written_body octets)
piece_forth events whole place few short low octets x body e =
    subst (λ (y : PieceData). IsSo events whole place y × (written_body y.octets ≡ written_body octets)) (some_is (part events whole place octets) x e)
    ((((record { events = few; whole = short; place = low; body = body }, refl), refl), refl), refl)

piece_back : (events whole place : ℕ) (x : PieceData) → IsSo events whole place x → (octets : List ℕ) × IsBody octets × (Some (part events whole place octets) ≡ Some x) × (written_body x.octets ≡ written_body octets)
piece_back events whole place x is = (
  x.octets,
  is.0.0.0.body,
  ap (λ (n : ℕ). Some (part n whole place x.octets)) (sym is.0.0.1) ∙ (ap (λ (n : ℕ). Some (part x.events n place x.octets)) (sym is.0.1) ∙ ap (λ (n : ℕ). Some (part x.events x.whole n x.octets)) (sym is.1)),
  refl,
)

pub piece_reads : Reads piece_at written_part IsPart
unfolding piece_at
piece_reads =
    reads_then (number_at w64) (λ events. then_at (number_at w32) λ whole. then_at (number_at w32) λ place. last_at body_at λ octets. Some (part events whole place octets)) (to_be_bytes w64) (IsBelow (2 ^ 64)) (λ x. x.events) (λ x. to_be_bytes w32 x.whole ++ (to_be_bytes w32 x.place ++ written_body x.octets)) IsPart u64_reads (λ x f. f.events)
    (λ events few. reads_then (number_at w32) (λ whole. then_at (number_at w32) λ place. last_at body_at λ octets. Some (part events whole place octets)) (to_be_bytes w32) (IsBelow (2 ^ 32)) (λ x. x.whole) (λ x. to_be_bytes w32 x.place ++ written_body x.octets) (λ x. IsPart x × (x.events ≡ events)) u32_reads (λ x f. f.0.whole)
    (λ whole short. reads_then (number_at w32) (λ place. last_at body_at λ octets. Some (part events whole place octets)) (to_be_bytes w32) (IsBelow (2 ^ 32)) (λ x. x.place) (λ x. written_body x.octets) (λ x. (IsPart x × (x.events ≡ events)) × (x.whole ≡ whole)) u32_reads (λ x f. f.0.0.place)
    (λ place low. reads_last body_at (λ octets. Some (part events whole place octets)) written_body IsBody (λ x. written_body x.octets) (IsSo events whole place) body_reads (piece_forth events whole place few short low) (piece_back events whole place))))

-- ---- behind the octet that tells the kind

kind_reads : {X : Type 0} (kind : ℕ) (read : List ℕ → Option (X × List ℕ)) (written : X → List ℕ) (Fits : X → Type 0) → kind < 256 → Reads read written Fits
    → Reads (then_at octet_at (λ octet. either_at (eqb octet kind) read nothing_at)) (λ x. kind ∷ written x) Fits
kind_reads kind read written Fits low reads =
    reads_then octet_at (λ octet. either_at (eqb octet kind) read nothing_at) written_octet IsOctet (λ x. kind) written Fits octet_reads (λ x fits. low)
    (λ octet lt. reads_if (eqb octet kind) read written Fits (λ x. Fits x × (kind ≡ octet)) (λ same. reads) (λ x is. (eq-eqb octet kind (sym is.1), is.0)) (λ x same fits. (fits, sym (eqb-true _ _ same))))

abbrev pub records_packet : RecordsData → List ℕ
records_packet x = written_records x.before x.count x.octets

pub records_packet_reads : Reads records_packet_at records_packet AreFields
unfolding records_packet_at
records_packet_reads = kind_reads records_kind records_at written_fields AreFields (omega arith) records_reads

pub piece_packet_reads : Reads piece_packet_at written_piece IsPart
unfolding piece_packet_at
piece_packet_reads = kind_reads piece_kind piece_at written_part IsPart (omega arith) piece_reads

-- ---- whole packets

-- what is read with nothing behind it is the whole
found_whole : {X : Type 0} (read : List ℕ → Option (X × List ℕ)) (written : X → List ℕ) (Fits : X → Type 0) → Reads read written Fits
    → (packet behind : List ℕ) (x : X) → AreOctets packet → read packet ≡ Some (x, behind) → behind ≡ [] → (packet ≡ written x) × Fits x
found_whole read written Fits reads packet behind x are e none =
    let t = reads.takes packet x behind are e in
    (t.0.parts ∙ (ap (λ (l : List ℕ). written x ++ l) none ∙ append-nil (written x)), t.1)

-- what was written is read with nothing behind it
read_whole : {X : Type 0} (read : List ℕ → Option (X × List ℕ)) (written : X → List ℕ) (Fits : X → Type 0) → Reads read written Fits
    → (packet : List ℕ) (x : X) → Fits x → packet ≡ written x → read packet ≡ Some (x, [])
read_whole read written Fits reads packet x fits e = ap read (e ∙ sym (append-nil (written x))) ∙ reads.again x [] fits

-- so there is one at most
pub one_reading : {X : Type 0} (read : List ℕ → Option (X × List ℕ)) (written : X → List ℕ) (Fits : X → Type 0) → Reads read written Fits
    → (packet : List ℕ) (x y : X) → Fits x → Fits y → packet ≡ written x → packet ≡ written y → x ≡ y
one_reading {X = X} read written Fits reads packet x y fits also e f =
    let both : ◌≡◌ {A = X × List ℕ} (x, []) (y, []) =
    some_is (x, []) (y, []) (sym (read_whole read written Fits reads packet x fits e) ∙ read_whole read written Fits reads packet y also f) in
    ap (λ (p : X × List ℕ). p.0) both

-- ---- one spelling

-- there are no fewer octets than events
pub no_fewer : (events : List Event) → length events ≤ length (records_of events)
no_fewer [] = omega arith
no_fewer (event ∷ events) =
    omega (arith, no_fewer events, length-append (written_event event) (records_of events), length-append (to_be_bytes w64 event.moment) (written_act event.act))

pub head_is : (a b : ℕ) (xs ys : List ℕ) → a ∷ xs ≡ b ∷ ys → a ≡ b
head_is a b xs ys e = cc

fields_fit : (octets : List ℕ) (before : ℕ) (events : List Event) → SpellsRecords octets before events → AreFields (record { before = before; count = length events; octets = records_of events })
fields_fit octets before events spells = record { before = spells.number; count = omega (arith, no_fewer events, spells.short); body = spells.short }

-- octets are the packet of one list of events, behind one number of others
pub record SameRecords (before other : ℕ) (events others : List Event) : Type 0 where
  pub before_is : before ≡ other
  pub events_are : events ≡ others

pub one_records : (octets : List ℕ) (before other : ℕ) (events others : List Event) → SpellsRecords octets before events → SpellsRecords octets other others → SameRecords before other events others
one_records octets before other events others one two =
    let x : RecordsData = record { before = before; count = length events; octets = records_of events } in
    let y : RecordsData = record { before = other; count = length others; octets = records_of others } in
    let same : x ≡ y = one_reading records_packet_at records_packet AreFields records_packet_reads octets x y (fields_fit octets before events one) (fields_fit octets other others two) one.octets_are two.octets_are in
    let octets_same : records_of events ≡ records_of others = ap (λ (d : RecordsData). d.octets) same in
    record {
      before_is = ap (λ (d : RecordsData). d.before) same;
      events_are = one_list (records_of events) events others (record { octets_are = refl; have = one.have }) (record { octets_are = octets_same; have = two.have });
    }

pub part_fits : (bound : ℕ) (octets : List ℕ) (piece : PieceData) → bound < 2 ^ 32 → SpellsPiece bound octets piece → IsPart piece
part_fits bound octets piece low spells = record { events = spells.number; whole = omega (arith, low, spells.bounded); place = omega (arith, low, spells.bounded, spells.within); body = spells.short }

-- octets are one piece
pub one_piece : (bound : ℕ) (octets : List ℕ) (piece other : PieceData) → bound < 2 ^ 32 → SpellsPiece bound octets piece → SpellsPiece bound octets other → piece ≡ other
one_piece bound octets piece other low one two =
    one_reading piece_packet_at written_piece IsPart piece_packet_reads octets piece other (part_fits bound octets piece low one) (part_fits bound octets other low two) one.octets_are two.octets_are

-- and never both
pub not_both : (bound : ℕ) (octets : List ℕ) (before : ℕ) (events : List Event) (piece : PieceData) → SpellsRecords octets before events → SpellsPiece bound octets piece → ⊥
not_both bound octets before events piece one two =
    let x : RecordsData = record { before = before; count = length events; octets = records_of events } in
    absurd (omega (arith, head_is 1 2 (written_fields x) (written_part piece) (sym one.octets_are ∙ two.octets_are)))

pub one_packet : OnePacket
one_packet = record {
  before = λ octets before other events others one two. (one_records octets before other events others one two).before_is;
  events = λ octets before other events others one two. (one_records octets before other events others one two).events_are;
  piece = one_piece;
  records_octets = λ first second before events one two. one.octets_are ∙ sym two.octets_are;
  piece_octets = λ bound first second piece one two. one.octets_are ∙ sym two.octets_are;
  never_both = not_both;
}

-- ---- as the program reads them

pub records_found : (packet behind : List ℕ) (x : RecordsData) → AreOctets packet → records_packet_at packet ≡ Some (x, behind) → behind ≡ [] → (packet ≡ records_packet x) × (length x.octets ≤ most_packet_octets)
records_found packet behind x are e none =
    let f = found_whole records_packet_at records_packet AreFields records_packet_reads packet behind x are e none in
    (f.0, f.1.body)

pub piece_found : (packet behind : List ℕ) (x : PieceData) → AreOctets packet → piece_packet_at packet ≡ Some (x, behind) → behind ≡ [] → (packet ≡ written_piece x) × (length x.octets ≤ most_packet_octets)
piece_found packet behind x are e none =
    let f = found_whole piece_packet_at written_piece IsPart piece_packet_reads packet behind x are e none in
    (f.0, f.1.body)

-- where nothing else is read, there is none
pub no_records : (packet : List ℕ) (read : Option (RecordsData × List ℕ)) → records_packet_at packet ≡ read → ((x : RecordsData) → read ≡ Some (x, []) → ⊥) → IsNoRecords packet
no_records packet read e never before count records low few short is =
    let x : RecordsData = fields before count records in
    never x (sym e ∙ read_whole records_packet_at records_packet AreFields records_packet_reads packet x (record { before = low; count = few; body = short }) is)

pub no_piece : (packet : List ℕ) (read : Option (PieceData × List ℕ)) → piece_packet_at packet ≡ read → ((x : PieceData) → read ≡ Some (x, []) → ⊥) → IsNoPiece packet
no_piece packet read e never piece few whole place short is =
    never piece (sym e ∙ read_whole piece_packet_at written_piece IsPart piece_packet_reads packet piece (record { events = few; whole = whole; place = place; body = short }) is)

-- nothing at all was read
pub none_there : {X : Type 0} (x : X) → ◌≡◌ {A = Option (X × List ℕ)} None (Some (x, [])) → ⊥
none_there x e = absurd (none-some (x, []) e)

-- something is left
pub left_over : {X : Type 0} (x y : X) (behind : List ℕ) → ◌≡◌ {A = Option (X × List ℕ)} (Some (x, behind)) (Some (y, [])) → behind ≡ []
left_over {X = X} x y behind e = ap (λ (p : X × List ℕ). p.1) (some_is (x, behind) (y, []) e)
