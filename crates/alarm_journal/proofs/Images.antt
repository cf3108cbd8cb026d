-- What an image opens to or is refused for, and how it is computed.
use Rattle.std.proofs.Common.{◌≡◌, ◌≢◌, ◌⊎◌, slice_get, inl, inr, ℕ, zero, suc, ◌+◌, ◌<◌, ◌≤◌, ◌==◌, if◌then◌else◌, Bool, List, [], ◌∷◌, length, take, drop, get_or, refl, sym, ◌∙◌, ap, subst, arith, Option, Some, None, Result, Ok, Err, nat_lt}
use Rattle.std.proofs.lemmas.Bool.{cases_eq, cases_lt}
use Rattle.std.proofs.lemmas.List.{take-take}
use Rattle.byteorder.specs.Endian.{big_bytes}
use Rattle.ground_io.specs.Disk.{octets_at}
use Rattle.alarm_journal.specs.Journal.{Site, Content, mark, formatted_size, selected_area, selected_place, IsWhole, IsOwn, IsOurs, DiffersAt, IsForeignAt, OpensTo, IsRefused, OpenAlike}
use Rattle.alarm_journal.specs.JournalSteps.{first_other, or_else, foreign_place, own_header, or_damaged, selected_content, opened_from}
use Rattle.alarm_journal.specs.Laws.{IsComputed, OpensOnce}
use Rattle.alarm_journal.specs.declared.open_fault.OpenFault.{OpenFault}
use Rattle.alarm_journal.specs.declared.open_fault.OpenFault.TheVariants.{DiskFault, SmallDevice, Foreign, Damaged, NoMemory}
use Rattle.alarm_journal.proofs.Batches.{not_below, below}
use Rattle.alarm_journal.proofs.Headers.{same_octet, other_octet, none_other, none_foreign, at_most, opens_by_header, opens_selected, opens_small, blank_computed}
use Rattle.alarm_journal.proofs.Rules.{AreaFound, area_found, holds_computed, leaves_computed}

-- the octets of a part
slice_get_take : (n i : ℕ) (xs : List ℕ) → i < n → slice_get (take n xs) i ≡ slice_get xs i
slice_get_take zero i xs lt = absurd (omega (arith, lt))
slice_get_take (suc n) i [] lt = refl
slice_get_take (suc n) zero (x ∷ xs) lt = refl
slice_get_take (suc n) (suc i) (x ∷ xs) lt = slice_get_take n i xs (omega (arith, lt))

slice_get_drop : (k i at : ℕ) (xs : List ℕ) → at ≡ k + i → slice_get (drop k xs) i ≡ slice_get xs at
slice_get_drop zero i at xs is = let same : i ≡ at = omega (arith, is) in ap (slice_get xs) same
slice_get_drop (suc k) i at [] is = refl
slice_get_drop (suc k) i zero (x ∷ xs) is = absurd (omega (arith, is))
slice_get_drop (suc k) i (suc at) (x ∷ xs) is = slice_get_drop k i at xs (omega (arith, is))

-- the first octet of a part that isn't the one wanted
record DifferAt (wanted found : List ℕ) (at : ℕ) : Type 0 where
  pub within : at < length wanted
  pub before : take at found ≡ take at wanted
  pub other : slice_get found at ≢ slice_get wanted at

part_differs : (place n : ℕ) (wanted image : List ℕ) (at i : ℕ) → length wanted ≡ n → at ≡ place + i → DifferAt wanted (octets_at place n image) i → DiffersAt place wanted image at
part_differs place n wanted image at i long is differ = record {
  count = i;
  is = is;
  within = differ.within;
  before = sym (take-take i n (drop place image) (omega (arith, differ.within, long))) ∙ differ.before;
  other = λ same. differ.other (slice_get_take n i (drop place image) (omega (arith, differ.within, long)) ∙ slice_get_drop place i at image is ∙ same);
}

differs_part : (place n : ℕ) (wanted image : List ℕ) (at : ℕ) → length wanted ≡ n → (differs : DiffersAt place wanted image at) → DifferAt wanted (octets_at place n image) differs.count
differs_part place n wanted image at long differs =
    let i : ℕ = differs.count in
    let low : i < n = omega (arith, differs.within, long) in
    record {
      within = differs.within;
      before = take-take i n (drop place image) (omega (arith, low)) ∙ differs.before;
      other = λ same. differs.other (sym (slice_get_take n i (drop place image) low ∙ slice_get_drop place i at image differs.is) ∙ same);
    }

-- what was computed of octets that are wanted is so
abbrev OtherFound : ℕ → List ℕ → List ℕ → Option ℕ → Type 0
OtherFound place wanted found (Some at) = (i : ℕ) × (at ≡ place + i) × DifferAt wanted found i
OtherFound place wanted found None = length found ≤ length wanted → found ≡ wanted

one_on : (place octet x : ℕ) (wanted found : List ℕ) (o : Option ℕ) → x ≡ octet → OtherFound (place + 1) wanted found o → OtherFound place (octet ∷ wanted) (x ∷ found) o
one_on place octet x wanted found (Some at) same (i, is, differ) = (suc i, one i is, record { within = omega (arith, differ.within); before = (λ j. same j ∷ differ.before j); other = differ.other })
  where
    one : (k : ℕ) → at ≡ place + 1 + k → at ≡ place + suc k
    one k so = omega arith
one_on place octet x wanted found None same others = λ le. (λ j. same j ∷ others (omega (arith, le)) j)

no_place : (place : ℕ) → place ≡ place + 0
no_place place = omega arith

here : (place octet x : ℕ) (wanted found : List ℕ) → x ≢ octet → OtherFound place (octet ∷ wanted) (x ∷ found) (Some place)
here place octet x wanted found other = (zero, no_place place, record { within = omega arith; before = refl; other = λ is. other (some_is x octet is) })
  where
    some_is : (a b : ℕ) → (let o : Option ℕ = Some a in o) ≡ Some b → a ≡ b
    some_is a b is = cc

missing : (place octet : ℕ) (wanted : List ℕ) → OtherFound place (octet ∷ wanted) [] (Some place)
missing place octet wanted = (zero, no_place place, record { within = omega arith; before = refl; other = λ is. none_some octet is })
  where
    none_some : (a : ℕ) → (let o : Option ℕ = None in o) ≡ Some a → ⊥
    none_some a is = cc

other_found : (place : ℕ) (wanted found : List ℕ) → OtherFound place wanted found (first_other place wanted found)
other_found place [] [] = λ le. refl
other_found place [] (x ∷ found) = λ le. absurd (omega (arith, le))
other_found place (octet ∷ wanted) [] = missing place octet wanted
other_found place (octet ∷ wanted) (x ∷ found) = elim (cases_eq x octet) [
  | inl same ↦
      let is : first_other place (octet ∷ wanted) (x ∷ found) ≡ first_other (place + 1) wanted found =
      ap (λ (t : Bool). if t then first_other (place + 1) wanted found else Some place) (ap (λ (k : ℕ). k == octet) same ∙ same_octet octet) in
      subst (OtherFound place (octet ∷ wanted) (x ∷ found)) (sym is) (one_on place octet x wanted found (first_other (place + 1) wanted found) same (other_found (place + 1) wanted found))
  | inr other ↦
      let is : first_other place (octet ∷ wanted) (x ∷ found) ≡ Some place = ap (λ (t : Bool). if t then first_other (place + 1) wanted found else Some place) (other_octet x octet other) in
      subst (OtherFound place (octet ∷ wanted) (x ∷ found)) (sym is) (here place octet x wanted found other)
]

-- and the first one that differs is computed
differ_computed : (place : ℕ) (wanted found : List ℕ) (i : ℕ) → DifferAt wanted found i → first_other place wanted found ≡ Some (place + i)
differ_computed place [] found i differ = absurd (omega (arith, differ.within))
differ_computed place (octet ∷ wanted) [] zero differ = ap (λ (k : ℕ). Some k) (no_place place)
differ_computed place (octet ∷ wanted) [] (suc i) differ = absurd (none_cons octet (take i wanted) differ.before)
  where
    none_cons : (a : ℕ) (l : List ℕ) → (let e : List ℕ = [] in e) ≡ a ∷ l → ⊥
    none_cons a l is = cc
differ_computed place (octet ∷ wanted) (x ∷ found) zero differ =
    ap (λ (t : Bool). if t then first_other (place + 1) wanted found else Some place) (other_octet x octet (λ is. differ.other (ap (λ (k : ℕ). Some k) is))) ∙ ap (λ (k : ℕ). Some k) (no_place place)
differ_computed place (octet ∷ wanted) (x ∷ found) (suc i) differ =
    let same : x ≡ octet = ap (λ (l : List ℕ). get_or l 0 0) differ.before in
    let behind : DifferAt wanted found i = record { within = omega (arith, differ.within); before = ap (drop 1) differ.before; other = differ.other } in
    ap (λ (t : Bool). if t then first_other (place + 1) wanted found else Some place) (ap (λ (k : ℕ). k == octet) same ∙ same_octet octet)
    ∙ differ_computed (place + 1) wanted found i behind ∙ ap (λ (k : ℕ). Some k) (one i)
  where
    one : (k : ℕ) → place + 1 + k ≡ place + suc k
    one k = omega arith

-- what was computed of a header is so
abbrev HeaderFound : List ℕ → List ℕ → Option ℕ → Type 0
HeaderFound text image (Some at) = IsForeignAt text image at
HeaderFound text image None = IsOwn text image

three : (text image : List ℕ) (a b c : Option ℕ) → OtherFound 1 mark (octets_at 1 8 image) a → OtherFound 17 (big_bytes 4 (length text)) (octets_at 17 4 image) b → OtherFound 21 text (octets_at 21 (length text) image) c
    → HeaderFound text image (or_else a (or_else b c))
three text image (Some at) b c one two other = inl (part_differs 1 8 mark image at one.0 refl one.1 one.2)
three text image None (Some at) c one two other = inr (inl (one (at_most 8 (drop 1 image)), part_differs 17 4 (big_bytes 4 (length text)) image at two.0 refl two.1 two.2))
three text image None None (Some at) one two other = inr (inr (one (at_most 8 (drop 1 image)), two (at_most 4 (drop 17 image)), part_differs 21 (length text) text image at other.0 refl other.1 other.2))
three text image None None None one two other = record { mark = one (at_most 8 (drop 1 image)); count = two (at_most 4 (drop 17 image)); text = other (at_most (length text) (drop 21 image)) }

header_found : (text image : List ℕ) → HeaderFound text image (foreign_place text image)
header_found text image =
    three text image (first_other 1 mark (octets_at 1 8 image)) (first_other 17 (big_bytes 4 (length text)) (octets_at 17 4 image)) (first_other 21 text (octets_at 21 (length text) image))
    (other_found 1 mark (octets_at 1 8 image)) (other_found 17 (big_bytes 4 (length text)) (octets_at 17 4 image)) (other_found 21 text (octets_at 21 (length text) image))

foreign_computed : (text image : List ℕ) (at : ℕ) → IsForeignAt text image at → foreign_place text image ≡ Some at
foreign_computed text image at (inl differs) =
    ap (λ (o : Option ℕ). or_else o (or_else (first_other 17 (big_bytes 4 (length text)) (octets_at 17 4 image)) (first_other 21 text (octets_at 21 (length text) image)))) (differ_computed 1 mark (octets_at 1 8 image) differs.count (differs_part 1 8 mark image at refl differs))
    ∙ ap (λ (k : ℕ). Some k) (sym differs.is)
foreign_computed text image at (inr (inl (marked, differs))) =
    ap (λ (o : Option ℕ). or_else o (or_else (first_other 17 (big_bytes 4 (length text)) (octets_at 17 4 image)) (first_other 21 text (octets_at 21 (length text) image)))) (ap (first_other 1 mark) marked ∙ none_other 1 mark)
    ∙ ap (λ (o : Option ℕ). or_else o (first_other 21 text (octets_at 21 (length text) image))) (differ_computed 17 (big_bytes 4 (length text)) (octets_at 17 4 image) differs.count (differs_part 17 4 (big_bytes 4 (length text)) image at refl differs))
    ∙ ap (λ (k : ℕ). Some k) (sym differs.is)
foreign_computed text image at (inr (inr (marked, counted, differs))) =
    ap (λ (o : Option ℕ). or_else o (or_else (first_other 17 (big_bytes 4 (length text)) (octets_at 17 4 image)) (first_other 21 text (octets_at 21 (length text) image)))) (ap (first_other 1 mark) marked ∙ none_other 1 mark)
    ∙ ap (λ (o : Option ℕ). or_else o (first_other 21 text (octets_at 21 (length text) image))) (ap (first_other 17 (big_bytes 4 (length text))) counted ∙ none_other 17 (big_bytes 4 (length text)))
    ∙ differ_computed 21 text (octets_at 21 (length text) image) differs.count (differs_part 21 (length text) text image at refl differs) ∙ ap (λ (k : ℕ). Some k) (sym differs.is)

-- what was computed of an image is so
abbrev ImageFound : Site → List ℕ → Result Content OpenFault → Type 0
ImageFound site image (Ok content) = OpensTo site image content
ImageFound site image (Err fault) = IsRefused site image fault

area_so : (site : Site) (image : List ℕ) → IsOurs site image → (r : Result Content ℕ) → AreaFound (selected_place site.text image) (selected_area site.text image) r → ImageFound site image (or_damaged r)
area_so site image ours (Ok content) holds = record { enough = omega (arith, ours.enough, ours.whole); holds = inr (ours, holds) }
area_so site image ours (Err at) leaves = (record { enough = omega (arith, ours.enough, ours.whole); gate = ours.gate; whole = ours.whole }, ours.own, inr (ours.enough, leaves))

header_so : (site : Site) (image : List ℕ) → IsWhole site image → (o : Option ℕ) → HeaderFound site.text image o → ImageFound site image (selected_content site image (own_header site image o))
header_so site image is (Some at) foreign = (is, foreign)
header_so site image is None own = elim (cases_lt (formatted_size image) site.need) [
  | inl low ↦
      let so : (if nat_lt (formatted_size image) site.need then Err (Damaged 9) else Ok (formatted_size image)) ≡ Err (Damaged 9) = ap (λ (t : Bool). if t then Err (Damaged 9) else Ok (formatted_size image)) (below site.need (formatted_size image) low) in
      subst (λ (r : Result ℕ OpenFault). ImageFound site image (selected_content site image r)) (sym so) (is, own, inl (low, refl))
  | inr enough ↦
      let so : (if nat_lt (formatted_size image) site.need then Err (Damaged 9) else Ok (formatted_size image)) ≡ Ok (formatted_size image) =
      ap (λ (t : Bool). if t then Err (Damaged 9) else Ok (formatted_size image)) (not_below site.need (formatted_size image) enough) in
      let ours : IsOurs site image = record { gate = is.gate; own = own; enough = enough; whole = is.whole } in
      let area = area_found (selected_place site.text image) (selected_area site.text image) in
      subst (λ (r : Result ℕ OpenFault). ImageFound site image (selected_content site image r)) (sym so) (area_so site image ours _ area)
]

-- the header is looked at where the size is what it was
header_is : (site : Site) (image : List ℕ) → IsWhole site image → opened_from site image ≡ selected_content site image (own_header site image (foreign_place site.text image))
header_is site image is =
    opens_by_header site image is.enough is.gate
    ∙ ap (λ (t : Bool). selected_content site image (if t then Err (SmallDevice (length image) (formatted_size image)) else own_header site image (foreign_place site.text image))) (not_below (formatted_size image) (length image) is.whole)

-- the header tells a size that the device doesn't have
shrunk : (site : Site) (image : List ℕ) → site.need ≤ length image → get_or image 0 0 ≡ 1 → length image < formatted_size image → opened_from site image ≡ Err (SmallDevice (length image) (formatted_size image))
shrunk site image enough gate small =
    opens_by_header site image enough gate
    ∙ ap (λ (t : Bool). selected_content site image (if t then Err (SmallDevice (length image) (formatted_size image)) else own_header site image (foreign_place site.text image))) (below (formatted_size image) (length image) small)

pub image_found : (site : Site) (image : List ℕ) → ImageFound site image (opened_from site image)
image_found site image = elim (cases_lt (length image) site.need) [
  | inl small ↦ subst (ImageFound site image) (sym (opens_small site image small)) (refl, small, inl refl)
  | inr enough ↦ elim (cases_eq (get_or image 0 0) 1) [
    | inr shut ↦ subst (ImageFound site image) (sym (blank_computed site image enough shut)) (record { enough = enough; holds = inl (shut, refl) })
    | inl gate ↦ elim (cases_lt (length image) (formatted_size image)) [
      | inl small ↦ subst (ImageFound site image) (sym (shrunk site image enough gate small)) (refl, small, inr (enough, gate, refl))
      | inr whole ↦
          let is : IsWhole site image = record { enough = enough; gate = gate; whole = whole } in
          subst (ImageFound site image) (sym (header_is site image is)) (header_so site image is (foreign_place site.text image) (header_found site.text image))
    ]
  ]
]

pub computed_opens : (site : Site) (image : List ℕ) (content : Content) → opened_from site image ≡ Ok content → OpensTo site image content
computed_opens site image content is = subst (ImageFound site image) is (image_found site image)

pub computed_refused : (site : Site) (image : List ℕ) (fault : OpenFault) → opened_from site image ≡ Err fault → IsRefused site image fault
computed_refused site image fault is = subst (ImageFound site image) is (image_found site image)

-- and what the rules say is computed
pub opens_computed : (site : Site) (image : List ℕ) (content : Content) → OpensTo site image content → opened_from site image ≡ Ok content
opens_computed site image content opens = elim opens.holds [
  | inl blank ↦ blank_computed site image opens.enough blank.0 ∙ ap (λ (k : Content). Ok k) (sym blank.1)
  | inr held ↦ opens_selected site image held.0 ∙ ap or_damaged (holds_computed (selected_place site.text image) (selected_area site.text image) content held.1)
]

small_computed : (site : Site) (image : List ℕ) (size need : ℕ) → IsRefused site image (SmallDevice size need) → opened_from site image ≡ Err (SmallDevice size need)
small_computed site image size need (is, small, inl own) = opens_small site image (omega (arith, is, small, own)) ∙ (λ i. Err (SmallDevice (sym is i) (sym own i)))
small_computed site image size need (is, small, inr (enough, gate, told)) =
    shrunk site image (omega (arith, is, enough)) gate (omega (arith, is, small, told)) ∙ (λ i. Err (SmallDevice (sym is i) (sym told i)))

damaged_computed : (site : Site) (image : List ℕ) (at : ℕ) → IsRefused site image (Damaged at) → opened_from site image ≡ Err (Damaged at)
damaged_computed site image at (is, own, inl (low, nine)) =
    header_is site image is ∙ ap (λ (o : Option ℕ). selected_content site image (own_header site image o)) (none_foreign site image own.mark own.count own.text)
    ∙ ap (λ (t : Bool). selected_content site image (if t then Err (Damaged 9) else Ok (formatted_size image))) (below site.need (formatted_size image) low) ∙ ap (λ (k : ℕ). Err (Damaged k)) (sym nine)
damaged_computed site image at (is, own, inr (enough, leaves)) =
    opens_selected site image (record { gate = is.gate; own = own; enough = enough; whole = is.whole }) ∙ ap or_damaged (leaves_computed (selected_place site.text image) (selected_area site.text image) at leaves)

pub refused_computed : (site : Site) (image : List ℕ) (fault : OpenFault) → IsRefused site image fault → opened_from site image ≡ Err fault
refused_computed site image DiskFault refused = absurd refused
refused_computed site image (SmallDevice size need) refused = small_computed site image size need refused
refused_computed site image (Foreign at) refused = header_is site image refused.0 ∙ ap (λ (o : Option ℕ). selected_content site image (own_header site image o)) (foreign_computed site.text image at refused.1)
refused_computed site image (Damaged at) refused = damaged_computed site image at refused
refused_computed site image NoMemory refused = absurd refused

pub is_computed : IsComputed
is_computed = record {
  opens = λ site image content. (opens_computed site image content, computed_opens site image content);
  refused = λ site image fault. (refused_computed site image fault, computed_refused site image fault);
}

-- so each image opens to one content, or is refused for one fault
one_content : (a b : Content) (r : Result Content OpenFault) → r ≡ Ok a → r ≡ Ok b → a ≡ b
one_content a b r first second = cc

one_fault : (a b : OpenFault) (r : Result Content OpenFault) → r ≡ Err a → r ≡ Err b → a ≡ b
one_fault a b r first second = cc

not_both : (a : Content) (b : OpenFault) (r : Result Content OpenFault) → r ≡ Ok a → r ≡ Err b → ⊥
not_both a b r first second = cc

some_one : (site : Site) (image : List ℕ) (r : Result Content OpenFault) → ImageFound site image r → ((content : Content) × OpensTo site image content) ⊎ ((fault : OpenFault) × IsRefused site image fault)
some_one site image (Ok content) opens = inl (content, opens)
some_one site image (Err fault) refused = inr (fault, refused)

pub opens_once : OpensOnce
opens_once = record {
  either = λ site image. some_one site image (opened_from site image) (image_found site image);
  content = λ site image one other first second. one_content one other (opened_from site image) (opens_computed site image one first) (opens_computed site image other second);
  fault = λ site image one other first second. one_fault one other (opened_from site image) (refused_computed site image one first) (refused_computed site image other second);
  never_both = λ site image content fault opens refused. not_both content fault (opened_from site image) (opens_computed site image content opens) (refused_computed site image fault refused);
}

-- images of which the same is computed open alike
pub computed_alike : (site : Site) (image other : List ℕ) → opened_from site image ≡ opened_from site other → OpenAlike site image other
computed_alike site image other same = record {
  opens = λ content. (
    λ opens. computed_opens site other content (sym same ∙ opens_computed site image content opens),
    λ opens. computed_opens site image content (same ∙ opens_computed site other content opens),
  );
  refused = λ fault. (
    λ refused. computed_refused site other fault (sym same ∙ refused_computed site image fault refused),
    λ refused. computed_refused site image fault (same ∙ refused_computed site other fault refused),
  );
}

pub same_alike : (site : Site) (image other : List ℕ) → image ≡ other → OpenAlike site image other
same_alike site image other is = computed_alike site image other (ap (opened_from site) is)

pub both_alike : (site : Site) (image other : List ℕ) (content : Content) → OpensTo site image content → OpensTo site other content → OpenAlike site image other
both_alike site image other content first second = computed_alike site image other (opens_computed site image content first ∙ sym (opens_computed site other content second))
