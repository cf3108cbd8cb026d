-- A header that is this site's, and what it opens to.
use Rattle.std.proofs.Common.{◌≡◌, ◌≢◌, inl, inr, ℕ, ◌+◌, ◌<◌, ◌≤◌, ◌==◌, if◌then◌else◌, Bool, true, false, List, [], ◌∷◌, length, take, drop, get_or, refl, sym, ◌∙◌, ap, arith, Option, Some, None, Result, Ok, Err, nat_lt}
use Rattle.std.proofs.lemmas.Bool.{cases_eq}
use Rattle.std.proofs.lemmas.List.{length-take}
use Rattle.std.proofs.lemmas.Bool.Decides.{nat_tests}
use Rattle.byteorder.specs.Endian.{big_bytes}
use Rattle.ground_io.specs.Disk.{octets_at}
use Rattle.alarm_journal.specs.Journal.{Site, Content, nothing, mark, formatted_size, selected_area, selected_place, IsOwn, OpensTo}
use Rattle.alarm_journal.specs.JournalSteps.{content_of, first_other, or_else, foreign_place, own_header, checked_header, or_damaged, selected_content, opened_from}
use Rattle.alarm_journal.specs.Journal.{IsOurs}
use Rattle.alarm_journal.specs.declared.open_fault.OpenFault.{OpenFault}
use Rattle.alarm_journal.specs.declared.open_fault.OpenFault.TheVariants.{SmallDevice, Foreign, Damaged}
use Rattle.alarm_journal.proofs.Batches.{is_one, not_one, not_below, below, at_least}
use Rattle.alarm_journal.proofs.Rules.{computed_holds}

pub same_octet : (x : ℕ) → (x == x) ≡ true
same_octet x = grind (arith, nat_tests)

pub other_octet : (x y : ℕ) → x ≢ y → (x == y) ≡ false
other_octet x y is = grind (arith, nat_tests)

pub none_other : (place : ℕ) (xs : List ℕ) → first_other place xs xs ≡ None
none_other place [] = refl
none_other place (x ∷ xs) = ap (λ (t : Bool). if t then first_other (place + 1) xs xs else Some place) (same_octet x) ∙ none_other (place + 1) xs

some_none : (place : ℕ) → (let o : Option ℕ = Some place in o) ≡ None → ⊥
some_none place is = cc

-- where none is other, they are the ones wanted
pub all_wanted : (place : ℕ) (wanted found : List ℕ) → length found ≤ length wanted → first_other place wanted found ≡ None → found ≡ wanted
all_wanted place [] [] size none = refl
all_wanted place [] (x ∷ found) size none = absurd (omega (arith, size))
all_wanted place (octet ∷ wanted) [] size none = absurd (some_none place none)
all_wanted place (octet ∷ wanted) (x ∷ found) size none = elim (cases_eq x octet) [
  | inl same ↦
      let more : first_other (place + 1) wanted found ≡ None = sym (ap (λ (t : Bool). if t then first_other (place + 1) wanted found else Some place) (ap (λ (k : ℕ). k == octet) same ∙ same_octet octet)) ∙ none in
      (λ i. same i ∷ all_wanted (place + 1) wanted found (omega (arith, size)) more i)
  | inr other ↦ absurd (some_none place (sym (ap (λ (t : Bool). if t then first_other (place + 1) wanted found else Some place) (other_octet x octet other)) ∙ none))
]

or_else_none : (a b : Option ℕ) → or_else a b ≡ None → (a ≡ None) × (b ≡ None)
or_else_none None b is = (refl, is)
or_else_none (Some place) b is = absurd (some_none place is)

pub none_foreign : (site : Site) (x : List ℕ) → octets_at 1 8 x ≡ mark → octets_at 17 4 x ≡ big_bytes 4 (length site.text) → octets_at 21 (length site.text) x ≡ site.text → foreign_place site.text x ≡ None
none_foreign site x marked count text =
    let n : ℕ = length site.text in
    ap (λ (l : List ℕ). or_else (first_other 1 mark l) (or_else (first_other 17 (big_bytes 4 n) (octets_at 17 4 x)) (first_other 21 site.text (octets_at 21 n x)))) marked
    ∙ ap (λ (o : Option ℕ). or_else o (or_else (first_other 17 (big_bytes 4 n) (octets_at 17 4 x)) (first_other 21 site.text (octets_at 21 n x)))) (none_other 1 mark)
    ∙ ap (λ (l : List ℕ). or_else (first_other 17 (big_bytes 4 n) l) (first_other 21 site.text (octets_at 21 n x))) count
    ∙ ap (λ (o : Option ℕ). or_else o (first_other 21 site.text (octets_at 21 n x))) (none_other 17 (big_bytes 4 n))
    ∙ ap (λ (l : List ℕ). first_other 21 site.text l) text ∙ none_other 21 site.text

-- a checked header
pub checked : (site : Site) (x : List ℕ) → IsOurs site x → checked_header site (length x) x ≡ Ok (formatted_size x)
checked site x ours =
    let size : ℕ = formatted_size x in
    ap (λ (t : Bool). if t then Err (SmallDevice (length x) size) else own_header site x (foreign_place site.text x)) (not_below size (length x) ours.whole)
    ∙ ap (own_header site x) (none_foreign site x ours.own.mark ours.own.count ours.own.text)
    ∙ ap (λ (t : Bool). if t then Err (Damaged 9) else Ok size) (not_below site.need size ours.enough)

-- what a device opens to whose size is enough and whose gate is open, by its header
pub opens_by_header : (site : Site) (x : List ℕ) → site.need ≤ length x → get_or x 0 0 ≡ 1 → opened_from site x ≡ selected_content site x (checked_header site (length x) x)
opens_by_header site x enough gate =
    ap (λ (t : Bool). if t then Err (SmallDevice (length x) site.need) else (if get_or x 0 0 == 1 then selected_content site x (checked_header site (length x) x) else Ok nothing)) (not_below site.need (length x) enough)
    ∙ ap (λ (t : Bool). if t then selected_content site x (checked_header site (length x) x) else Ok nothing) (is_one (get_or x 0 0) gate)

-- this site's header leaves it to the selected area
pub opens_selected : (site : Site) (x : List ℕ) → IsOurs site x → opened_from site x ≡ or_damaged (content_of (selected_place site.text x) (selected_area site.text x))
opens_selected site x ours = opens_by_header site x (omega (arith, ours.enough, ours.whole)) ours.gate ∙ ap (selected_content site x) (checked site x ours)

pub opens_ours : (site : Site) (x : List ℕ) (content : Content) → IsOurs site x → content_of (selected_place site.text x) (selected_area site.text x) ≡ Ok content → OpensTo site x content
opens_ours site x content ours is = record { enough = omega (arith, ours.enough, ours.whole); holds = inr (ours, computed_holds (selected_place site.text x) (selected_area site.text x) content is) }

pub opens_blank : (site : Site) (x : List ℕ) → site.need ≤ length x → get_or x 0 0 ≢ 1 → OpensTo site x nothing
opens_blank site x enough shut = record { enough = enough; holds = inl (shut, refl) }

pub blank_computed : (site : Site) (x : List ℕ) → site.need ≤ length x → get_or x 0 0 ≢ 1 → opened_from site x ≡ Ok nothing
blank_computed site x enough shut =
    ap (λ (t : Bool). if t then Err (SmallDevice (length x) site.need) else (if get_or x 0 0 == 1 then selected_content site x (checked_header site (length x) x) else Ok nothing)) (not_below site.need (length x) enough)
    ∙ ap (λ (t : Bool). if t then selected_content site x (checked_header site (length x) x) else Ok nothing) (not_one (get_or x 0 0) shut)

pub opens_small : (site : Site) (x : List ℕ) → length x < site.need → opened_from site x ≡ Err (SmallDevice (length x) site.need)
opens_small site x small =
    ap (λ (t : Bool). if t then Err (SmallDevice (length x) site.need) else (if get_or x 0 0 == 1 then selected_content site x (checked_header site (length x) x) else Ok nothing)) (below site.need (length x) small)

-- what a checked header says
pub record Checked (site : Site) (size : ℕ) (header : List ℕ) (formatted : ℕ) : Type 0 where
  pub is : formatted ≡ formatted_size header
  pub whole : formatted_size header ≤ size
  pub enough : site.need ≤ formatted_size header
  pub own : foreign_place site.text header ≡ None

err_ok : {T : Type 0} (fault : OpenFault) (value : T) → (let r : Result T OpenFault = Err fault in r) ≡ Ok value → ⊥
err_ok fault value is = cc

if_ok : {T : Type 0} (b : Bool) (fault : OpenFault) (r : Result T OpenFault) (value : T) → (if b then Err fault else r) ≡ Ok value → (b ≡ false) × (r ≡ Ok value)
if_ok true fault r value is = absurd (err_ok fault value is)
if_ok false fault r value is = (refl, is)

own_ok : (site : Site) (header : List ℕ) (o : Option ℕ) (formatted : ℕ) → own_header site header o ≡ Ok formatted → (o ≡ None) × ((if nat_lt (formatted_size header) site.need then Err (Damaged 9) else Ok (formatted_size header)) ≡ Ok formatted)
own_ok site header (Some place) formatted is = absurd (err_ok (Foreign place) formatted is)
own_ok site header None formatted is = (refl, is)

ok_once : (a b : ℕ) → (let r : Result ℕ OpenFault = Ok a in r) ≡ Ok b → b ≡ a
ok_once a b same = cc

pub checked_ok : (site : Site) (size : ℕ) (header : List ℕ) (formatted : ℕ) → checked_header site size header ≡ Ok formatted → Checked site size header formatted
checked_ok site size header formatted is =
    let first = if_ok (nat_lt size (formatted_size header)) (SmallDevice size (formatted_size header)) (own_header site header (foreign_place site.text header)) formatted is in
    let second = own_ok site header (foreign_place site.text header) formatted first.1 in
    let third = if_ok (nat_lt (formatted_size header) site.need) (Damaged 9) (Ok (formatted_size header)) formatted second.1 in
    record {
      is = ok_once (formatted_size header) formatted third.1;
      whole = at_least (formatted_size header) size first.0;
      enough = at_least site.need (formatted_size header) third.0;
      own = second.0;
    }

pub at_most : (n : ℕ) (xs : List ℕ) → length (take n xs) ≤ n
at_most n xs = omega (arith, length-take n xs)

-- a header without foreign octets is this site's
pub owned : (text header : List ℕ) → foreign_place text header ≡ None → IsOwn text header
owned text header none =
    let n : ℕ = length text in
    let first = or_else_none (first_other 1 mark (octets_at 1 8 header)) (or_else (first_other 17 (big_bytes 4 n) (octets_at 17 4 header)) (first_other 21 text (octets_at 21 n header))) none in
    let second = or_else_none (first_other 17 (big_bytes 4 n) (octets_at 17 4 header)) (first_other 21 text (octets_at 21 n header)) first.1 in
    record {
      mark = all_wanted 1 mark (octets_at 1 8 header) (at_most 8 (drop 1 header)) first.0;
      count = all_wanted 17 (big_bytes 4 n) (octets_at 17 4 header) (at_most 4 (drop 17 header)) second.0;
      text = all_wanted 21 text (octets_at 21 n header) (at_most n (drop 21 header)) second.1;
    }
