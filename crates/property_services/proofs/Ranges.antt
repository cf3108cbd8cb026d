-- Ranges: a reference and a count between tags.
use Rattle.std.proofs.Common.{◌≡◌, ℕ, ℤ, ◌+◌, ◌≤◌, None, List, ◌++◌, length, Result, Ok, Err, refl, subst, inl, inr}
use Rattle.bac_tags.specs.declared.fault.TagFault.{TagFault}
use Rattle.bac_tags.specs.Places.{IsSpelledAt}
use Rattle.bac_tags.specs.Tags.{SpellsTag}
use Rattle.bac_tags.specs.Contents.{IsSigned, SpellsUnsigned, SpellsSigned}
use Rattle.bac_tags.specs.Stamps.{SpellsStamp}
use Rattle.bac_tags.specs.ReadingSteps.{signed_of, unsigned_at, signed_at, stamp_at, ◌>>=◌}
use Rattle.bac_tags.proofs.Standing.{IsBytes, Stands, Stands-then, Stands-front, Stands-back, Stands-within}
use Rattle.bac_tags.proofs.Readers.{Reads, reads}
use Rattle.bac_tags.proofs.Numbers.{signed_values}
use Rattle.bac_tags.proofs.StampLaws.{reads_stamp}
use Rattle.bac_tags.specs.declared.malformed.Malformed.{Malformed}
use Rattle.bac_tags.specs.Refusals.{invalid_tag}
use Rattle.bac_tags.specs.EnclosingTags.{closing, SpellsOnly}
use Rattle.bac_tags.specs.EnclosingSteps.{closing_at}
use Rattle.bac_tags.specs.ParameterReadingSteps.{or_invalid}
use Rattle.bac_tags.proofs.Steps.{bind_ok, bind_err, ok_is}
use Rattle.bac_tags.proofs.TagReaders.{reads_closing}
use Rattle.property_services.specs.Requests.{SpellsCounted}
use Rattle.bac_tags.proofs.ElementAnswers.{if_ok, invalid_ok, invalid_err, ends_within, unsigned_element}
use Rattle.property_services.proofs.References.{stands, spelled_at}

-- what is known of a reader at a place
pub record Finds {X : Type 0} (Spells : List ℕ → X → Type 0) (input : List ℕ) (place : ℕ) (read : Result (X × ℕ) TagFault) : Type 0 where
  pub found : (x : X × ℕ) → read ≡ Ok x → IsSpelledAt Spells input place x.0 x.1
  pub only : (x : X) (end : ℕ) → IsSpelledAt Spells input place x end → read ≡ Ok (x, end)

signed_reads : (input : List ℕ) (place : ℕ) → IsBytes input → place ≤ length input → Reads 3 None 1 4 IsSigned input place (signed_at input place None)
unfolding signed_at
signed_reads input place bytes le = reads 3 None 1 4 signed_of IsSigned signed_values input place (signed_at input place None) bytes le refl

signed_finds : (input : List ℕ) (place : ℕ) → IsBytes input → place ≤ length input → Finds (SpellsSigned None) input place (signed_at input place None)
signed_finds input place bytes le =
    let r = signed_reads input place bytes le in
    record { found = λ x e. if_ok (λ y. IsSpelledAt (SpellsSigned None) input place y.0 y.1) (signed_at input place None) x r.found e; only = r.only }

pub stamp_finds : (input : List ℕ) (place : ℕ) → IsBytes input → place ≤ length input → Finds SpellsStamp input place (stamp_at input place)
stamp_finds input place bytes le =
    let r = reads_stamp input place (stamp_at input place) bytes le refl in
    record { found = λ x e. if_ok (λ y. IsSpelledAt SpellsStamp input place y.0 y.1) (stamp_at input place) x r.found e; only = r.only }

pub unsigned_finds : (input : List ℕ) (place : ℕ) → IsBytes input → place ≤ length input → Finds (SpellsUnsigned None) input place (unsigned_at input place None)
unsigned_finds input place bytes le =
    let r = unsigned_element input place None bytes le in
    record { found = r.found; only = r.only }

closing_found : (input : List ℕ) (place number end : ℕ) → IsBytes input → closing_at input place number ≡ Ok end → IsSpelledAt (SpellsOnly (closing number)) input place tt end
closing_found input place number end bytes e =
    let r = reads_closing number input place (closing_at input place number) bytes refl in
    if_ok (λ n. IsSpelledAt (SpellsOnly (closing number)) input place tt n) (closing_at input place number) end r.found e

closing_again : (input : List ℕ) (place number end : ℕ) → IsBytes input → IsSpelledAt (SpellsOnly (closing number)) input place tt end → closing_at input place number ≡ Ok end
closing_again input place number end bytes s = (reads_closing number input place (closing_at input place number) bytes refl).only end s

-- ---- what stands behind an opening tag

abbrev to_end : {X : Type 0} → X → ℤ → ℕ → Result ((X × ℤ) × ℕ) Malformed
to_end reference count end = Ok ((reference, count), end)

abbrev after_count : {X : Type 0} → List ℕ → ℕ → ℕ → X → ℤ × ℕ → Result ((X × ℤ) × ℕ) Malformed
after_count input begin number reference count = or_invalid begin (closing_at input count.1 number) >>= to_end reference count.0

abbrev after_reference : {X : Type 0} → List ℕ → ℕ → ℕ → X × ℕ → Result ((X × ℤ) × ℕ) Malformed
after_reference input begin number reference = or_invalid begin (signed_at input reference.1 None) >>= after_count input begin number reference.0

abbrev pub list_at : {X : Type 0} → (List ℕ → ℕ → Result (X × ℕ) TagFault) → List ℕ → ℕ → ℕ → ℕ → Result ((X × ℤ) × ℕ) Malformed
list_at read input begin place number = or_invalid begin (read input place) >>= after_reference input begin number

-- the elements and the closing tag stand there
pub record Listed {X : Type 0} (Spells : List ℕ → X → Type 0) (number : ℕ) (input : List ℕ) (place : ℕ) (x : X × ℤ) (end : ℕ) : Type 0 where
  pub inside : List ℕ
  pub back : List ℕ
  pub stands : Stands input place (inside ++ back) end
  pub spelled : SpellsCounted Spells inside x
  pub closed : SpellsTag back (closing number)

pub list_found : {X : Type 0} (Spells : List ℕ → X → Type 0) (read : List ℕ → ℕ → Result (X × ℕ) TagFault) → ((input : List ℕ) (place : ℕ) → IsBytes input → place ≤ length input → Finds Spells input place (read input place))
    → (input : List ℕ) (begin place number : ℕ) (y : (X × ℤ) × ℕ) → IsBytes input → place ≤ length input → list_at read input begin place number ≡ Ok y → Listed Spells number input place y.0 y.1
list_found {X = X} Spells read finds input begin place number y bytes le e =
    let a = bind_ok (or_invalid begin (read input place)) (after_reference input begin number) y e in
    let reference = (finds input place bytes le).found a.0 (invalid_ok begin (read input place) a.0 a.1) in
    let here = ends_within Spells input place a.0.0 a.0.1 le reference in
    let b = bind_ok (or_invalid begin (signed_at input a.0.1 None)) (after_count input begin number a.0.0) y a.2 in
    let count = (signed_finds input a.0.1 bytes here).found b.0 (invalid_ok begin (signed_at input a.0.1 None) b.0 b.1) in
    let c = bind_ok (or_invalid begin (closing_at input b.0.1 number)) (to_end a.0.0 b.0.0) y b.2 in
    let close = closing_found input b.0.1 number c.0 bytes (invalid_ok begin (closing_at input b.0.1 number) c.0 c.1) in
    let same : ((a.0.0, b.0.0), c.0) ≡ y = ok_is ((a.0.0, b.0.0), c.0) y c.2 in
    let first = stands Spells input place a.0.0 a.0.1 reference in
    let second = stands (SpellsSigned None) input a.0.1 b.0.0 b.0.1 count in
    let third = stands (SpellsOnly (closing number)) input b.0.1 tt c.0 close in
    subst (λ (z : (X × ℤ) × ℕ). Listed Spells number input place z.0 z.1) same (record {
      inside = reference.octets ++ count.octets;
      back = close.octets;
      stands = Stands-then input place (reference.octets ++ count.octets) b.0.1 close.octets c.0 (Stands-then input place reference.octets a.0.1 count.octets b.0.1 first second) third;
      spelled = record { reference_octets = reference.octets; count_octets = count.octets; parts = refl; reference = reference.spelled; count = count.spelled };
      closed = close.spelled;
    })

pub list_again : {X : Type 0} (Spells : List ℕ → X → Type 0) (read : List ℕ → ℕ → Result (X × ℕ) TagFault) → ((input : List ℕ) (place : ℕ) → IsBytes input → place ≤ length input → Finds Spells input place (read input place))
    → (input : List ℕ) (begin place number : ℕ) (x : X × ℤ) (end : ℕ) → IsBytes input → place ≤ length input → Listed Spells number input place x end → list_at read input begin place number ≡ Ok (x, end)
list_again {X = X} Spells read finds input begin place number x end bytes le h =
    let s = h.spelled in
    let front = Stands-front input place h.inside h.back end h.stands in
    let close = Stands-back input place h.inside h.back end h.stands in
    let inside : Stands input place (s.reference_octets ++ s.count_octets) (place + length h.inside) = subst (λ (o : List ℕ). Stands input place o (place + length h.inside)) s.parts front in
    let first = Stands-front input place s.reference_octets s.count_octets (place + length h.inside) inside in
    let second = Stands-back input place s.reference_octets s.count_octets (place + length h.inside) inside in
    let count_at = place + length s.reference_octets in
    let here : count_at ≤ length input = Stands-within input place s.reference_octets count_at le first in
    let e1 = (finds input place bytes le).only x.0 count_at (spelled_at Spells input place x.0 count_at s.reference_octets s.reference first) in
    let e2 = (signed_finds input count_at bytes here).only x.1 (place + length h.inside) (spelled_at (SpellsSigned None) input count_at x.1 (place + length h.inside) s.count_octets s.count second) in
    let e3 = closing_again input (place + length h.inside) number end bytes (spelled_at (SpellsOnly (closing number)) input (place + length h.inside) tt end h.back h.closed close) in
    rw (e1, e2, e3) refl

-- every fault is that of the list's first place
pub list_err : {X : Type 0} (read : List ℕ → ℕ → Result (X × ℕ) TagFault) (input : List ℕ) (begin place number : ℕ) (fault : Malformed) → list_at read input begin place number ≡ Err fault → fault ≡ invalid_tag begin
list_err read input begin place number fault e =
    elim (bind_err (or_invalid begin (read input place)) (after_reference input begin number) fault e) [
      | inl h ↦ (invalid_err begin (read input place) fault h).0
      | inr a ↦
          elim (bind_err (or_invalid begin (signed_at input a.0.1 None)) (after_count input begin number a.0.0) fault a.2) [
            | inl h ↦ (invalid_err begin (signed_at input a.0.1 None) fault h).0
            | inr b ↦
                elim (bind_err (or_invalid begin (closing_at input b.0.1 number)) (to_end a.0.0 b.0.0) fault b.2) [
                  | inl h ↦ (invalid_err begin (closing_at input b.0.1 number) fault h).0
                  | inr c ↦ absurd (let bad = c.2 in cc)
                ]
          ]
    ]
