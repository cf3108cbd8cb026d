-- What the reader of GetEventInformation promises.
use Rattle.std.proofs.Common.{◌≡◌, ℕ, ◌<◌, ◌≤◌, Option, Some, None, List, [], ◌∷◌, ◌++◌, length, drop, Result, Ok, Err, refl, sym, ap, subst, ◌∙◌, arith, inl, inr}
use Rattle.std.specs.Prelude.{◌↔◌, ◌⊎◌, IfOk, IfErr}
use Rattle.std.proofs.lemmas.List.{length-append, append-nil}
use Rattle.bac_values.specs.Identifier.{ObjectIdData}
use Rattle.bac_tags.specs.declared.fault.TagFault.{TagFault}
use Rattle.bac_tags.specs.Places.{IsSpelledAt}
use Rattle.bac_tags.specs.Elements.{HasOtherTag}
use Rattle.bac_tags.specs.Contents.{IsObject, SpellsObject}
use Rattle.bac_tags.specs.ReadingSteps.{identifier_of, object_at, ◌>>=◌}
use Rattle.bac_tags.proofs.Standing.{IsBytes, Stands-within}
use Rattle.bac_tags.proofs.Readers.{reads}
use Rattle.bac_tags.proofs.Numbers.{identifier_values}
use Rattle.bac_tags.specs.declared.malformed.Malformed.{Malformed}
use Rattle.bac_tags.specs.Refusals.{invalid_tag, too_many_arguments}
use Rattle.bac_tags.specs.Parameters.{IsOptionalAt}
use Rattle.bac_tags.specs.ParameterReadingSteps.{optional, nothing_follows}
use Rattle.bac_tags.proofs.Reasons.{four_seven}
use Rattle.bac_tags.proofs.Steps.{bind_ok, bind_err, ok_is}
use Rattle.bac_tags.proofs.ElementReaders.{spelled_from, element_some, tag_some}
use Rattle.bac_tags.proofs.RequiredReaders.{ReadsOptional, reads_optional}
use Rattle.bac_tags.proofs.Sequences.{optional_err, nothing_ok, nothing_err, nothing_more, nothing_none}
use Rattle.event_services.specs.Information.{SpellsInformationRequest, HasMoreThanObject, HasNoObject}
use Rattle.event_services.specs.InformationSteps.{information_request_of}
use Rattle.event_services.proofs.AckLaws.{all_there, more_left, split, some_left}

abbrev Spells : List ℕ → ObjectIdData → Type 0
Spells = SpellsObject (Some 0)

abbrev object : List ℕ → Result (Option ObjectIdData × ℕ) Malformed
object input = optional input 0 (object_at input 0 (Some 0))

read_within : (input : List ℕ) (r : Result (ObjectIdData × ℕ) TagFault) → IfOk r (λ x. IsSpelledAt Spells input 0 x.0 x.1) → IfOk r (λ x. (0 < x.1) × (x.1 ≤ length input))
read_within input (Ok x) s =
    let p = spelled_from Spells input 0 x.0 x.1 s in
    (omega (arith, p.stands.ends, element_some 12 (Some 0) IsObject p.octets x.0 p.spells), Stands-within input 0 p.octets x.1 (omega arith) p.stands)
read_within input (Err e) s = tt

object_reads : (input : List ℕ) → IsBytes input → ReadsOptional Spells 0 input 0 (object input)
unfolding object_at
object_reads input bytes =
    let r = reads 12 (Some 0) 4 4 identifier_of IsObject identifier_values input 0 (object_at input 0 (Some 0)) bytes (omega arith) refl in
    reads_optional Spells 12 0 input 0 (object_at input 0 (Some 0)) (object input) (omega arith) r.found r.only (read_within input (object_at input 0 (Some 0)) r.found) r.wrong_tag refl

abbrev after : List ℕ → Option ObjectIdData × ℕ → Result (Option ObjectIdData) Malformed
after input found = nothing_follows input found.1 >>= λ nothing. Ok found.0

abbrev kept : Option ObjectIdData → Unit {0} → Result (Option ObjectIdData) Malformed
kept found nothing = Ok found

pub record Asks (input : List ℕ) (answer : Result (Option ObjectIdData) Malformed) : Type 0 where
  pub found : IfOk answer (λ object. SpellsInformationRequest input object)
  pub only : (object : Option ObjectIdData) → SpellsInformationRequest input object → answer ≡ Ok object
  pub too_many : (place : ℕ) → (answer ≡ Err (too_many_arguments place)) ↔ HasMoreThanObject input place
  pub invalid : (place : ℕ) → (answer ≡ Err (invalid_tag place)) ↔ HasNoObject input place
  pub refusals : IfErr answer (λ why. (why ≡ too_many_arguments why.at) ⊎ (why ≡ invalid_tag why.at))

-- what an answered optional parameter is
at_ok : (input : List ℕ) (r : Result (Option ObjectIdData × ℕ) Malformed) (x : Option ObjectIdData × ℕ) → r ≡ Ok x → IfOk r (λ x. IsOptionalAt Spells 0 input 0 x.0 x.1) → IsOptionalAt Spells 0 input 0 x.0 x.1
at_ok input r x e h = subst (λ (r : Result (Option ObjectIdData × ℕ) Malformed). IfOk r (λ x. IsOptionalAt Spells 0 input 0 x.0 x.1)) e h

whole_is : (input : List ℕ) (found : Option ObjectIdData) (end : ℕ) → length input ≤ end → IsOptionalAt Spells 0 input 0 found end → SpellsInformationRequest input found
whole_is input None end past s = nothing input (omega (arith, s.0))
  where
    nothing : (xs : List ℕ) → length xs ≤ 0 → xs ≡ []
    nothing [] le = refl
    nothing (x ∷ xs) le = absurd (omega arith)
whole_is input (Some id) end past s =
    let p = spelled_from Spells input 0 id end s in
    subst (λ (o : List ℕ). SpellsObject (Some 0) o id) (sym (all_there input p.octets end past p.stands)) p.spells

ask_found : (input : List ℕ) (x : Option ObjectIdData) → IsBytes input → (object input >>= after input) ≡ Ok x → SpellsInformationRequest input x
ask_found input x bytes e =
    let b = bind_ok (object input) (after input) x e in
    let n = bind_ok (nothing_follows input b.0.1) (kept b.0.0) x b.2 in
    subst (SpellsInformationRequest input) (ok_is b.0.0 x n.2) (whole_is input b.0.0 b.0.1 (nothing_ok input b.0.1 n.0 n.1) (at_ok input (object input) b.0 b.1 (object_reads input bytes).found))

spelled_whole : (input front more : List ℕ) (id : ObjectIdData) → input ≡ front ++ more → SpellsObject (Some 0) front id → IsSpelledAt Spells input 0 id (length front)
spelled_whole input front more id e s = record { octets = front; rest = more; spelled = s; there = e; ends = omega arith }

ask_only : (input : List ℕ) (x : Option ObjectIdData) → IsBytes input → SpellsInformationRequest input x → (object input >>= after input) ≡ Ok x
ask_only input None bytes s =
    let none : 0 ≡ length input = omega (arith, ap length s) in
    rw ((object_reads input bytes).only None 0 (refl, inl none), nothing_none input 0 (omega arith)) refl
ask_only input (Some id) bytes s =
    rw ((object_reads input bytes).only (Some id) (length input) (spelled_whole input input [] id (sym (append-nil input)) s), nothing_none input (length input) (omega arith)) refl

-- why it is refused
pub record AskRefused (input : List ℕ) (e : Malformed) : Type 0 where
  pub why : ((object input ≡ Err e) × (e ≡ invalid_tag 0)) ⊎ ((found : Option ObjectIdData) × (end : ℕ) × IsOptionalAt Spells 0 input 0 found end × (end < length input) × (e ≡ too_many_arguments end))

ask_refused : (input : List ℕ) (e : Malformed) → IsBytes input → (object input >>= after input) ≡ Err e → AskRefused input e
ask_refused input e bytes h = elim (bind_err (object input) (after input) e h) [
  | inl a ↦ record { why = inl (a, (optional_err input 0 (object_at input 0 (Some 0)) e a).1) }
  | inr a ↦
      elim (bind_err (nothing_follows input a.0.1) (kept a.0.0) e a.2) [
        | inl n ↦ let m = nothing_err input a.0.1 e n in record { why = inr (a.0.0, a.0.1, at_ok input (object input) a.0 a.1 (object_reads input bytes).found, m.0, m.1) }
        | inr n ↦ absurd (let bad = n.2 in cc)
      ]
]

more_than : (input : List ℕ) (found : Option ObjectIdData) (end : ℕ) → IsOptionalAt Spells 0 input 0 found end → end < length input → HasMoreThanObject input end
more_than input None end s lt = elim s.1 [ inl none ↦ absurd (omega (arith, s.0)) | inr other ↦ inl (s.0, other) ]
more_than input (Some id) end s lt =
    let p = spelled_from Spells input 0 id end s in
    let w = split input p.octets end p.stands in
    inr (p.octets, drop end input, id, w.0, p.spells, some_left input end lt, w.1)

other_inside : (input : List ℕ) → HasOtherTag 0 (Some 0) input → 0 < length input
other_inside input h = omega (arith, ap length h.parts, length-append h.header h.rest, tag_some h.header h.tag h.tagged)

too_many_back : (input : List ℕ) (place : ℕ) → IsBytes input → HasMoreThanObject input place → (object input >>= after input) ≡ Err (too_many_arguments place)
too_many_back input place bytes (inl m) = rw ((object_reads input bytes).only None 0 (refl, inr m.1), nothing_more input 0 (other_inside input m.1), m.0) refl
too_many_back input place bytes (inr m) =
    rw ((object_reads input bytes).only (Some m.2) (length m.0) (spelled_whole input m.0 m.1 m.2 m.3 m.4), nothing_more input (length m.0) (more_left m.0 m.1 input m.3 m.5), m.6) refl

pub asks : (input : List ℕ) (answer : Result (Option ObjectIdData) Malformed) → IsBytes input → answer ≡ information_request_of input → Asks input answer
unfolding information_request_of
asks input answer bytes e =
    record {
      found = found answer e;
      only = λ x s. e ∙ ask_only input x bytes s;
      too_many = λ place. (
        λ h. elim (ask_refused input (too_many_arguments place) bytes (sym e ∙ h)).why [
          | inl a ↦ absurd (four_seven 0 place (sym a.1))
          | inr a ↦ let at : place ≡ a.1 = ap (λ (m : Malformed). m.at) a.4 in subst (HasMoreThanObject input) (sym at) (more_than input a.0 a.1 a.2 a.3)
        ],
        λ m. e ∙ too_many_back input place bytes m,
      );
      invalid = λ place. (
        λ h. elim (ask_refused input (invalid_tag place) bytes (sym e ∙ h)).why [
          | inl a ↦ let no = (object_reads input bytes).invalid.0 (a.0 ∙ ap Err a.1) in (ap (λ (m : Malformed). m.at) a.1, no.0, no.1)
          | inr a ↦ absurd (four_seven place a.1 a.4)
        ],
        λ v. e ∙ ap (λ (r : Result (Option ObjectIdData × ℕ) Malformed). r >>= after input) ((object_reads input bytes).invalid.1 (v.1, v.2)) ∙ ap (λ (p : ℕ). Err (invalid_tag p)) (sym v.0),
      );
      refusals = refusals answer e;
    }
  where
    found : (r : Result (Option ObjectIdData) Malformed) → r ≡ (object input >>= after input) → IfOk r (λ object. SpellsInformationRequest input object)
    found (Ok x) same = ask_found input x bytes (sym same)
    found (Err d) same = tt

    reason : (why : Malformed) → AskRefused input why → (why ≡ too_many_arguments why.at) ⊎ (why ≡ invalid_tag why.at)
    reason why r = elim r.why [
      | inl a ↦ inr (a.1 ∙ ap invalid_tag (sym (ap (λ (m : Malformed). m.at) a.1)))
      | inr a ↦ inl (a.4 ∙ ap too_many_arguments (sym (ap (λ (m : Malformed). m.at) a.4)))
    ]

    refusals : (r : Result (Option ObjectIdData) Malformed) → r ≡ (object input >>= after input) → IfErr r (λ why. (why ≡ too_many_arguments why.at) ⊎ (why ≡ invalid_tag why.at))
    refusals (Ok x) same = tt
    refusals (Err d) same = reason d (ask_refused input d bytes (sym same))
