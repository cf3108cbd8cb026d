-- Time stamps: what is read is spelled so, and what is spelled so is read.
use Rattle.std.proofs.Common.{◌≡◌, ℕ, ◌+◌, ◌≤◌, cond, eqb, Some, List, ◌++◌, length, Result, Ok, Err, refl, sym, ap, subst, ◌∙◌, inl, inr}
use Rattle.bac_values.specs.declared.stamp.Stamp.{Stamp}
use Rattle.bac_tags.specs.declared.fault.TagFault.{TagFault}
use Rattle.bac_tags.specs.declared.fault.TagFault.TheVariants.{WrongTag}
use Rattle.bac_tags.specs.declared.tag.Tag.{Tag}
use Rattle.bac_tags.specs.Elements.{element_tag, SpellsElement}
use Rattle.bac_tags.specs.Contents.{IsUnsigned}
use Rattle.bac_tags.specs.Stamps.{SpellsStamp}
use Rattle.bac_tags.specs.ReadingSteps.{◌>>=◌, valued, content_at, tag_at, unsigned_at, stamp_at}
use Rattle.bac_tags.proofs.Steps.{bind_ok, chosen, ok_is}
use Rattle.bac_tags.proofs.Standing.{IsBytes, Stands, Stands-front}
use Rattle.bac_tags.proofs.Answered.{Spelled}
use Rattle.bac_tags.proofs.TagLaws.{tag_again}
use Rattle.bac_tags.specs.EnclosingTags.{opening, SpellsEnclosed, IsOctets}
use Rattle.bac_tags.specs.EnclosingSteps.{enclosed_at}
use Rattle.bac_tags.proofs.ElementReaders.{Reader, element_some, whole, unsigned_reader, octets_reader, stamp_reader, enclosed_reader}
use Rattle.event_services.specs.declared.time_stamp.AckStamp.{AckStamp}
use Rattle.event_services.specs.declared.time_stamp.AckStamp.TheVariants.{Time, Sequence, DateTime}
use Rattle.event_services.specs.TimeStamps.{SpellsTimeStamp}
use Rattle.event_services.specs.TimeStampSteps.{form_at, time_stamp_at}

pub whole_is : (r : Result (List ℕ × ℕ) TagFault) → valued whole r ≡ r
whole_is (Ok x) = refl
whole_is (Err e) = refl

-- the first tag of what stands there
pub element_number : {X : Type 0} (number : ℕ) (type : ℕ) (IsContent : List ℕ → X → Type 0) (input : List ℕ) (place : ℕ) (octets : List ℕ) (x : X) (end : ℕ) → SpellsElement type (Some number) IsContent octets x → Stands input place octets end
    → (t : Tag × ℕ) × (tag_at input place ≡ Ok t) × (t.0.number ≡ number)
element_number number type IsContent input place octets x end s p =
    let tag = element_tag type (Some number) (length s.content) in
    let front = Stands-front input place s.header s.content end (subst (λ (o : List ℕ). Stands input place o end) s.parts p) in
    ((tag, place + length s.header), tag_again input place s.header tag (place + length s.header) s.tagged front, refl)

pub enclosed_number : {X : Type 0} (number : ℕ) (Spells : List ℕ → X → Type 0) (input : List ℕ) (place : ℕ) (octets : List ℕ) (x : X) (end : ℕ) → SpellsEnclosed number Spells octets x → Stands input place octets end
    → (t : Tag × ℕ) × (tag_at input place ≡ Ok t) × (t.0.number ≡ number)
enclosed_number number Spells input place octets x end s p =
    let front = Stands-front input place s.front (s.inside ++ s.back) end (subst (λ (o : List ℕ). Stands input place o end) s.parts p) in
    ((opening number, place + length s.front), tag_again input place s.front (opening number) (place + length s.front) s.opened front, refl)

abbrev time : List ℕ × ℕ → Result (AckStamp × ℕ) TagFault
time x = Ok (Time, x.1)

abbrev sequence : ℕ × ℕ → Result (AckStamp × ℕ) TagFault
sequence x = Ok (Sequence, x.1)

abbrev moment : Stamp × ℕ → Result (AckStamp × ℕ) TagFault
moment x = Ok (DateTime x.0, x.1)

abbrev no_form : ℕ → Result (AckStamp × ℕ) TagFault
no_form place = Err (WrongTag place)

form_found : (number : ℕ) (input : List ℕ) (place : ℕ) (x : AckStamp × ℕ) → IsBytes input → place ≤ length input → form_at number input place ≡ Ok x → Spelled SpellsTimeStamp input place x.0 x.1
form_found number input place x bytes le e =
    let timed = content_at input place 0 (Some 0) 4 4 >>= time in
    let counted = unsigned_at input place (Some 1) >>= sequence in
    let dated = enclosed_at stamp_at 2 input place >>= moment in
    elim (chosen (eqb number 0) timed (cond (eqb number 1) counted (cond (eqb number 2) dated (no_form place))) (Ok x) e) [
      | inl h ↦
          let b = bind_ok (content_at input place 0 (Some 0) 4 4) time x h.1 in
          let s = (octets_reader 0 4 4).found input place b.0 bytes le (whole_is (content_at input place 0 (Some 0) 4 4) ∙ b.1) in
          subst (λ (y : AckStamp × ℕ). Spelled SpellsTimeStamp input place y.0 y.1) (ok_is (Time, b.0.1) x b.2) (record { octets = s.octets; stands = s.stands; spells = (b.0.0, s.spells) })
      | inr h0 ↦
          elim (chosen (eqb number 1) counted (cond (eqb number 2) dated (no_form place)) (Ok x) h0.1) [
            | inl h ↦
                let b = bind_ok (unsigned_at input place (Some 1)) sequence x h.1 in
                let s = (unsigned_reader 1).found input place b.0 bytes le b.1 in
                subst (λ (y : AckStamp × ℕ). Spelled SpellsTimeStamp input place y.0 y.1) (ok_is (Sequence, b.0.1) x b.2) (record { octets = s.octets; stands = s.stands; spells = (b.0.0, s.spells) })
            | inr h1 ↦
                elim (chosen (eqb number 2) dated (no_form place) (Ok x) h1.1) [
                  | inl h ↦
                      let b = bind_ok (enclosed_at stamp_at 2 input place) moment x h.1 in
                      let s = (enclosed_reader SpellsStamp stamp_at 2 stamp_reader).found input place b.0 bytes le b.1 in
                      subst (λ (y : AckStamp × ℕ). Spelled SpellsTimeStamp input place y.0 y.1) (ok_is (DateTime b.0.0, b.0.1) x b.2) (record { octets = s.octets; stands = s.stands; spells = s.spells })
                  | inr h ↦ absurd (let bad = h.1 in cc)
                ]
          ]
    ]

abbrev after_tag : List ℕ → ℕ → Tag × ℕ → Result (AckStamp × ℕ) TagFault
after_tag input place tag = form_at tag.0.number input place

time_stamp_found : (input : List ℕ) (place : ℕ) (x : AckStamp × ℕ) → IsBytes input → place ≤ length input → time_stamp_at input place ≡ Ok x → Spelled SpellsTimeStamp input place x.0 x.1
unfolding time_stamp_at
time_stamp_found input place x bytes le e =
    let a = bind_ok (tag_at input place) (after_tag input place) x e in
    form_found a.0.0.number input place x bytes le a.2

by_number : (number : ℕ) (input : List ℕ) (place : ℕ) (y : Result (AckStamp × ℕ) TagFault) (t : Tag × ℕ) → tag_at input place ≡ Ok t → t.0.number ≡ number → form_at number input place ≡ y → time_stamp_at input place ≡ y
unfolding time_stamp_at
by_number number input place y t e n h = ap (λ (r : Result (Tag × ℕ) TagFault). r >>= after_tag input place) e ∙ ap (λ (k : ℕ). form_at k input place) n ∙ h

time_stamp_again : (input : List ℕ) (place : ℕ) (octets : List ℕ) (x : AckStamp) (end : ℕ) → place ≤ length input → SpellsTimeStamp octets x → Stands input place octets end → time_stamp_at input place ≡ Ok (x, end)
time_stamp_again input place octets Time end le s p =
    let t = element_number 0 0 (IsOctets 4 4) input place octets s.0 end s.1 p in
    by_number 0 input place (Ok (Time, end)) t.0 t.1 t.2 (ap (λ (r : Result (List ℕ × ℕ) TagFault). r >>= time) (sym (whole_is (content_at input place 0 (Some 0) 4 4)) ∙ (octets_reader 0 4 4).again input place octets s.0 end le s.1 p))
time_stamp_again input place octets Sequence end le s p =
    let t = element_number 1 2 IsUnsigned input place octets s.0 end s.1 p in
    by_number 1 input place (Ok (Sequence, end)) t.0 t.1 t.2 (ap (λ (r : Result (ℕ × ℕ) TagFault). r >>= sequence) ((unsigned_reader 1).again input place octets s.0 end le s.1 p))
time_stamp_again input place octets (DateTime stamp) end le s p =
    let t = enclosed_number 2 SpellsStamp input place octets stamp end s p in
    by_number 2 input place (Ok (DateTime stamp, end)) t.0 t.1 t.2 (ap (λ (r : Result (Stamp × ℕ) TagFault). r >>= moment) ((enclosed_reader SpellsStamp stamp_at 2 stamp_reader).again input place octets stamp end le s p))

time_stamp_some : (octets : List ℕ) (x : AckStamp) → SpellsTimeStamp octets x → 1 ≤ length octets
time_stamp_some octets Time s = element_some 0 (Some 0) (IsOctets 4 4) octets s.0 s.1
time_stamp_some octets Sequence s = element_some 2 (Some 1) IsUnsigned octets s.0 s.1
time_stamp_some octets (DateTime stamp) s = (enclosed_reader SpellsStamp stamp_at 2 stamp_reader).some octets stamp s

pub time_stamp_reader : Reader SpellsTimeStamp time_stamp_at
time_stamp_reader = record {
  found = λ input place x bytes le e. time_stamp_found input place x bytes le e;
  again = λ input place octets x end le s p. time_stamp_again input place octets x end le s p;
  some = λ octets x s. time_stamp_some octets x s;
}

pub stamp_of_reader : (number : ℕ) → Reader (SpellsEnclosed number SpellsTimeStamp) (enclosed_at time_stamp_at number)
stamp_of_reader number = enclosed_reader SpellsTimeStamp time_stamp_at number time_stamp_reader
