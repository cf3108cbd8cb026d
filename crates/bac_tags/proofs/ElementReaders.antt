-- Readers of elements that are spelled in a context, each with its grammar: what is read is spelled so, and what is spelled so is read.
use Rattle.std.proofs.Common.{◌≡◌, ℕ, ◌+◌, ◌≤◌, Option, Some, None, List, ◌++◌, length, drop, Result, Ok, refl, sym, ap, subst, arith}
use Rattle.std.specs.Prelude.{IfOk}
use Rattle.std.proofs.lemmas.List.{length-append}
use Rattle.bac_tags.specs.declared.fault.TagFault.{TagFault}
use Rattle.bac_tags.specs.declared.tag.Tag.{Tag}
use Rattle.bac_tags.specs.Places.{IsSpelledAt}
use Rattle.bac_tags.specs.Tags.{SpellsTag}
use Rattle.bac_tags.specs.Elements.{SpellsElement}
use Rattle.bac_tags.specs.Contents.{IsUnsigned, IsSigned, IsObject, IsBoolean, IsBits, SpellsUnsigned, SpellsSigned, SpellsObject, SpellsBoolean, SpellsBits}
use Rattle.bac_tags.specs.Stamps.{SpellsStamp}
use Rattle.bac_tags.specs.ReadingSteps.{◌>>=◌, valued, content_at, unsigned_of, unsigned_at, signed_of, signed_at, identifier_of, object_at, boolean_of, boolean_at, bits_of, bits_at, stamp_at}
use Rattle.bac_tags.proofs.Steps.{bind_ok, ok_is}
use Rattle.bac_tags.proofs.Standing.{IsBytes, Stands, Stands-from, Stands-then, Stands-front, Stands-back, Stands-within}
use Rattle.bac_tags.proofs.Answered.{Spelled}
use Rattle.bac_tags.proofs.Readers.{Values, reads, reads_form, value_again, form_again}
use Rattle.bac_tags.proofs.Numbers.{unsigned_values, signed_values, identifier_values, bits_forms}
use Rattle.bac_tags.proofs.Booleans.{boolean_forms}
use Rattle.bac_tags.proofs.StampLaws.{reads_stamp, stamp_again}
use Rattle.bac_tags.specs.EnclosingTags.{opening, closing, SpellsEnclosed, IsOctets, SpellsOctets}
use Rattle.bac_tags.specs.EnclosingSteps.{opening_at, closing_at, enclosed_at}
use Rattle.bac_tags.proofs.TagReaders.{StandsTag, is_opening_tag, is_closing_tag, tests_opening, tests_closing, one_tag_found, one_tag_again}

pub record Reader {X : Type 0} (Spells : List ℕ → X → Type 0) (read : List ℕ → ℕ → Result (X × ℕ) TagFault) : Type 0 where
  pub found : (input : List ℕ) (place : ℕ) (x : X × ℕ) → IsBytes input → place ≤ length input → read input place ≡ Ok x → Spelled Spells input place x.0 x.1
  pub again : (input : List ℕ) (place : ℕ) (octets : List ℕ) (x : X) (end : ℕ) → place ≤ length input → Spells octets x → Stands input place octets end → read input place ≡ Ok (x, end)
  pub some : (octets : List ℕ) (x : X) → Spells octets x → 1 ≤ length octets

pub tag_some : (octets : List ℕ) (tag : Tag) → SpellsTag octets tag → 1 ≤ length octets
tag_some octets tag s = omega (arith, ap length s.parts)

pub element_some : {X : Type 0} (type : ℕ) (context : Option ℕ) (IsContent : List ℕ → X → Type 0) (octets : List ℕ) (x : X) → SpellsElement type context IsContent octets x → 1 ≤ length octets
element_some type context IsContent octets x s = omega (arith, ap length s.parts, ap length s.tagged.parts, length-append s.header s.content)

pub spelled_from : {X : Type 0} (Spells : List ℕ → X → Type 0) (input : List ℕ) (place : ℕ) (x : X) (end : ℕ) → IsSpelledAt Spells input place x end → Spelled Spells input place x end
spelled_from Spells input place x end s =
    record { octets = s.octets; stands = subst (Stands input place s.octets) (sym s.ends) (Stands-from input place s.octets s.rest s.there); spells = s.spelled }

pub spelled_to : {X : Type 0} (Spells : List ℕ → X → Type 0) (input : List ℕ) (place : ℕ) (x : X) (end : ℕ) → Spelled Spells input place x end → IsSpelledAt Spells input place x end
spelled_to Spells input place x end s = record { octets = s.octets; rest = drop end input; spelled = s.spells; there = s.stands.parts; ends = s.stands.ends }

pub read_found : {X : Type 0} (Spells : List ℕ → X → Type 0) (input : List ℕ) (place : ℕ) (r : Result (X × ℕ) TagFault) (x : X × ℕ) → r ≡ Ok x → IfOk r (λ x. IsSpelledAt Spells input place x.0 x.1) → Spelled Spells input place x.0 x.1
read_found {X = X} Spells input place r x e h = spelled_from Spells input place x.0 x.1 (subst (λ (r : Result (X × ℕ) TagFault). IfOk r (λ x. IsSpelledAt Spells input place x.0 x.1)) e h)

valued_reader : {X : Type 0} (type : ℕ) (context : Option ℕ) (least most : ℕ) (value : List ℕ → X) (IsContent : List ℕ → X → Type 0) → Values least most value IsContent
    → Reader (SpellsElement type context IsContent) (λ input place. valued value (content_at input place type context least most))
valued_reader type context least most value IsContent v =
    record {
      found = λ input place x bytes le e. let read = valued value (content_at input place type context least most) in
          read_found (SpellsElement type context IsContent) input place read x e (reads type context least most value IsContent v input place read bytes le refl).found;
      again = λ input place octets x end le s p. value_again type context least most value IsContent v input place le octets x end s p;
      some = λ octets x s. element_some type context IsContent octets x s;
    }

pub unsigned_reader : (number : ℕ) → Reader (SpellsUnsigned (Some number)) (λ input place. unsigned_at input place (Some number))
unfolding unsigned_at
unsigned_reader number = valued_reader 2 (Some number) 1 4 unsigned_of IsUnsigned unsigned_values

pub object_reader : (number : ℕ) → Reader (SpellsObject (Some number)) (λ input place. object_at input place (Some number))
unfolding object_at
object_reader number = valued_reader 12 (Some number) 4 4 identifier_of IsObject identifier_values

pub signed_reader : (number : ℕ) → Reader (SpellsSigned (Some number)) (λ input place. signed_at input place (Some number))
unfolding signed_at
signed_reader number = valued_reader 3 (Some number) 1 4 signed_of IsSigned signed_values

pub bits_reader : (number : ℕ) → Reader (SpellsBits (Some number)) (λ input place. bits_at input place (Some number))
unfolding bits_at
bits_reader number = record {
  found = λ input place x bytes le e. read_found (SpellsBits (Some number)) input place (bits_at input place (Some number)) x e (reads_form 8 (Some number) 1 9 bits_of IsBits bits_forms input place (bits_at input place (Some number)) bytes le refl).found;
  again = λ input place octets x end le s p. form_again 8 (Some number) 1 9 bits_of IsBits bits_forms input place le octets x end s p;
  some = λ octets x s. element_some 8 (Some number) IsBits octets x s;
}

pub boolean_reader : (number : ℕ) → Reader (SpellsBoolean (Some number)) (λ input place. boolean_at input place (Some number))
unfolding boolean_at
boolean_reader number = record {
  found = λ input place x bytes le e. read_found (SpellsBoolean (Some number)) input place (boolean_at input place (Some number)) x e (reads_form 1 (Some number) 1 1 boolean_of IsBoolean boolean_forms input place (boolean_at input place (Some number)) bytes le refl).found;
  again = λ input place octets x end le s p. form_again 1 (Some number) 1 1 boolean_of IsBoolean boolean_forms input place le octets x end s p;
  some = λ octets x s. element_some 1 (Some number) IsBoolean octets x s;
}

-- ---- contents that are looked at no further

abbrev pub whole : List ℕ → List ℕ
whole content = content

octets_values : (least most : ℕ) → Values least most whole (IsOctets least most)
octets_values least most = record { is = λ content bytes right. (right, refl); right = λ content x h. h.0; one = λ content x h. sym h.1 }

pub octets_reader : (number least most : ℕ) → Reader (SpellsOctets number least most) (λ input place. valued whole (content_at input place 0 (Some number) least most))
octets_reader number least most = valued_reader 0 (Some number) least most whole (IsOctets least most) (octets_values least most)

-- ---- stamps

pub stamp_reader : Reader SpellsStamp stamp_at
stamp_reader = record {
  found = λ input place x bytes le e. read_found SpellsStamp input place (stamp_at input place) x e (reads_stamp input place (stamp_at input place) bytes le refl).found;
  again = λ input place octets x end le s p. stamp_again input place le octets x end s p;
  some = λ octets x s. omega (arith, ap length s.parts, length-append s.date_octets s.time_octets, element_some 10 None _ s.date_octets s.date s.dated);
}

-- ---- what stands between tags

pub opening_found : (number : ℕ) (input : List ℕ) (place end : ℕ) → IsBytes input → opening_at input place number ≡ Ok end → StandsTag (opening number) input place end
unfolding opening_at
opening_found number input place end bytes e = one_tag_found (is_opening_tag number) (opening number) (tests_opening number) input place end bytes e

pub opening_again : (number : ℕ) (input : List ℕ) (place : ℕ) (octets : List ℕ) (end : ℕ) → SpellsTag octets (opening number) → Stands input place octets end → opening_at input place number ≡ Ok end
unfolding opening_at
opening_again number input place octets end s p = one_tag_again (is_opening_tag number) (opening number) (tests_opening number) input place octets end s p

pub closing_found : (number : ℕ) (input : List ℕ) (place end : ℕ) → IsBytes input → closing_at input place number ≡ Ok end → StandsTag (closing number) input place end
unfolding closing_at
closing_found number input place end bytes e = one_tag_found (is_closing_tag number) (closing number) (tests_closing number) input place end bytes e

pub closing_again : (number : ℕ) (input : List ℕ) (place : ℕ) (octets : List ℕ) (end : ℕ) → SpellsTag octets (closing number) → Stands input place octets end → closing_at input place number ≡ Ok end
unfolding closing_at
closing_again number input place octets end s p = one_tag_again (is_closing_tag number) (closing number) (tests_closing number) input place octets end s p

abbrev close : {X : Type 0} → ℕ → List ℕ → X × ℕ → Result (X × ℕ) TagFault
close number input x = closing_at input x.1 number >>= λ end. Ok (x.0, end)

abbrev inner : {X : Type 0} → (List ℕ → ℕ → Result (X × ℕ) TagFault) → ℕ → List ℕ → ℕ → Result (X × ℕ) TagFault
inner read number input start = read input start >>= close number input

pub enclosed_reader : {X : Type 0} (Spells : List ℕ → X → Type 0) (read : List ℕ → ℕ → Result (X × ℕ) TagFault) (number : ℕ) → Reader Spells read → Reader (SpellsEnclosed number Spells) (enclosed_at read number)
enclosed_reader {X = X} Spells read number r =
    record {
      found = λ input place x bytes le e.
          let a = bind_ok (opening_at input place number) (inner read number input) x e in
          let front = opening_found number input place a.0 bytes a.1 in
          let in_front : a.0 ≤ length input = Stands-within input place front.octets a.0 le front.stands in
          let b = bind_ok (read input a.0) (close number input) x a.2 in
          let mid = r.found input a.0 b.0 bytes in_front b.1 in
          let d = bind_ok (closing_at input b.0.1 number) (ended b.0.0) x b.2 in
          let back = closing_found number input b.0.1 d.0 bytes d.1 in
          subst (λ (y : X × ℕ). Spelled (SpellsEnclosed number Spells) input place y.0 y.1) (ok_is (b.0.0, d.0) x d.2) (record {
            octets = front.octets ++ (mid.octets ++ back.octets);
            stands = Stands-then input place front.octets a.0 (mid.octets ++ back.octets) d.0 front.stands (Stands-then input a.0 mid.octets b.0.1 back.octets d.0 mid.stands back.stands);
            spells = record { front = front.octets; inside = mid.octets; back = back.octets; parts = refl {a = front.octets ++ (mid.octets ++ back.octets)}; opened = front.tagged; spelled = mid.spells; closed = back.tagged };
          });
      again = λ input place octets x end le s p.
          let q : Stands input place (s.front ++ (s.inside ++ s.back)) end = subst (λ (o : List ℕ). Stands input place o end) s.parts p in
          let front = Stands-front input place s.front (s.inside ++ s.back) end q in
          let rest = Stands-back input place s.front (s.inside ++ s.back) end q in
          let mid = Stands-front input (place + length s.front) s.inside s.back end rest in
          let back = Stands-back input (place + length s.front) s.inside s.back end rest in
          let here : place + length s.front ≤ length input = Stands-within input place s.front (place + length s.front) le front in
          rw (opening_again number input place s.front (place + length s.front) s.opened front, r.again input (place + length s.front) s.inside x (place + length s.front + length s.inside) here s.spelled mid, closing_again number input (place + length s.front + length s.inside) s.back end s.closed back) refl;
      some = λ octets x s. omega (arith, ap length s.parts, length-append s.front (s.inside ++ s.back), tag_some s.front (opening number) s.opened);
    }
  where
    ended : X → ℕ → Result (X × ℕ) TagFault
    ended x end = Ok (x, end)
