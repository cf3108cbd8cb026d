-- Readers of what notifications tell: what is read is spelled so, and what is spelled so is read.
use Rattle.std.proofs.Common.{◌≡◌, ℤ, ℕ, ◌+◌, ◌≤◌, Bool, true, false, cond, eqb, Option, Some, None, List, [], ◌++◌, length, Result, Ok, Err, refl, sym, ap, subst, ◌∙◌, arith, inl, inr}
use Rattle.std.proofs.lemmas.Bool.{eqb-true, cases_Bool}
use Rattle.std.proofs.lemmas.List.{length-append}
use Rattle.bac_values.specs.BitString.{BitsData}
use Rattle.bac_values.specs.Reliabilities.{reliability_of_number}
use Rattle.bac_values.specs.declared.reliability.Reliability.{Reliability as Reliable}
use Rattle.bac_values.specs.declared.status_flags.StatusFlags.{StatusFlags}
use Rattle.bac_values.specs.declared.value.Value.{Value}
use Rattle.bac_tags.specs.declared.fault.TagFault.{TagFault}
use Rattle.bac_tags.specs.declared.fault.TagFault.TheVariants.{WrongTag}
use Rattle.bac_tags.specs.declared.tag.Tag.{Tag}
use Rattle.bac_tags.specs.Elements.{element_tag}
use Rattle.bac_tags.specs.Contents.{IsUnsigned, SpellsSigned, SpellsBits}
use Rattle.bac_tags.specs.Values.{SpellsValue}
use Rattle.bac_tags.specs.ReadingSteps.{◌>>=◌, tag_at, signed_at, bits_at, value_at}
use Rattle.bac_tags.proofs.Steps.{bind_ok, chosen, ok_is}
use Rattle.bac_tags.proofs.Standing.{IsBytes, Stands, Stands-then, Stands-front, Stands-back, Stands-within}
use Rattle.bac_tags.proofs.Answered.{Spelled}
use Rattle.bac_tags.proofs.TagLaws.{tag_again}
use Rattle.bac_tags.specs.EnclosingTags.{opening, closing, SpellsEnclosed}
use Rattle.bac_tags.specs.EnclosingSteps.{is_closing, opening_at, closing_at, enclosed_at}
use Rattle.bac_tags.proofs.ElementReaders.{Reader, tag_some, opening_found, opening_again, closing_found, closing_again, signed_reader, bits_reader, enclosed_reader}
use Rattle.event_services.specs.declared.notification.EventValues.{EventValues}
use Rattle.event_services.specs.declared.notification.EventValues.TheVariants.{Bitstring, State, Command, UnsignedRange, SignedOutOfRange, UnsignedOutOfRange, Characterstring, Reliability}
use Rattle.event_services.specs.Notifications.{state_number}
use Rattle.event_services.specs.NoteReadingSteps.{Reads, both_at, made_at, held_at, number_at, flags_at, text_at, property_state_in, property_state_at, reliability_number_at, present_value, property_value_at, properties_at, bitstring_at, changed_state_at, commanded_at, unsigned_range_at, signed_out_of_range_at, unsigned_out_of_range_at, changed_text_at, reliability_at, told_at, values_at}
use Rattle.event_services.specs.NoteGrammar.{SpellsBoth, SpellsNumber, SpellsReliability, SpellsFlags, SpellsText, SpellsPropertyState, SpellsPresentValue, SpellsPropertyValue, SpellsPropertyList, SpellsTold, SpellsToldOf, SpellsValuesOf}
use Rattle.event_services.proofs.StampReaders.{element_number}
use Rattle.event_services.proofs.NoteReaders.{both_reader, Holds, held_reader, number_reader, reliability_holds, flags_reader, text_reader, value_reader}

-- ---- the state of a property

abbrev said : Bool → ℕ × ℕ → Result ((Bool × ℕ) × ℕ) TagFault
said binary x = Ok ((binary, x.0), x.1)

abbrev no_state : ℕ → Result ((Bool × ℕ) × ℕ) TagFault
no_state place = Err (WrongTag place)

abbrev after_tag : List ℕ → ℕ → Tag × ℕ → Result ((Bool × ℕ) × ℕ) TagFault
after_tag input place tag = property_state_in tag.0.number input place

state_in_found : (number : ℕ) (input : List ℕ) (place : ℕ) (x : (Bool × ℕ) × ℕ) → IsBytes input → place ≤ length input → property_state_in number input place ≡ Ok x → Spelled SpellsPropertyState input place x.0 x.1
state_in_found number input place x bytes le e =
    let one = number_at 1 input place >>= said true in
    let eleven = number_at 11 input place >>= said false in
    elim (chosen (eqb number 1) one (cond (eqb number 11) eleven (no_state place)) (Ok x) e) [
      | inl h ↦
          let b = bind_ok (number_at 1 input place) (said true) x h.1 in
          let s = (number_reader 1).found input place b.0 bytes le b.1 in
          subst (λ (y : (Bool × ℕ) × ℕ). Spelled SpellsPropertyState input place y.0 y.1) (ok_is ((true, b.0.0), b.0.1) x b.2) (record { octets = s.octets; stands = s.stands; spells = s.spells })
      | inr h1 ↦
          elim (chosen (eqb number 11) eleven (no_state place) (Ok x) h1.1) [
            | inl h ↦
                let b = bind_ok (number_at 11 input place) (said false) x h.1 in
                let s = (number_reader 11).found input place b.0 bytes le b.1 in
                subst (λ (y : (Bool × ℕ) × ℕ). Spelled SpellsPropertyState input place y.0 y.1) (ok_is ((false, b.0.0), b.0.1) x b.2) (record { octets = s.octets; stands = s.stands; spells = s.spells })
            | inr h ↦ absurd (let bad = h.1 in cc)
          ]
    ]

state_again : (input : List ℕ) (place : ℕ) (octets : List ℕ) (binary : Bool) (number end : ℕ) → place ≤ length input → SpellsNumber (state_number binary) octets number → Stands input place octets end → property_state_at input place ≡ Ok ((binary, number), end)
unfolding property_state_at
state_again input place octets true number end le s p =
    let t = element_number 1 2 IsUnsigned input place octets number end s p in
    ap (λ (r : Result (Tag × ℕ) TagFault). r >>= after_tag input place) t.1 ∙ ap (λ (k : ℕ). property_state_in k input place) t.2 ∙ ap (λ (r : Result (ℕ × ℕ) TagFault). r >>= said true) ((number_reader 1).again input place octets number end le s p)
state_again input place octets false number end le s p =
    let t = element_number 11 2 IsUnsigned input place octets number end s p in
    ap (λ (r : Result (Tag × ℕ) TagFault). r >>= after_tag input place) t.1 ∙ ap (λ (k : ℕ). property_state_in k input place) t.2 ∙ ap (λ (r : Result (ℕ × ℕ) TagFault). r >>= said false) ((number_reader 11).again input place octets number end le s p)

state_found : (input : List ℕ) (place : ℕ) (x : (Bool × ℕ) × ℕ) → IsBytes input → place ≤ length input → property_state_at input place ≡ Ok x → Spelled SpellsPropertyState input place x.0 x.1
unfolding property_state_at
state_found input place x bytes le e = let a = bind_ok (tag_at input place) (after_tag input place) x e in state_in_found a.0.0.number input place x bytes le a.2

pub property_state_reader : Reader SpellsPropertyState property_state_at
property_state_reader = record {
  found = λ input place x bytes le e. state_found input place x bytes le e;
  again = λ input place octets x end le s p. state_again input place octets x.0 x.1 end le s p;
  some = λ octets x s. (number_reader (state_number x.0)).some octets x.1 s;
}

-- ---- the value of a property

pub reliability_reader : (number : ℕ) → Reader (SpellsReliability number) (reliability_number_at number)
unfolding reliability_number_at
reliability_reader number = held_reader (SpellsNumber number) (number_at number) reliability_of_number (SpellsReliability number) (number_reader number) (reliability_holds number)

present_found : (n : ℕ) (x : Unit {0}) → present_value n ≡ Some x → n ≡ 85
present_found n x e = elim (cases_Bool (eqb n 85)) [
  | inl holds ↦ eqb-true n 85 holds
  | inr not ↦ absurd (let h = rw not at e in cc)
]

pub present_holds : Holds (SpellsNumber 0) present_value SpellsPresentValue
present_holds = record { to = λ octets x y s e. subst (SpellsNumber 0 octets) (present_found x y e) s; from = λ octets y s. (85, s, refl) }

abbrev made : {X Y : Type 0} → (X → Y) → X × ℕ → Result (Y × ℕ) TagFault
made make x = Ok (make x.0, x.1)

made_found : {X Y : Type 0} (Spells : List ℕ → X → Type 0) (read : Reads X) → Reader Spells read → (make : X → Y) (Made : List ℕ → Y → Type 0) → ((octets : List ℕ) (x : X) → Spells octets x → Made octets (make x)) → (input : List ℕ) (place : ℕ) (z : Y × ℕ)
    → IsBytes input → place ≤ length input → made_at make read input place ≡ Ok z → Spelled Made input place z.0 z.1
made_found {Y = Y} Spells read r make Made to input place z bytes le e =
    let a = bind_ok (read input place) (made make) z e in
    let s = r.found input place a.0 bytes le a.1 in
    subst (λ (y : Y × ℕ). Spelled Made input place y.0 y.1) (ok_is (make a.0.0, a.0.1) z a.2) (record { octets = s.octets; stands = s.stands; spells = to s.octets a.0.0 s.spells })

made_again : {X Y : Type 0} (Spells : List ℕ → X → Type 0) (read : Reads X) → Reader Spells read → (make : X → Y) (input : List ℕ) (place : ℕ) (octets : List ℕ) (x : X) (end : ℕ) → place ≤ length input → Spells octets x → Stands input place octets end
    → made_at make read input place ≡ Ok (make x, end)
made_again Spells read r make input place octets x end le s p = rw (r.again input place octets x end le s p) refl

abbrev second : Unit {0} × Value → Value
second x = x.1

abbrev Pair : List ℕ → Unit {0} × Value → Type 0
Pair = SpellsBoth SpellsPresentValue (SpellsEnclosed 2 SpellsValue)

abbrev pair_at : Reads (Unit {0} × Value)
pair_at = both_at (held_at present_value (number_at 0)) (enclosed_at value_at 2)

pair_reader : Reader Pair pair_at
pair_reader = both_reader SpellsPresentValue (SpellsEnclosed 2 SpellsValue) (held_at present_value (number_at 0)) (enclosed_at value_at 2) (held_reader (SpellsNumber 0) (number_at 0) present_value SpellsPresentValue (number_reader 0) present_holds) (enclosed_reader SpellsValue value_at 2 value_reader)

pub property_value_reader : Reader SpellsPropertyValue property_value_at
unfolding property_value_at
property_value_reader = record {
  found = λ input place z bytes le e. made_found Pair pair_at pair_reader second SpellsPropertyValue (λ octets x s. s) input place z bytes le e;
  again = λ input place octets value end le s p. made_again Pair pair_at pair_reader second input place octets (tt, value) end le s p;
  some = λ octets value s. pair_reader.some octets (tt, value) s;
}

-- ---- the list of properties

abbrev ended : {Y : Type 0} → Y → ℕ → Result (Y × ℕ) TagFault
ended y end = Ok (y, end)

abbrev one_property : List ℕ → Value × ℕ → Result (Option Value × ℕ) TagFault
one_property input x = closing_at input x.1 2 >>= ended (Some x.0)

abbrev listed : List ℕ → ℕ → Bool → Result (Option Value × ℕ) TagFault
listed input start closes = cond closes (closing_at input start 2 >>= ended None) (property_value_at input start >>= one_property input)

abbrev by_tag : List ℕ → ℕ → Tag × ℕ → Result (Option Value × ℕ) TagFault
by_tag input start tag = listed input start (is_closing tag.0.shape)

abbrev from_start : List ℕ → ℕ → Result (Option Value × ℕ) TagFault
from_start input start = tag_at input start >>= by_tag input start

properties_found : (input : List ℕ) (place : ℕ) (z : Option Value × ℕ) → IsBytes input → place ≤ length input → properties_at input place ≡ Ok z → Spelled (SpellsEnclosed 2 SpellsPropertyList) input place z.0 z.1
unfolding properties_at
properties_found input place z bytes le e =
    let a = bind_ok (opening_at input place 2) (from_start input) z e in
    let front = opening_found 2 input place a.0 bytes a.1 in
    let inside : a.0 ≤ length input = Stands-within input place front.octets a.0 le front.stands in
    let t = bind_ok (tag_at input a.0) (by_tag input a.0) z a.2 in
    elim (chosen (is_closing t.0.0.shape) (closing_at input a.0 2 >>= ended None) (property_value_at input a.0 >>= one_property input) (Ok z) t.2) [
      | inl h ↦
          let b = bind_ok (closing_at input a.0 2) (ended None) z h.1 in
          let back = closing_found 2 input a.0 b.0 bytes b.1 in
          subst (λ (y : Option Value × ℕ). Spelled (SpellsEnclosed 2 SpellsPropertyList) input place y.0 y.1) (ok_is (None, b.0) z b.2) (record {
            octets = front.octets ++ back.octets;
            stands = Stands-then input place front.octets a.0 back.octets b.0 front.stands back.stands;
            spells = record { front = front.octets; inside = []; back = back.octets; parts = refl {a = front.octets ++ back.octets}; opened = front.tagged; spelled = refl; closed = back.tagged };
          })
      | inr h ↦
          let v = bind_ok (property_value_at input a.0) (one_property input) z h.1 in
          let mid = property_value_reader.found input a.0 v.0 bytes inside v.1 in
          let b = bind_ok (closing_at input v.0.1 2) (ended (Some v.0.0)) z v.2 in
          let back = closing_found 2 input v.0.1 b.0 bytes b.1 in
          subst (λ (y : Option Value × ℕ). Spelled (SpellsEnclosed 2 SpellsPropertyList) input place y.0 y.1) (ok_is (Some v.0.0, b.0) z b.2) (record {
            octets = front.octets ++ (mid.octets ++ back.octets);
            stands = Stands-then input place front.octets a.0 (mid.octets ++ back.octets) b.0 front.stands (Stands-then input a.0 mid.octets v.0.1 back.octets b.0 mid.stands back.stands);
            spells = record { front = front.octets; inside = mid.octets; back = back.octets; parts = refl {a = front.octets ++ (mid.octets ++ back.octets)}; opened = front.tagged; spelled = mid.spells; closed = back.tagged };
          })
    ]

properties_again : (input : List ℕ) (place : ℕ) (octets : List ℕ) (property : Option Value) (end : ℕ) → place ≤ length input → SpellsEnclosed 2 SpellsPropertyList octets property → Stands input place octets end → properties_at input place ≡ Ok (property, end)
unfolding properties_at
properties_again input place octets None end le s p =
    let q : Stands input place (s.front ++ (s.inside ++ s.back)) end = subst (λ (o : List ℕ). Stands input place o end) s.parts p in
    let front = Stands-front input place s.front (s.inside ++ s.back) end q in
    let back : Stands input (place + length s.front) s.back end = subst (λ (xs : List ℕ). Stands input (place + length s.front) (xs ++ s.back) end) s.spelled (Stands-back input place s.front (s.inside ++ s.back) end q) in
    rw (opening_again 2 input place s.front (place + length s.front) s.opened front, tag_again input (place + length s.front) s.back (closing 2) end s.closed back, closing_again 2 input (place + length s.front) s.back end s.closed back) refl
properties_again input place octets (Some value) end le s p =
    let q : Stands input place (s.front ++ (s.inside ++ s.back)) end = subst (λ (o : List ℕ). Stands input place o end) s.parts p in
    let start = place + length s.front in
    let front = Stands-front input place s.front (s.inside ++ s.back) end q in
    let rest = Stands-back input place s.front (s.inside ++ s.back) end q in
    let mid = Stands-front input start s.inside s.back end rest in
    let back = Stands-back input start s.inside s.back end rest in
    let here : start ≤ length input = Stands-within input place s.front start le front in
    let first : SpellsNumber 0 s.spelled.front 85 = s.spelled.first in
    let number = Stands-front input start s.spelled.front s.spelled.back (start + length s.inside) (subst (λ (o : List ℕ). Stands input start o (start + length s.inside)) s.spelled.parts mid) in
    let header = Stands-front input start first.header first.content (start + length s.spelled.front) (subst (λ (o : List ℕ). Stands input start o (start + length s.spelled.front)) first.parts number) in
    rw (opening_again 2 input place s.front start s.opened front, tag_again input start first.header (element_tag 2 (Some 0) (length first.content)) (start + length first.header) first.tagged header, property_value_reader.again input start s.inside value (start + length s.inside) here s.spelled mid, closing_again 2 input (start + length s.inside) s.back end s.closed back) refl

properties_reader : Reader (SpellsEnclosed 2 SpellsPropertyList) properties_at
properties_reader = record {
  found = λ input place z bytes le e. properties_found input place z bytes le e;
  again = λ input place octets x end le s p. properties_again input place octets x end le s p;
  some = λ octets x s. omega (arith, ap length s.parts, length-append s.front (s.inside ++ s.back), tag_some s.front (opening 2) s.opened);
}

-- ---- what is told, by the event's type

abbrev bitstring_type : Type 0
bitstring_type = BitsData × StatusFlags

abbrev bitstring_spells : List ℕ → bitstring_type → Type 0
bitstring_spells = SpellsBoth (SpellsBits (Some 0)) SpellsFlags

abbrev bitstring_read : Reads bitstring_type
bitstring_read = both_at (λ input place. bits_at input place (Some 0)) flags_at

abbrev bitstring_made : bitstring_type → EventValues
bitstring_made x = Bitstring x.0 x.1

bitstring_parts : Reader bitstring_spells bitstring_read
bitstring_parts = both_reader (SpellsBits (Some 0)) SpellsFlags (λ input place. bits_at input place (Some 0)) flags_at (bits_reader 0) flags_reader

bitstring_found : (input : List ℕ) (place : ℕ) (z : EventValues × ℕ) → IsBytes input → place ≤ length input → bitstring_at input place ≡ Ok z → Spelled (SpellsToldOf 0) input place z.0 z.1
unfolding bitstring_at
bitstring_found input place z bytes le e = made_found bitstring_spells bitstring_read bitstring_parts bitstring_made (SpellsToldOf 0) (λ octets x s. (s, refl)) input place z bytes le e

bitstring_again : (input : List ℕ) (place : ℕ) (octets : List ℕ) (x : bitstring_type) (end : ℕ) → place ≤ length input → bitstring_spells octets x → Stands input place octets end → bitstring_at input place ≡ Ok (bitstring_made x, end)
unfolding bitstring_at
bitstring_again input place octets x end le s p = made_again bitstring_spells bitstring_read bitstring_parts bitstring_made input place octets x end le s p

abbrev changed_state_type : Type 0
changed_state_type = (Bool × ℕ) × StatusFlags

abbrev changed_state_spells : List ℕ → changed_state_type → Type 0
changed_state_spells = SpellsBoth (SpellsEnclosed 0 SpellsPropertyState) SpellsFlags

abbrev changed_state_read : Reads changed_state_type
changed_state_read = both_at (enclosed_at property_state_at 0) flags_at

abbrev changed_state_made : changed_state_type → EventValues
changed_state_made x = State x.0.0 x.0.1 x.1

changed_state_parts : Reader changed_state_spells changed_state_read
changed_state_parts = both_reader (SpellsEnclosed 0 SpellsPropertyState) SpellsFlags (enclosed_at property_state_at 0) flags_at (enclosed_reader SpellsPropertyState property_state_at 0 property_state_reader) flags_reader

changed_state_found : (input : List ℕ) (place : ℕ) (z : EventValues × ℕ) → IsBytes input → place ≤ length input → changed_state_at input place ≡ Ok z → Spelled (SpellsToldOf 1) input place z.0 z.1
unfolding changed_state_at
changed_state_found input place z bytes le e = made_found changed_state_spells changed_state_read changed_state_parts changed_state_made (SpellsToldOf 1) (λ octets x s. (s, refl)) input place z bytes le e

changed_state_again : (input : List ℕ) (place : ℕ) (octets : List ℕ) (x : changed_state_type) (end : ℕ) → place ≤ length input → changed_state_spells octets x → Stands input place octets end → changed_state_at input place ≡ Ok (changed_state_made x, end)
unfolding changed_state_at
changed_state_again input place octets x end le s p = made_again changed_state_spells changed_state_read changed_state_parts changed_state_made input place octets x end le s p

abbrev commanded_type : Type 0
commanded_type = Value × (StatusFlags × Value)

abbrev commanded_spells : List ℕ → commanded_type → Type 0
commanded_spells = SpellsBoth (SpellsEnclosed 0 SpellsValue) (SpellsBoth SpellsFlags (SpellsEnclosed 2 SpellsValue))

abbrev commanded_read : Reads commanded_type
commanded_read = both_at (enclosed_at value_at 0) (both_at flags_at (enclosed_at value_at 2))

abbrev commanded_made : commanded_type → EventValues
commanded_made x = Command x.0 x.1.0 x.1.1

commanded_parts : Reader commanded_spells commanded_read
commanded_parts = both_reader (SpellsEnclosed 0 SpellsValue) (SpellsBoth SpellsFlags (SpellsEnclosed 2 SpellsValue)) (enclosed_at value_at 0) (both_at flags_at (enclosed_at value_at 2)) (enclosed_reader SpellsValue value_at 0 value_reader) (both_reader SpellsFlags (SpellsEnclosed 2 SpellsValue) flags_at (enclosed_at value_at 2) flags_reader (enclosed_reader SpellsValue value_at 2 value_reader))

commanded_found : (input : List ℕ) (place : ℕ) (z : EventValues × ℕ) → IsBytes input → place ≤ length input → commanded_at input place ≡ Ok z → Spelled (SpellsToldOf 3) input place z.0 z.1
unfolding commanded_at
commanded_found input place z bytes le e = made_found commanded_spells commanded_read commanded_parts commanded_made (SpellsToldOf 3) (λ octets x s. (s, refl)) input place z bytes le e

commanded_again : (input : List ℕ) (place : ℕ) (octets : List ℕ) (x : commanded_type) (end : ℕ) → place ≤ length input → commanded_spells octets x → Stands input place octets end → commanded_at input place ≡ Ok (commanded_made x, end)
unfolding commanded_at
commanded_again input place octets x end le s p = made_again commanded_spells commanded_read commanded_parts commanded_made input place octets x end le s p

abbrev unsigned_range_type : Type 0
unsigned_range_type = ℕ × (StatusFlags × ℕ)

abbrev unsigned_range_spells : List ℕ → unsigned_range_type → Type 0
unsigned_range_spells = SpellsBoth (SpellsNumber 0) (SpellsBoth SpellsFlags (SpellsNumber 2))

abbrev unsigned_range_read : Reads unsigned_range_type
unsigned_range_read = both_at (number_at 0) (both_at flags_at (number_at 2))

abbrev unsigned_range_made : unsigned_range_type → EventValues
unsigned_range_made x = UnsignedRange x.0 x.1.0 x.1.1

unsigned_range_parts : Reader unsigned_range_spells unsigned_range_read
unsigned_range_parts = both_reader (SpellsNumber 0) (SpellsBoth SpellsFlags (SpellsNumber 2)) (number_at 0) (both_at flags_at (number_at 2)) (number_reader 0) (both_reader SpellsFlags (SpellsNumber 2) flags_at (number_at 2) flags_reader (number_reader 2))

unsigned_range_found : (input : List ℕ) (place : ℕ) (z : EventValues × ℕ) → IsBytes input → place ≤ length input → unsigned_range_at input place ≡ Ok z → Spelled (SpellsToldOf 11) input place z.0 z.1
unfolding unsigned_range_at
unsigned_range_found input place z bytes le e = made_found unsigned_range_spells unsigned_range_read unsigned_range_parts unsigned_range_made (SpellsToldOf 11) (λ octets x s. (s, refl)) input place z bytes le e

unsigned_range_again : (input : List ℕ) (place : ℕ) (octets : List ℕ) (x : unsigned_range_type) (end : ℕ) → place ≤ length input → unsigned_range_spells octets x → Stands input place octets end → unsigned_range_at input place ≡ Ok (unsigned_range_made x, end)
unfolding unsigned_range_at
unsigned_range_again input place octets x end le s p = made_again unsigned_range_spells unsigned_range_read unsigned_range_parts unsigned_range_made input place octets x end le s p

abbrev signed_out_of_range_type : Type 0
signed_out_of_range_type = ℤ × (StatusFlags × (ℕ × ℤ))

abbrev signed_out_of_range_spells : List ℕ → signed_out_of_range_type → Type 0
signed_out_of_range_spells = SpellsBoth (SpellsSigned (Some 0)) (SpellsBoth SpellsFlags (SpellsBoth (SpellsNumber 2) (SpellsSigned (Some 3))))

abbrev signed_out_of_range_read : Reads signed_out_of_range_type
signed_out_of_range_read = both_at (λ input place. signed_at input place (Some 0)) (both_at flags_at (both_at (number_at 2) (λ input place. signed_at input place (Some 3))))

abbrev signed_out_of_range_made : signed_out_of_range_type → EventValues
signed_out_of_range_made x = SignedOutOfRange x.0 x.1.0 x.1.1.0 x.1.1.1

signed_out_of_range_parts : Reader signed_out_of_range_spells signed_out_of_range_read
signed_out_of_range_parts = both_reader (SpellsSigned (Some 0)) (SpellsBoth SpellsFlags (SpellsBoth (SpellsNumber 2) (SpellsSigned (Some 3)))) (λ input place. signed_at input place (Some 0)) (both_at flags_at (both_at (number_at 2) (λ input place. signed_at input place (Some 3)))) (signed_reader 0) (both_reader SpellsFlags (SpellsBoth (SpellsNumber 2) (SpellsSigned (Some 3))) flags_at (both_at (number_at 2) (λ input place. signed_at input place (Some 3))) flags_reader (both_reader (SpellsNumber 2) (SpellsSigned (Some 3)) (number_at 2) (λ input place. signed_at input place (Some 3)) (number_reader 2) (signed_reader 3)))

signed_out_of_range_found : (input : List ℕ) (place : ℕ) (z : EventValues × ℕ) → IsBytes input → place ≤ length input → signed_out_of_range_at input place ≡ Ok z → Spelled (SpellsToldOf 15) input place z.0 z.1
unfolding signed_out_of_range_at
signed_out_of_range_found input place z bytes le e = made_found signed_out_of_range_spells signed_out_of_range_read signed_out_of_range_parts signed_out_of_range_made (SpellsToldOf 15) (λ octets x s. (s, refl)) input place z bytes le e

signed_out_of_range_again : (input : List ℕ) (place : ℕ) (octets : List ℕ) (x : signed_out_of_range_type) (end : ℕ) → place ≤ length input → signed_out_of_range_spells octets x → Stands input place octets end → signed_out_of_range_at input place ≡ Ok (signed_out_of_range_made x, end)
unfolding signed_out_of_range_at
signed_out_of_range_again input place octets x end le s p = made_again signed_out_of_range_spells signed_out_of_range_read signed_out_of_range_parts signed_out_of_range_made input place octets x end le s p

abbrev unsigned_out_of_range_type : Type 0
unsigned_out_of_range_type = ℕ × (StatusFlags × (ℕ × ℕ))

abbrev unsigned_out_of_range_spells : List ℕ → unsigned_out_of_range_type → Type 0
unsigned_out_of_range_spells = SpellsBoth (SpellsNumber 0) (SpellsBoth SpellsFlags (SpellsBoth (SpellsNumber 2) (SpellsNumber 3)))

abbrev unsigned_out_of_range_read : Reads unsigned_out_of_range_type
unsigned_out_of_range_read = both_at (number_at 0) (both_at flags_at (both_at (number_at 2) (number_at 3)))

abbrev unsigned_out_of_range_made : unsigned_out_of_range_type → EventValues
unsigned_out_of_range_made x = UnsignedOutOfRange x.0 x.1.0 x.1.1.0 x.1.1.1

unsigned_out_of_range_parts : Reader unsigned_out_of_range_spells unsigned_out_of_range_read
unsigned_out_of_range_parts = both_reader (SpellsNumber 0) (SpellsBoth SpellsFlags (SpellsBoth (SpellsNumber 2) (SpellsNumber 3))) (number_at 0) (both_at flags_at (both_at (number_at 2) (number_at 3))) (number_reader 0) (both_reader SpellsFlags (SpellsBoth (SpellsNumber 2) (SpellsNumber 3)) flags_at (both_at (number_at 2) (number_at 3)) flags_reader (both_reader (SpellsNumber 2) (SpellsNumber 3) (number_at 2) (number_at 3) (number_reader 2) (number_reader 3)))

unsigned_out_of_range_found : (input : List ℕ) (place : ℕ) (z : EventValues × ℕ) → IsBytes input → place ≤ length input → unsigned_out_of_range_at input place ≡ Ok z → Spelled (SpellsToldOf 16) input place z.0 z.1
unfolding unsigned_out_of_range_at
unsigned_out_of_range_found input place z bytes le e = made_found unsigned_out_of_range_spells unsigned_out_of_range_read unsigned_out_of_range_parts unsigned_out_of_range_made (SpellsToldOf 16) (λ octets x s. (s, refl)) input place z bytes le e

unsigned_out_of_range_again : (input : List ℕ) (place : ℕ) (octets : List ℕ) (x : unsigned_out_of_range_type) (end : ℕ) → place ≤ length input → unsigned_out_of_range_spells octets x → Stands input place octets end → unsigned_out_of_range_at input place ≡ Ok (unsigned_out_of_range_made x, end)
unfolding unsigned_out_of_range_at
unsigned_out_of_range_again input place octets x end le s p = made_again unsigned_out_of_range_spells unsigned_out_of_range_read unsigned_out_of_range_parts unsigned_out_of_range_made input place octets x end le s p

abbrev changed_text_type : Type 0
changed_text_type = (List ℕ) × (StatusFlags × (List ℕ))

abbrev changed_text_spells : List ℕ → changed_text_type → Type 0
changed_text_spells = SpellsBoth (SpellsText 0) (SpellsBoth SpellsFlags (SpellsText 2))

abbrev changed_text_read : Reads changed_text_type
changed_text_read = both_at (text_at 0) (both_at flags_at (text_at 2))

abbrev changed_text_made : changed_text_type → EventValues
changed_text_made x = Characterstring x.0 x.1.0 x.1.1

changed_text_parts : Reader changed_text_spells changed_text_read
changed_text_parts = both_reader (SpellsText 0) (SpellsBoth SpellsFlags (SpellsText 2)) (text_at 0) (both_at flags_at (text_at 2)) (text_reader 0) (both_reader SpellsFlags (SpellsText 2) flags_at (text_at 2) flags_reader (text_reader 2))

changed_text_found : (input : List ℕ) (place : ℕ) (z : EventValues × ℕ) → IsBytes input → place ≤ length input → changed_text_at input place ≡ Ok z → Spelled (SpellsToldOf 17) input place z.0 z.1
unfolding changed_text_at
changed_text_found input place z bytes le e = made_found changed_text_spells changed_text_read changed_text_parts changed_text_made (SpellsToldOf 17) (λ octets x s. (s, refl)) input place z bytes le e

changed_text_again : (input : List ℕ) (place : ℕ) (octets : List ℕ) (x : changed_text_type) (end : ℕ) → place ≤ length input → changed_text_spells octets x → Stands input place octets end → changed_text_at input place ≡ Ok (changed_text_made x, end)
unfolding changed_text_at
changed_text_again input place octets x end le s p = made_again changed_text_spells changed_text_read changed_text_parts changed_text_made input place octets x end le s p

abbrev reliability_type : Type 0
reliability_type = Reliable × (StatusFlags × (Option Value))

abbrev reliability_spells : List ℕ → reliability_type → Type 0
reliability_spells = SpellsBoth (SpellsReliability 0) (SpellsBoth SpellsFlags (SpellsEnclosed 2 SpellsPropertyList))

abbrev reliability_read : Reads reliability_type
reliability_read = both_at (reliability_number_at 0) (both_at flags_at properties_at)

abbrev reliability_made : reliability_type → EventValues
reliability_made x = Reliability x.0 x.1.0 x.1.1

reliability_parts : Reader reliability_spells reliability_read
reliability_parts = both_reader (SpellsReliability 0) (SpellsBoth SpellsFlags (SpellsEnclosed 2 SpellsPropertyList)) (reliability_number_at 0) (both_at flags_at properties_at) (reliability_reader 0) (both_reader SpellsFlags (SpellsEnclosed 2 SpellsPropertyList) flags_at properties_at flags_reader properties_reader)

reliability_found : (input : List ℕ) (place : ℕ) (z : EventValues × ℕ) → IsBytes input → place ≤ length input → reliability_at input place ≡ Ok z → Spelled (SpellsToldOf 19) input place z.0 z.1
unfolding reliability_at
reliability_found input place z bytes le e = made_found reliability_spells reliability_read reliability_parts reliability_made (SpellsToldOf 19) (λ octets x s. (s, refl)) input place z bytes le e

reliability_again : (input : List ℕ) (place : ℕ) (octets : List ℕ) (x : reliability_type) (end : ℕ) → place ≤ length input → reliability_spells octets x → Stands input place octets end → reliability_at input place ≡ Ok (reliability_made x, end)
unfolding reliability_at
reliability_again input place octets x end le s p = made_again reliability_spells reliability_read reliability_parts reliability_made input place octets x end le s p

-- the type names the form
abbrev told_none : ℕ → Result (EventValues × ℕ) TagFault
told_none place = Err (WrongTag place)

abbrev told_7 : ℕ → Reads EventValues
told_7 type input place = cond (eqb type 19) (reliability_at input place) (told_none place)

abbrev told_6 : ℕ → Reads EventValues
told_6 type input place = cond (eqb type 17) (changed_text_at input place) (told_7 type input place)

abbrev told_5 : ℕ → Reads EventValues
told_5 type input place = cond (eqb type 16) (unsigned_out_of_range_at input place) (told_6 type input place)

abbrev told_4 : ℕ → Reads EventValues
told_4 type input place = cond (eqb type 15) (signed_out_of_range_at input place) (told_5 type input place)

abbrev told_3 : ℕ → Reads EventValues
told_3 type input place = cond (eqb type 11) (unsigned_range_at input place) (told_4 type input place)

abbrev told_2 : ℕ → Reads EventValues
told_2 type input place = cond (eqb type 3) (commanded_at input place) (told_3 type input place)

abbrev told_1 : ℕ → Reads EventValues
told_1 type input place = cond (eqb type 1) (changed_state_at input place) (told_2 type input place)

abbrev told_0 : ℕ → Reads EventValues
told_0 type input place = cond (eqb type 0) (bitstring_at input place) (told_1 type input place)

abbrev IsToldAt : ℕ → List ℕ → ℕ → EventValues × ℕ → Type 0
IsToldAt type input place z = Spelled (SpellsToldOf type) input place z.0 z.1

of_type : (k type : ℕ) (input : List ℕ) (place : ℕ) (z : EventValues × ℕ) → eqb type k ≡ true → IsToldAt k input place z → IsToldAt type input place z
of_type k type input place z e s = subst (λ (n : ℕ). IsToldAt n input place z) (sym (eqb-true type k e)) s

found_7 : (type : ℕ) (input : List ℕ) (place : ℕ) (z : EventValues × ℕ) → IsBytes input → place ≤ length input → told_7 type input place ≡ Ok z → IsToldAt type input place z
found_7 type input place z bytes le e = elim (chosen (eqb type 19) (reliability_at input place) (told_none place) (Ok z) e) [
  | inl h ↦ of_type 19 type input place z h.0 (reliability_found input place z bytes le h.1)
  | inr h ↦ absurd (let bad = h.1 in cc)
]

found_6 : (type : ℕ) (input : List ℕ) (place : ℕ) (z : EventValues × ℕ) → IsBytes input → place ≤ length input → told_6 type input place ≡ Ok z → IsToldAt type input place z
found_6 type input place z bytes le e = elim (chosen (eqb type 17) (changed_text_at input place) (told_7 type input place) (Ok z) e) [
  | inl h ↦ of_type 17 type input place z h.0 (changed_text_found input place z bytes le h.1)
  | inr h ↦ found_7 type input place z bytes le h.1
]

found_5 : (type : ℕ) (input : List ℕ) (place : ℕ) (z : EventValues × ℕ) → IsBytes input → place ≤ length input → told_5 type input place ≡ Ok z → IsToldAt type input place z
found_5 type input place z bytes le e = elim (chosen (eqb type 16) (unsigned_out_of_range_at input place) (told_6 type input place) (Ok z) e) [
  | inl h ↦ of_type 16 type input place z h.0 (unsigned_out_of_range_found input place z bytes le h.1)
  | inr h ↦ found_6 type input place z bytes le h.1
]

found_4 : (type : ℕ) (input : List ℕ) (place : ℕ) (z : EventValues × ℕ) → IsBytes input → place ≤ length input → told_4 type input place ≡ Ok z → IsToldAt type input place z
found_4 type input place z bytes le e = elim (chosen (eqb type 15) (signed_out_of_range_at input place) (told_5 type input place) (Ok z) e) [
  | inl h ↦ of_type 15 type input place z h.0 (signed_out_of_range_found input place z bytes le h.1)
  | inr h ↦ found_5 type input place z bytes le h.1
]

found_3 : (type : ℕ) (input : List ℕ) (place : ℕ) (z : EventValues × ℕ) → IsBytes input → place ≤ length input → told_3 type input place ≡ Ok z → IsToldAt type input place z
found_3 type input place z bytes le e = elim (chosen (eqb type 11) (unsigned_range_at input place) (told_4 type input place) (Ok z) e) [
  | inl h ↦ of_type 11 type input place z h.0 (unsigned_range_found input place z bytes le h.1)
  | inr h ↦ found_4 type input place z bytes le h.1
]

found_2 : (type : ℕ) (input : List ℕ) (place : ℕ) (z : EventValues × ℕ) → IsBytes input → place ≤ length input → told_2 type input place ≡ Ok z → IsToldAt type input place z
found_2 type input place z bytes le e = elim (chosen (eqb type 3) (commanded_at input place) (told_3 type input place) (Ok z) e) [
  | inl h ↦ of_type 3 type input place z h.0 (commanded_found input place z bytes le h.1)
  | inr h ↦ found_3 type input place z bytes le h.1
]

found_1 : (type : ℕ) (input : List ℕ) (place : ℕ) (z : EventValues × ℕ) → IsBytes input → place ≤ length input → told_1 type input place ≡ Ok z → IsToldAt type input place z
found_1 type input place z bytes le e = elim (chosen (eqb type 1) (changed_state_at input place) (told_2 type input place) (Ok z) e) [
  | inl h ↦ of_type 1 type input place z h.0 (changed_state_found input place z bytes le h.1)
  | inr h ↦ found_2 type input place z bytes le h.1
]

found_0 : (type : ℕ) (input : List ℕ) (place : ℕ) (z : EventValues × ℕ) → IsBytes input → place ≤ length input → told_0 type input place ≡ Ok z → IsToldAt type input place z
found_0 type input place z bytes le e = elim (chosen (eqb type 0) (bitstring_at input place) (told_1 type input place) (Ok z) e) [
  | inl h ↦ of_type 0 type input place z h.0 (bitstring_found input place z bytes le h.1)
  | inr h ↦ found_1 type input place z bytes le h.1
]

told_found : (type : ℕ) (input : List ℕ) (place : ℕ) (z : EventValues × ℕ) → IsBytes input → place ≤ length input → told_at type input place ≡ Ok z → IsToldAt type input place z
unfolding told_at
told_found type input place z bytes le e = found_0 type input place z bytes le e

told_by : (k type : ℕ) (input : List ℕ) (place : ℕ) (y : Result (EventValues × ℕ) TagFault) → k ≡ type → told_0 k input place ≡ y → told_at type input place ≡ y
unfolding told_at
told_by k type input place y same e = ap (λ (n : ℕ). told_0 n input place) (sym same) ∙ e

told_again : (type : ℕ) (input : List ℕ) (place : ℕ) (octets : List ℕ) (told : EventValues) (end : ℕ) → place ≤ length input → SpellsToldOf type octets told → Stands input place octets end → told_at type input place ≡ Ok (told, end)
told_again type input place octets (Bitstring referenced flags) end le s p = told_by 0 type input place (Ok (Bitstring referenced flags, end)) s.1 (bitstring_again input place octets (referenced, flags) end le s.0 p)
told_again type input place octets (State binary number flags) end le s p = told_by 1 type input place (Ok (State binary number flags, end)) s.1 (changed_state_again input place octets ((binary, number), flags) end le s.0 p)
told_again type input place octets (Command command flags feedback) end le s p = told_by 3 type input place (Ok (Command command flags feedback, end)) s.1 (commanded_again input place octets (command, (flags, feedback)) end le s.0 p)
told_again type input place octets (UnsignedRange value flags limit) end le s p = told_by 11 type input place (Ok (UnsignedRange value flags limit, end)) s.1 (unsigned_range_again input place octets (value, (flags, limit)) end le s.0 p)
told_again type input place octets (SignedOutOfRange value flags deadband limit) end le s p = told_by 15 type input place (Ok (SignedOutOfRange value flags deadband limit, end)) s.1 (signed_out_of_range_again input place octets (value, (flags, (deadband, limit))) end le s.0 p)
told_again type input place octets (UnsignedOutOfRange value flags deadband limit) end le s p = told_by 16 type input place (Ok (UnsignedOutOfRange value flags deadband limit, end)) s.1 (unsigned_out_of_range_again input place octets (value, (flags, (deadband, limit))) end le s.0 p)
told_again type input place octets (Characterstring changed flags alarm) end le s p = told_by 17 type input place (Ok (Characterstring changed flags alarm, end)) s.1 (changed_text_again input place octets (changed, (flags, alarm)) end le s.0 p)
told_again type input place octets (Reliability reliability flags property) end le s p = told_by 19 type input place (Ok (Reliability reliability flags property, end)) s.1 (reliability_again input place octets (reliability, (flags, property)) end le s.0 p)

told_some : (octets : List ℕ) (told : EventValues) → SpellsTold octets told → 1 ≤ length octets
told_some octets (Bitstring referenced flags) s = bitstring_parts.some octets (referenced, flags) s
told_some octets (State binary number flags) s = changed_state_parts.some octets ((binary, number), flags) s
told_some octets (Command command flags feedback) s = commanded_parts.some octets (command, (flags, feedback)) s
told_some octets (UnsignedRange value flags limit) s = unsigned_range_parts.some octets (value, (flags, limit)) s
told_some octets (SignedOutOfRange value flags deadband limit) s = signed_out_of_range_parts.some octets (value, (flags, (deadband, limit))) s
told_some octets (UnsignedOutOfRange value flags deadband limit) s = unsigned_out_of_range_parts.some octets (value, (flags, (deadband, limit))) s
told_some octets (Characterstring changed flags alarm) s = changed_text_parts.some octets (changed, (flags, alarm)) s
told_some octets (Reliability reliability flags property) s = reliability_parts.some octets (reliability, (flags, property)) s

pub told_reader : (type : ℕ) → Reader (SpellsToldOf type) (told_at type)
told_reader type = record {
  found = λ input place z bytes le e. told_found type input place z bytes le e;
  again = λ input place octets told end le s p. told_again type input place octets told end le s p;
  some = λ octets told s. told_some octets told s.0;
}

pub values_reader : (type : ℕ) → Reader (SpellsValuesOf type) (values_at type)
unfolding values_at
values_reader type = enclosed_reader (SpellsEnclosed type (SpellsToldOf type)) (enclosed_at (told_at type) type) 12 (enclosed_reader (SpellsToldOf type) (told_at type) type (told_reader type))
