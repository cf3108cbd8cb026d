-- What readers fail with: a wrong tag stands where they began to read, or behind, and memory is never what is read.
use Rattle.std.proofs.Common.{◌≡◌, ℤ, ℕ, ◌≤◌, Bool, true, false, cond, eqb, Option, Some, None, List, length, drop, Result, Ok, Err, refl, ap, arith, inl, inr, subst, ◌+◌, sym}
use Rattle.std.specs.Prelude.{◌⊎◌, ◌↔◌}
use Rattle.bac_values.specs.Reliabilities.{reliability_of_number}
use Rattle.bac_values.specs.declared.value.Value.{Value}
use Rattle.bac_values.specs.BitString.{BitsData}
use Rattle.bac_tags.specs.declared.fault.TagFault.{TagFault}
use Rattle.bac_tags.specs.declared.fault.TagFault.TheVariants.{Truncated, WrongTag, BadLength, NoMemory}
use Rattle.bac_tags.specs.Contents.{SpellsSigned, SpellsBits}
use Rattle.bac_tags.specs.Values.{SpellsValue}
use Rattle.bac_tags.specs.ReadingSteps.{◌>>=◌, content_at, unsigned_at, signed_at, bits_of, bits_at, tag_at, value_at, valued, unsigned_of, signed_of}
use Rattle.bac_tags.specs.EnclosingTags.{opening, closing, IsOtherTag, SpellsEnclosed}
use Rattle.bac_tags.specs.EnclosingSteps.{is_closing, opening_at, closing_at, enclosed_at}
use Rattle.bac_tags.proofs.Steps.{bind_err}
use Rattle.bac_tags.proofs.Standing.{IsBytes, Stands-within}
use Rattle.bac_tags.proofs.Cut.{tag_cut}
use Rattle.bac_tags.proofs.ElementLaws.{content_err}
use Rattle.bac_tags.proofs.Readers.{form_err}
use Rattle.bac_tags.proofs.ValueLaws.{value_err}
use Rattle.bac_tags.proofs.TagReaders.{is_opening_tag, is_closing_tag, tests_opening, tests_closing, one_tag_err, ReadsTag, reads_opening}
use Rattle.bac_tags.proofs.ElementReaders.{Reader, tag_some, opening_found, bits_reader, signed_reader, enclosed_reader}
use Rattle.event_services.specs.declared.notification.EventValues.{EventValues}
use Rattle.event_services.specs.NoteReadingSteps.{Reads, both_at, made_at, held_at, number_at, flags_of, flags_at, text_of, text_at, property_state_in, property_state_at, reliability_number_at, present_value, property_value_at, properties_at, bitstring_at, changed_state_at, commanded_at, unsigned_range_at, signed_out_of_range_at, unsigned_out_of_range_at, changed_text_at, reliability_at, told_at, values_at}
use Rattle.event_services.specs.NoteGrammar.{SpellsNumber, SpellsReliability, SpellsFlags, SpellsText, SpellsPropertyState, SpellsPresentValue, SpellsToldOf}
use Rattle.event_services.proofs.NoteReaders.{held_reader, number_reader, flags_reader, text_reader, value_reader}
use Rattle.event_services.proofs.ToldReaders.{property_state_reader, reliability_reader, property_value_reader, present_holds, told_reader}

-- a fault of what stands at the place or behind
abbrev IsLate : ℕ → TagFault → Type 0
IsLate place (Truncated end) = Unit {0}
IsLate place (WrongTag wrong) = place ≤ wrong
IsLate place (BadLength wrong) = Unit {0}
IsLate place NoMemory = ⊥

earlier : (place later : ℕ) (fault : TagFault) → place ≤ later → IsLate later fault → IsLate place fault
earlier place later (Truncated end) le h = tt
earlier place later (WrongTag wrong) le h = omega (arith, le, h)
earlier place later (BadLength wrong) le h = tt
earlier place later NoMemory le h = h

cut : (place end : ℕ) (fault : TagFault) → fault ≡ Truncated end → IsLate place fault
cut place end fault e = subst (IsLate place) (sym e) tt

long : (place wrong : ℕ) (fault : TagFault) → fault ≡ BadLength wrong → IsLate place fault
long place wrong fault e = subst (IsLate place) (sym e) tt

other : (place wrong : ℕ) (fault : TagFault) → place ≤ wrong → fault ≡ WrongTag wrong → IsLate place fault
other place wrong fault le e = subst (IsLate place) (sym e) le

abbrev Late : {X : Type 0} → Reads X → Type 0
Late read = (input : List ℕ) (place : ℕ) (fault : TagFault) → IsBytes input → place ≤ length input → read input place ≡ Err fault → IsLate place fault

-- ---- steps

either : {X : Type 0} (P : Type 0) (b : Bool) (r s z : X) → (r ≡ z → P) → (s ≡ z → P) → cond b r s ≡ z → P
either P true r s z f g e = f e
either P false r s z f g e = g e

late_held : {X Y : Type 0} (read : Reads X) (hold : X → Option Y) → Late read → Late (held_at hold read)
late_held read hold l input place fault bytes le e =
    elim (bind_err (read input place) _ fault e) [
      | inl a ↦ l input place fault bytes le a
      | inr a ↦ long place place fault (form_err (hold a.0.0) place a.0.1 fault a.2).1
    ]

late_made : {X Y : Type 0} (make : X → Y) (read : Reads X) → Late read → Late (made_at make read)
late_made make read l input place fault bytes le e =
    elim (bind_err (read input place) _ fault e) [
      | inl a ↦ l input place fault bytes le a
      | inr a ↦ absurd (let bad = a.2 in cc)
    ]

late_both : {X Y : Type 0} (First : List ℕ → X → Type 0) (first : Reads X) (second : Reads Y) → Reader First first → Late first → Late second → Late (both_at first second)
late_both First first second r l1 l2 input place fault bytes le e =
    elim (bind_err (first input place) _ fault e) [
      | inl a ↦ l1 input place fault bytes le a
      | inr a ↦
          let s = r.found input place a.0 bytes le a.1 in
          elim (bind_err (second input a.0.1) _ fault a.2) [
            | inl b ↦ earlier place a.0.1 fault (omega (arith, s.stands.ends)) (l2 input a.0.1 fault bytes (Stands-within input place s.octets a.0.1 le s.stands) b)
            | inr b ↦ absurd (let bad = b.2 in cc)
          ]
    ]

-- ---- elements

late_content : (type : ℕ) (context : Option ℕ) (least most : ℕ) → Late (λ input place. content_at input place type context least most)
late_content type context least most input place fault bytes le e =
    elim (content_err input place type context least most fault bytes le e) [
      | inl h ↦ cut place (length input) fault h.1
      | inr h ↦ elim h [
        | inl h ↦ other place place fault (omega arith) h.1
        | inr h ↦ long place place fault h.1
      ]
    ]

late_valued : {X : Type 0} (value : List ℕ → X) (read : Reads (List ℕ)) → Late read → Late (λ input place. valued value (read input place))
late_valued value read l input place fault bytes le e =
    elim (bind_err (read input place) _ fault e) [
      | inl a ↦ l input place fault bytes le a
      | inr a ↦ absurd (let bad = a.2 in cc)
    ]

late_number : (number : ℕ) → Late (number_at number)
unfolding unsigned_at
late_number number = late_valued unsigned_of (λ input place. content_at input place 2 (Some number) 1 4) (late_content 2 (Some number) 1 4)

abbrev signed_in : ℕ → Reads ℤ
signed_in number input place = signed_at input place (Some number)

late_signed : (number : ℕ) → Late (signed_in number)
unfolding signed_at
late_signed number = late_valued signed_of (λ input place. content_at input place 3 (Some number) 1 4) (late_content 3 (Some number) 1 4)

abbrev bits_in : ℕ → Reads BitsData
bits_in number input place = bits_at input place (Some number)

late_bits : (number : ℕ) → Late (bits_in number)
unfolding bits_at
late_bits number = late_held (λ input place. content_at input place 8 (Some number) 1 9) bits_of (late_content 8 (Some number) 1 9)

late_text : (number : ℕ) → Late (text_at number)
unfolding text_at
late_text number = late_held (λ input place. content_at input place 0 (Some number) 1 257) text_of (late_content 0 (Some number) 1 257)

late_flags : Late flags_at
unfolding flags_at
late_flags = late_held (bits_in 1) flags_of (late_bits 1)

late_value : Late value_at
late_value input place fault bytes le e =
    elim (value_err input place fault bytes le e) [
      | inl h ↦ cut place (length input) fault h.1
      | inr h ↦ elim h [
        | inl h ↦ other place place fault (omega arith) h.1
        | inr h ↦ long place place fault h.1
      ]
    ]

late_tag : (input : List ℕ) (place : ℕ) (fault : TagFault) → IsBytes input → tag_at input place ≡ Err fault → IsLate place fault
late_tag input place fault bytes e = cut place (length input) fault (tag_cut input place fault bytes e).1

-- ---- what stands between tags

late_opening : (number : ℕ) (input : List ℕ) (place : ℕ) (fault : TagFault) → IsBytes input → opening_at input place number ≡ Err fault → IsLate place fault
unfolding opening_at
late_opening number input place fault bytes e =
    elim (one_tag_err (is_opening_tag number) (opening number) (tests_opening number) input place fault bytes e) [
      | inl h ↦ cut place (length input) fault h.1
      | inr h ↦ other place place fault (omega arith) h.1
    ]

late_closing : (number : ℕ) (input : List ℕ) (place : ℕ) (fault : TagFault) → IsBytes input → closing_at input place number ≡ Err fault → IsLate place fault
unfolding closing_at
late_closing number input place fault bytes e =
    elim (one_tag_err (is_closing_tag number) (closing number) (tests_closing number) input place fault bytes e) [
      | inl h ↦ cut place (length input) fault h.1
      | inr h ↦ other place place fault (omega arith) h.1
    ]

-- the tag that opens has the fault, or what stands behind it
enclosed_fault : {X : Type 0} (Spells : List ℕ → X → Type 0) (read : Reads X) (number : ℕ) → Reader Spells read → Late read → (input : List ℕ) (place : ℕ) (fault : TagFault) → IsBytes input → place ≤ length input → enclosed_at read number input place ≡ Err fault
    → (opening_at input place number ≡ Err fault) ⊎ IsLate (place + 1) fault
enclosed_fault Spells read number r l input place fault bytes le e =
    elim (bind_err (opening_at input place number) _ fault e) [
      | inl a ↦ inl a
      | inr a ↦
          let front = opening_found number input place a.0 bytes a.1 in
          let some = tag_some front.octets (opening number) front.tagged in
          let within : a.0 ≤ length input = Stands-within input place front.octets a.0 le front.stands in
          let behind : place + 1 ≤ a.0 = omega (arith, front.stands.ends, some) in
          elim (bind_err (read input a.0) _ fault a.2) [
            | inl b ↦ inr (earlier (place + 1) a.0 fault behind (l input a.0 fault bytes within b))
            | inr b ↦
                let mid = r.found input a.0 b.0 bytes within b.1 in
                elim (bind_err (closing_at input b.0.1 number) _ fault b.2) [
                  | inl c ↦ inr (earlier (place + 1) b.0.1 fault (omega (arith, mid.stands.ends, behind)) (late_closing number input b.0.1 fault bytes c))
                  | inr c ↦ absurd (let bad = c.2 in cc)
                ]
          ]
    ]

late_enclosed : {X : Type 0} (Spells : List ℕ → X → Type 0) (read : Reads X) (number : ℕ) → Reader Spells read → Late read → Late (enclosed_at read number)
late_enclosed Spells read number r l input place fault bytes le e =
    elim (enclosed_fault Spells read number r l input place fault bytes le e) [
      | inl a ↦ late_opening number input place fault bytes a
      | inr a ↦ earlier place (place + 1) fault (omega arith) a
    ]

-- ---- what is told

late_state : Late property_state_at
unfolding property_state_at
late_state input place fault bytes le e =
    elim (bind_err (tag_at input place) _ fault e) [
      | inl a ↦ late_tag input place fault bytes a
      | inr a ↦ by_number a.0.0.number a.2
    ]
  where
    by_number : (number : ℕ) → property_state_in number input place ≡ Err fault → IsLate place fault
    by_number number h =
        either (IsLate place fault) (eqb number 1) (made_at (λ n. (true, n)) (number_at 1) input place) _ (Err fault) (λ one. late_made (λ n. (true, n)) (number_at 1) (late_number 1) input place fault bytes le one) (λ rest.
        either (IsLate place fault) (eqb number 11) (made_at (λ n. (false, n)) (number_at 11) input place) (Err (WrongTag place)) (Err fault) (λ eleven. late_made (λ n. (false, n)) (number_at 11) (late_number 11) input place fault bytes le eleven) (λ none. other place place fault (omega arith) cc) rest) h

late_property : Late property_value_at
unfolding property_value_at
late_property =
    late_made (λ x. x.1) (both_at (held_at present_value (number_at 0)) (enclosed_at value_at 2)) (late_both SpellsPresentValue (held_at present_value (number_at 0)) (enclosed_at value_at 2) (held_reader (SpellsNumber 0) (number_at 0) present_value SpellsPresentValue (number_reader 0) present_holds) (late_held (number_at 0) present_value (late_number 0)) (late_enclosed SpellsValue value_at 2 value_reader late_value))

abbrev ended : {X : Type 0} → X → ℕ → Result (X × ℕ) TagFault
ended x end = Ok (x, end)

abbrev no_property : Option Value
no_property = None

abbrev one_property : List ℕ → Value × ℕ → Result (Option Value × ℕ) TagFault
one_property input x = closing_at input x.1 2 >>= ended (Some x.0)

late_properties : Late properties_at
unfolding properties_at
late_properties input place fault bytes le e =
    elim (bind_err (opening_at input place 2) _ fault e) [
      | inl a ↦ late_opening 2 input place fault bytes a
      | inr a ↦
          let front = opening_found 2 input place a.0 bytes a.1 in
          let within : a.0 ≤ length input = Stands-within input place front.octets a.0 le front.stands in
          let behind : place ≤ a.0 = omega (arith, front.stands.ends) in
          elim (bind_err (tag_at input a.0) _ fault a.2) [
            | inl b ↦ earlier place a.0 fault behind (late_tag input a.0 fault bytes b)
            | inr b ↦ earlier place a.0 fault behind (either (IsLate a.0 fault) (is_closing b.0.0.shape) _ _ (Err fault) (λ closes. none a.0 closes) (λ opens. some a.0 within opens) b.2)
          ]
    ]
  where
    none : (start : ℕ) → (closing_at input start 2 >>= ended no_property) ≡ Err fault → IsLate start fault
    none start h =
        elim (bind_err (closing_at input start 2) (ended no_property) fault h) [
          | inl b ↦ late_closing 2 input start fault bytes b
          | inr b ↦ absurd (let bad = b.2 in cc)
        ]

    some : (start : ℕ) → start ≤ length input → (property_value_at input start >>= one_property input) ≡ Err fault → IsLate start fault
    some start within h =
        elim (bind_err (property_value_at input start) (one_property input) fault h) [
          | inl b ↦ late_property input start fault bytes within b
          | inr b ↦
              let mid = property_value_reader.found input start b.0 bytes within b.1 in
              elim (bind_err (closing_at input b.0.1 2) (ended (Some b.0.0)) fault b.2) [
                | inl c ↦ earlier start b.0.1 fault (omega (arith, mid.stands.ends)) (late_closing 2 input b.0.1 fault bytes c)
                | inr c ↦ absurd (let bad = c.2 in cc)
              ]
        ]

behind_flags : {X : Type 0} (read : Reads X) → Late read → Late (both_at flags_at read)
behind_flags read l = late_both SpellsFlags flags_at read flags_reader late_flags l

late_bitstring : Late bitstring_at
unfolding bitstring_at
late_bitstring = late_made _ _ (late_both (SpellsBits (Some 0)) (bits_in 0) flags_at (bits_reader 0) (late_bits 0) late_flags)

late_changed_state : Late changed_state_at
unfolding changed_state_at
late_changed_state = late_made _ _ (late_both (SpellsEnclosed 0 SpellsPropertyState) (enclosed_at property_state_at 0) flags_at (enclosed_reader SpellsPropertyState property_state_at 0 property_state_reader) (late_enclosed SpellsPropertyState property_state_at 0 property_state_reader late_state) late_flags)

late_held_value : (number : ℕ) → Late (enclosed_at value_at number)
late_held_value number = late_enclosed SpellsValue value_at number value_reader late_value

late_commanded : Late commanded_at
unfolding commanded_at
late_commanded = late_made _ _ (late_both (SpellsEnclosed 0 SpellsValue) (enclosed_at value_at 0) (both_at flags_at (enclosed_at value_at 2)) (enclosed_reader SpellsValue value_at 0 value_reader) (late_held_value 0) (behind_flags (enclosed_at value_at 2) (late_held_value 2)))

late_unsigned_range : Late unsigned_range_at
unfolding unsigned_range_at
late_unsigned_range = late_made _ _ (late_both (SpellsNumber 0) (number_at 0) (both_at flags_at (number_at 2)) (number_reader 0) (late_number 0) (behind_flags (number_at 2) (late_number 2)))

late_signed_out_of_range : Late signed_out_of_range_at
unfolding signed_out_of_range_at
late_signed_out_of_range =
    late_made _ _ (late_both (SpellsSigned (Some 0)) (signed_in 0) (both_at flags_at (both_at (number_at 2) (signed_in 3))) (signed_reader 0) (late_signed 0) (behind_flags (both_at (number_at 2) (signed_in 3)) (late_both (SpellsNumber 2) (number_at 2) (signed_in 3) (number_reader 2) (late_number 2) (late_signed 3))))

late_unsigned_out_of_range : Late unsigned_out_of_range_at
unfolding unsigned_out_of_range_at
late_unsigned_out_of_range =
    late_made _ _ (late_both (SpellsNumber 0) (number_at 0) (both_at flags_at (both_at (number_at 2) (number_at 3))) (number_reader 0) (late_number 0) (behind_flags (both_at (number_at 2) (number_at 3)) (late_both (SpellsNumber 2) (number_at 2) (number_at 3) (number_reader 2) (late_number 2) (late_number 3))))

late_changed_text : Late changed_text_at
unfolding changed_text_at
late_changed_text = late_made _ _ (late_both (SpellsText 0) (text_at 0) (both_at flags_at (text_at 2)) (text_reader 0) (late_text 0) (behind_flags (text_at 2) (late_text 2)))

late_reliability_number : Late (reliability_number_at 0)
unfolding reliability_number_at
late_reliability_number = late_held (number_at 0) reliability_of_number (late_number 0)

late_reliability : Late reliability_at
unfolding reliability_at
late_reliability = late_made _ _ (late_both (SpellsReliability 0) (reliability_number_at 0) (both_at flags_at properties_at) (reliability_reader 0) late_reliability_number (behind_flags properties_at late_properties))

abbrev no_type : ℕ → Result (EventValues × ℕ) TagFault
no_type place = Err (WrongTag place)

late_told : (type : ℕ) → Late (told_at type)
unfolding told_at
late_told type input place fault bytes le e =
    by 0 bitstring_at late_bitstring _ (by 1 changed_state_at late_changed_state _ (by 3 commanded_at late_commanded _ (by 11 unsigned_range_at late_unsigned_range _ (by 15 signed_out_of_range_at late_signed_out_of_range _ (by 16 unsigned_out_of_range_at late_unsigned_out_of_range _ (by 17 changed_text_at late_changed_text _ (by 19 reliability_at late_reliability _ none))))))) e
  where
    by : (k : ℕ) (read : Reads EventValues) → Late read → (rest : Result (EventValues × ℕ) TagFault) → (rest ≡ Err fault → IsLate place fault) → cond (eqb type k) (read input place) rest ≡ Err fault → IsLate place fault
    by k read l rest ends h = either (IsLate place fault) (eqb type k) (read input place) rest (Err fault) (λ here. l input place fault bytes le here) ends h

    none : no_type place ≡ Err fault → IsLate place fault
    none h = other place place fault (omega arith) cc

abbrev OfType : ℕ → List ℕ → EventValues → Type 0
OfType type = SpellsEnclosed type (SpellsToldOf type)

of_type : (type : ℕ) → Reader (OfType type) (enclosed_at (told_at type) type)
of_type type = enclosed_reader (SpellsToldOf type) (told_at type) type (told_reader type)

late_of_type : (type : ℕ) → Late (enclosed_at (told_at type) type)
late_of_type type = late_enclosed (SpellsToldOf type) (told_at type) type (told_reader type) (late_told type)

abbrev behind_opening : ℕ → List ℕ → ℕ → Result (EventValues × ℕ) TagFault
behind_opening type input start = enclosed_at (told_at type) type input start >>= λ x. closing_at input x.1 12 >>= λ end. Ok (x.0, end)

-- the values are absent where another tag stands in place of the one that opens them, and nowhere else
pub values_wrong : (type : ℕ) (input : List ℕ) (place : ℕ) → IsBytes input → place ≤ length input → (values_at type input place ≡ Err (WrongTag place)) ↔ IsOtherTag (opening 12) (drop place input)
unfolding values_at
values_wrong type input place bytes le =
    (λ h. opens.wrong_tag.0 (first h), λ other. ap (λ (r : Result ℕ TagFault). r >>= behind_opening type input) (opens.wrong_tag.1 other))
  where
    opens : ReadsTag (opening 12) input place (opening_at input place 12)
    opens = reads_opening 12 input place (opening_at input place 12) bytes refl

    first : enclosed_at (enclosed_at (told_at type) type) 12 input place ≡ Err (WrongTag place) → opening_at input place 12 ≡ Err (WrongTag place)
    first h =
        elim (enclosed_fault (OfType type) (enclosed_at (told_at type) type) 12 (of_type type) (late_of_type type) input place (WrongTag place) bytes le h) [
          | inl a ↦ a
          | inr a ↦ absurd (omega (arith, a))
        ]

-- reading takes no memory
pub text_never : (number : ℕ) (input : List ℕ) (place : ℕ) → IsBytes input → place ≤ length input → text_at number input place ≡ Err NoMemory → ⊥
text_never number input place bytes le e = late_text number input place NoMemory bytes le e

pub values_never : (type : ℕ) (input : List ℕ) (place : ℕ) → IsBytes input → place ≤ length input → values_at type input place ≡ Err NoMemory → ⊥
unfolding values_at
values_never type input place bytes le e = late_enclosed (OfType type) (enclosed_at (told_at type) type) 12 (of_type type) (late_of_type type) input place NoMemory bytes le e
