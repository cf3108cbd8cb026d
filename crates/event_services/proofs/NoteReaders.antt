-- Readers of the elements of notifications: what is read is spelled so, and what is spelled so is read.
use Rattle.std.proofs.Common.{◌≡◌, ℕ, ◌+◌, ◌*◌, ◌/◌, ◌%◌, ◌^◌, ◌<◌, ◌≤◌, Bool, true, false, eqb, ltb, ◌&&◌, Option, Some, None, List, [], ◌∷◌, ◌++◌, length, Result, Ok, refl, sym, ap, subst, ◌∙◌, arith, inl, inr}
use Rattle.std.specs.Prelude.{ok_or, find, IsUtf8, nat_le}
use Rattle.std.specs.Int.{from_bool}
use Rattle.std.specs.Str.{is_utf8}
use Rattle.std.proofs.lemmas.Bool.{eqb-true, eq-eqb, ltb-true, lt-ltb, leb-true, and_parts, cases_Bool, cases_eq, ne_eqb}
use Rattle.std.proofs.lemmas.List.{length-append}
use Rattle.std.proofs.lemmas.Str.{IsUtf8-from_is_utf8}
use Rattle.bac_values.specs.BitString.{BitsData}
use Rattle.bac_values.specs.EventStates.{number_of_state, event_states, state_of_number}
use Rattle.bac_values.specs.Reliabilities.{number_of_reliability, reliabilities as all_reliabilities, reliability_of_number}
use Rattle.bac_values.specs.declared.event_state.EventState.{EventState}
use Rattle.bac_values.specs.declared.event_state.EventState.TheVariants as states
use Rattle.bac_values.specs.declared.reliability.Reliability.{Reliability as Reliable}
use Rattle.bac_values.specs.declared.reliability.Reliability.TheVariants as reliabilities
use Rattle.bac_values.specs.declared.status_flags.StatusFlags.{StatusFlags}
use Rattle.bac_values.specs.declared.value.Value.{Value}
use Rattle.bac_tags.specs.declared.fault.TagFault.{TagFault}
use Rattle.bac_tags.specs.declared.fault.TagFault.TheVariants.{BadLength}
use Rattle.bac_tags.specs.Contents.{IsBits, SpellsBits}
use Rattle.bac_tags.specs.Stamps.{SpellsStamp}
use Rattle.bac_tags.specs.Values.{SpellsValue}
use Rattle.bac_tags.specs.ReadingSteps.{◌>>=◌, bits_at, stamp_at, value_at}
use Rattle.bac_tags.proofs.Steps.{bind_ok, ok_is}
use Rattle.bac_tags.proofs.Standing.{Stands, Stands-then, Stands-front, Stands-back, Stands-within}
use Rattle.bac_tags.proofs.Answered.{Spelled}
use Rattle.bac_tags.proofs.ElementLaws.{some_ok}
use Rattle.bac_tags.proofs.Readers.{Forms, reads_form, form_again}
use Rattle.byteorder.specs.Endian.{big_number}
use Rattle.bac_tags.proofs.Mirror.{mirrored_small}
use Rattle.bac_tags.proofs.ValueLaws.{value_found, value_again}
use Rattle.bac_tags.specs.EnclosingTags.{SpellsEnclosed}
use Rattle.bac_tags.specs.EnclosingSteps.{enclosed_at}
use Rattle.bac_tags.proofs.ElementReaders.{Reader, read_found as spelled_found, element_some, tag_some, unsigned_reader, bits_reader, stamp_reader, enclosed_reader}
use Rattle.event_services.specs.Notifications.{bits_of_flags}
use Rattle.event_services.specs.NoteReadingSteps.{Reads, both_at, held_at, number_at, octet_of, octet_number_at, state_at, flags_of, flags_at, text_of, text_at, moment_at}
use Rattle.event_services.specs.NoteGrammar.{SpellsBoth, SpellsNumber, SpellsOctetNumber, SpellsState, SpellsReliability, SpellsFlags, IsTextContent, SpellsText, SpellsMoment}
use Rattle.event_services.proofs.TextForms.{text_from}

-- ---- two readers, one behind the other

abbrev with_first : {X Y : Type 0} → X → Y × ℕ → Result ((X × Y) × ℕ) TagFault
with_first x y = Ok ((x, y.0), y.1)

abbrev behind : {X Y : Type 0} → Reads Y → List ℕ → X × ℕ → Result ((X × Y) × ℕ) TagFault
behind second input x = second input x.1 >>= with_first x.0

pub both_reader : {X Y : Type 0} (First : List ℕ → X → Type 0) (Second : List ℕ → Y → Type 0) (first : Reads X) (second : Reads Y) → Reader First first → Reader Second second → Reader (SpellsBoth First Second) (both_at first second)
both_reader {X = X} {Y = Y} First Second first second r1 r2 =
    record {
      found = λ input place z bytes le e.
          let a = bind_ok (first input place) (behind second input) z e in
          let s = r1.found input place a.0 bytes le a.1 in
          let b = bind_ok (second input a.0.1) (with_first a.0.0) z a.2 in
          let t = r2.found input a.0.1 b.0 bytes (Stands-within input place s.octets a.0.1 le s.stands) b.1 in
          subst (λ (y : (X × Y) × ℕ). Spelled (SpellsBoth First Second) input place y.0 y.1) (ok_is ((a.0.0, b.0.0), b.0.1) z b.2) (record {
            octets = s.octets ++ t.octets;
            stands = Stands-then input place s.octets a.0.1 t.octets b.0.1 s.stands t.stands;
            spells = record { front = s.octets; back = t.octets; parts = refl {a = s.octets ++ t.octets}; first = s.spells; second = t.spells };
          });
      again = λ input place octets z end le s p.
          let q : Stands input place (s.front ++ s.back) end = subst (λ (o : List ℕ). Stands input place o end) s.parts p in
          let front = Stands-front input place s.front s.back end q in
          let back = Stands-back input place s.front s.back end q in
          rw (r1.again input place s.front z.0 (place + length s.front) le s.first front, r2.again input (place + length s.front) s.back z.1 end (Stands-within input place s.front (place + length s.front) le front) s.second back) refl;
      some = λ octets z s. omega (arith, ap length s.parts, length-append s.front s.back, r1.some s.front z.0 s.first);
    }

-- ---- what a field holds of a value

pub record Holds {X Y : Type 0} (Spells : List ℕ → X → Type 0) (hold : X → Option Y) (Held : List ℕ → Y → Type 0) : Type 0 where
  pub to : (octets : List ℕ) (x : X) (y : Y) → Spells octets x → hold x ≡ Some y → Held octets y
  pub from : (octets : List ℕ) (y : Y) → Held octets y → (x : X) × Spells octets x × (hold x ≡ Some y)

abbrev ended : {Y : Type 0} → ℕ → Y → Result (Y × ℕ) TagFault
ended end y = Ok (y, end)

abbrev held : {X Y : Type 0} → (X → Option Y) → ℕ → X × ℕ → Result (Y × ℕ) TagFault
held hold place x = ok_or (hold x.0) (BadLength place) >>= ended x.1

pub held_reader : {X Y : Type 0} (Spells : List ℕ → X → Type 0) (read : Reads X) (hold : X → Option Y) (Held : List ℕ → Y → Type 0) → Reader Spells read → Holds Spells hold Held → Reader Held (held_at hold read)
held_reader {X = X} {Y = Y} Spells read hold Held r h =
    record {
      found = λ input place z bytes le e.
          let a = bind_ok (read input place) (held hold place) z e in
          let s = r.found input place a.0 bytes le a.1 in
          let b = bind_ok (ok_or (hold a.0.0) (BadLength place)) (ended a.0.1) z a.2 in
          subst (λ (y : Y × ℕ). Spelled Held input place y.0 y.1) (ok_is (b.0, a.0.1) z b.2) (record { octets = s.octets; stands = s.stands; spells = h.to s.octets a.0.0 b.0 s.spells (some_ok (hold a.0.0) (BadLength place) b.0 b.1) });
      again = λ input place octets y end le s p. let x = h.from octets y s in rw (r.again input place octets x.0 end le x.1 p, x.2) refl;
      some = λ octets y s. let x = h.from octets y s in r.some octets x.0 x.1;
    }

pub number_reader : (number : ℕ) → Reader (SpellsNumber number) (number_at number)
number_reader number = unsigned_reader number

octet_holds : (number : ℕ) → Holds (SpellsNumber number) octet_of (SpellsOctetNumber number)
octet_holds number = record { to = λ octets x y s e. to octets x y s e (ltb x 256) refl; from = λ octets y s. (y, s.0, rw (lt-ltb y 256 s.1) refl) }
  where
    to : (octets : List ℕ) (x y : ℕ) → SpellsNumber number octets x → octet_of x ≡ Some y → (b : Bool) → ltb x 256 ≡ b → SpellsOctetNumber number octets y
    to octets x y s e true b = let same : x ≡ y = let h = rw b at e in cc in (subst (SpellsNumber number octets) same s, subst (λ (n : ℕ). n < 256) same (ltb-true x 256 b))
    to octets x y s e false b = absurd (let h = rw b at e in cc)

pub octet_number_reader : (number : ℕ) → Reader (SpellsOctetNumber number) (octet_number_at number)
unfolding octet_number_at
octet_number_reader number = held_reader (SpellsNumber number) (number_at number) octet_of (SpellsOctetNumber number) (number_reader number) (octet_holds number)

-- ---- states and reliabilities

-- what is found passes the test
find_true : {X : Type 0} (p : X → Bool) (xs : List X) (y : X) → find p xs ≡ Some y → p y ≡ true
find_true p [] y e = absurd cc
find_true p (x ∷ xs) y e = elim (cases_Bool (p x)) [
  | inl holds ↦ let same : x ≡ y = let h = rw holds at e in cc in subst (λ (z : _). p z ≡ true) same holds
  | inr not ↦ find_true p xs y (rw not at e)
]

state_found : (n : ℕ) (state : EventState) → state_of_number n ≡ Some state → n ≡ number_of_state state
state_found n state e = sym (eqb-true _ _ (find_true (λ state. eqb (number_of_state state) n) event_states state e))

state_again : (state : EventState) → state_of_number (number_of_state state) ≡ Some state
state_again states.Normal = refl
state_again states.Fault = refl
state_again states.Offnormal = refl
state_again states.HighLimit = refl
state_again states.LowLimit = refl

state_holds : (number : ℕ) → Holds (SpellsNumber number) state_of_number (SpellsState number)
state_holds number = record { to = λ octets x y s e. subst (SpellsNumber number octets) (state_found x y e) s; from = λ octets y s. (number_of_state y, s, state_again y) }

pub state_reader : (number : ℕ) → Reader (SpellsState number) (state_at number)
unfolding state_at
state_reader number = held_reader (SpellsNumber number) (number_at number) state_of_number (SpellsState number) (number_reader number) (state_holds number)

reliability_found : (n : ℕ) (reliability : Reliable) → reliability_of_number n ≡ Some reliability → n ≡ number_of_reliability reliability
reliability_found n reliability e = sym (eqb-true _ _ (find_true (λ reliability. eqb (number_of_reliability reliability) n) all_reliabilities reliability e))

reliability_again : (reliability : Reliable) → reliability_of_number (number_of_reliability reliability) ≡ Some reliability
reliability_again reliabilities.NoFaultDetected = refl
reliability_again reliabilities.OverRange = refl
reliability_again reliabilities.UnderRange = refl
reliability_again reliabilities.UnreliableOther = refl
reliability_again reliabilities.MultiStateFault = refl
reliability_again reliabilities.CommunicationFailure = refl
reliability_again reliabilities.MonitoredObjectFault = refl

pub reliability_holds : (number : ℕ) → Holds (SpellsNumber number) reliability_of_number (SpellsReliability number)
reliability_holds number = record { to = λ octets x y s e. subst (SpellsNumber number octets) (reliability_found x y e) s; from = λ octets y s. (number_of_reliability y, s, reliability_again y) }

-- ---- status flags

abbrev four : Bool → Bool → Bool → Bool → StatusFlags
four a b c d = record { in_alarm = a; fault = b; overridden = c; out_of_service = d }

flags_again : (a b c d : Bool) → flags_of (bits_of_flags (four a b c d)) ≡ Some (four a b c d)
flags_again true true true true = refl
flags_again true true true false = refl
flags_again true true false true = refl
flags_again true true false false = refl
flags_again true false true true = refl
flags_again true false true false = refl
flags_again true false false true = refl
flags_again true false false false = refl
flags_again false true true true = refl
flags_again false true true false = refl
flags_again false true false true = refl
flags_again false true false false = refl
flags_again false false true true = refl
flags_again false false true false = refl
flags_again false false false true = refl
flags_again false false false false = refl

bit_is : (n : ℕ) → from_bool (eqb (n % 2) 1) ≡ n % 2
bit_is n = elim (cases_eq (n % 2) 1) [
  | inl one ↦ ap from_bool (eq-eqb (n % 2) 1 one) ∙ sym one
  | inr not ↦ ap from_bool (ne_eqb (n % 2) 1 not) ∙ omega arith
]

four_bits : (n : ℕ) → n < 16 → from_bool (eqb (n % 2) 1) + 2 * from_bool (eqb (n / 2 % 2) 1) + 4 * from_bool (eqb (n / 4 % 2) 1) + 8 * from_bool (eqb (n / 8 % 2) 1) ≡ n
four_bits n lt = omega (arith, bit_is n, bit_is (n / 2), bit_is (n / 4), bit_is (n / 8))

abbrev string : ℕ → ℕ → BitsData
string size bits = record { size = size; bits = bits }

flags_found : (bits : BitsData) (flags : StatusFlags) → bits.size ≡ 4 → bits.bits < 16 → flags_of bits ≡ Some flags → bits ≡ bits_of_flags flags
flags_found bits flags four_long small e =
    let h : Some (four (eqb (bits.bits % 2) 1) (eqb (bits.bits / 2 % 2) 1) (eqb (bits.bits / 4 % 2) 1) (eqb (bits.bits / 8 % 2) 1)) ≡ Some flags = rw (eq-eqb bits.size 4 four_long) at e in
    let same : four (eqb (bits.bits % 2) 1) (eqb (bits.bits / 2 % 2) 1) (eqb (bits.bits / 4 % 2) 1) (eqb (bits.bits / 8 % 2) 1) ≡ flags = cc in
    ap (λ (n : ℕ). string n bits.bits) four_long ∙ ap (string 4) (sym (four_bits bits.bits small)) ∙ ap bits_of_flags same

flags_size : (bits : BitsData) (flags : StatusFlags) → flags_of bits ≡ Some flags → bits.size ≡ 4
flags_size bits flags e = elim (cases_eq bits.size 4) [
  | inl same ↦ same
  | inr not ↦ absurd (let h = rw (ne_eqb bits.size 4 not) at e in cc)
]

bits_small : (content : List ℕ) (bits : BitsData) → IsBits content bits → bits.bits < 2 ^ bits.size
bits_small [] bits h = absurd h
bits_small (unused ∷ octets) bits h = rw h.3 (mirrored_small bits.size (big_number (length octets) octets / 2 ^ unused))

flags_hold : Holds (SpellsBits (Some 1)) flags_of SpellsFlags
flags_hold = record {
  to = λ octets x y s e.
      let size = flags_size x y e in
      let small : x.bits < 2 ^ 4 = subst (λ (n : ℕ). x.bits < 2 ^ n) size (bits_small s.content x s.is) in
      subst (SpellsBits (Some 1) octets) (flags_found x y size small e) s;
  from = λ octets y s. (bits_of_flags y, s, flags_again y.in_alarm y.fault y.overridden y.out_of_service);
}

pub flags_reader : Reader SpellsFlags flags_at
unfolding flags_at
flags_reader = held_reader (SpellsBits (Some 1)) (λ input place. bits_at input place (Some 1)) flags_of SpellsFlags (bits_reader 1) flags_hold

-- ---- texts

text_is : (content text : List ℕ) → text_of content ≡ Some text → IsTextContent content text
text_is [] text e = absurd cc
text_is (set ∷ rest) text e = elim (cases_Bool (eqb set 0 && nat_le (length rest) 256 && is_utf8 rest)) [
  | inl holds ↦
      let same : rest ≡ text = let h = rw holds at e in cc in
      let outer = and_parts (eqb set 0 && nat_le (length rest) 256) (is_utf8 rest) holds in
      let inner = and_parts (eqb set 0) (nat_le (length rest) 256) outer.0 in
      let zero : set ≡ 0 = eqb-true set 0 inner.0 in
      (ap (λ (n : ℕ). n ∷ rest) zero ∙ ap (λ (xs : List ℕ). 0 ∷ xs) same, subst (λ (xs : List ℕ). length xs ≤ 256) same (leb-true (length rest) 256 inner.1), subst IsUtf8 same (IsUtf8-from_is_utf8 rest outer.1))
  | inr not ↦ absurd (let h = rw not at e in cc)
]

text_one : (content text : List ℕ) → IsTextContent content text → text_of content ≡ Some text
text_one content text h =
    subst (λ (xs : List ℕ). text_of xs ≡ Some text) (sym h.0) (text_from (0 ∷ text) text (omega arith) refl h.1 refl h.2)

pub text_forms : Forms 1 257 text_of IsTextContent
text_forms = record {
  is = λ content x bytes right e. text_is content x e;
  right = λ content x h. (omega (arith, ap length h.0), omega (arith, ap length h.0, h.1));
  one = λ content x h. text_one content x h;
}

pub text_reader : (number : ℕ) → Reader (SpellsText number) (text_at number)
unfolding text_at
text_reader number = record {
  found = λ input place x bytes le e. spelled_found (SpellsText number) input place (text_at number input place) x e (reads_form 0 (Some number) 1 257 text_of IsTextContent text_forms input place (text_at number input place) bytes le refl).found;
  again = λ input place octets x end le s p. form_again 0 (Some number) 1 257 text_of IsTextContent text_forms input place le octets x end s p;
  some = λ octets x s. element_some 0 (Some number) IsTextContent octets x s;
}

-- ---- stamps and values

pub moment_reader : (number : ℕ) → Reader (SpellsMoment number) (moment_at number)
unfolding moment_at
moment_reader number = enclosed_reader (SpellsEnclosed 2 SpellsStamp) (enclosed_at stamp_at 2) number (enclosed_reader SpellsStamp stamp_at 2 stamp_reader)

value_some : (octets : List ℕ) (v : Value) → SpellsValue octets v → 1 ≤ length octets
value_some octets v (inl s) = tag_some octets _ s.2
value_some octets v (inr s) = element_some s.0 None _ octets v s.1

pub value_reader : Reader SpellsValue value_at
value_reader = record {
  found = λ input place x bytes le e. value_found input place x bytes le e;
  again = λ input place octets x end le s p. value_again input place le octets x end s p;
  some = λ octets x s. value_some octets x s;
}
