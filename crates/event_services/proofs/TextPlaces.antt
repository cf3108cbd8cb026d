-- Where a text stands that takes memory, and why a whole fails where a part does.
use Rattle.std.proofs.Common.{◌≡◌, ◌≢◌, ℕ, ◌≤◌, false, List, length, drop, Result, Ok, Err, refl, sym, ap, ◌∙◌, inl, inr}
use Rattle.bac_values.specs.declared.reliability.Reliability.{Reliability as Reliable}
use Rattle.bac_values.specs.declared.status_flags.StatusFlags.{StatusFlags}
use Rattle.bac_values.specs.declared.value.Value.{Value}
use Rattle.bac_values.specs.declared.value.Value.TheVariants as values
use Rattle.bac_tags.specs.declared.fault.TagFault.{TagFault}
use Rattle.bac_tags.specs.declared.fault.TagFault.TheVariants.{NoMemory}
use Rattle.bac_tags.specs.Places.{IsSpelledAt}
use Rattle.bac_tags.specs.Values.{SpellsValue}
use Rattle.bac_tags.specs.declared.tag.Tag.{Tag}
use Rattle.bac_tags.specs.declared.tag.Shape.{Shape}
use Rattle.bac_tags.specs.declared.tag.Shape.TheVariants.{Primitive, Opening, Closing}
use Rattle.bac_tags.specs.ReadingSteps.{tag_at, value_at, GivesValue}
use Rattle.bac_tags.specs.EnclosingTags.{SpellsEnclosed}
use Rattle.bac_tags.specs.EnclosingSteps.{is_closing, opening_at, enclosed_at}
use Rattle.bac_tags.proofs.Steps.{err_is}
use Rattle.bac_tags.proofs.Standing.{IsBytes}
use Rattle.bac_tags.proofs.ElementReaders.{Reader, spelled_to, opening_found, enclosed_reader}
use Rattle.event_services.specs.declared.notification.EventValues.{EventValues}
use Rattle.event_services.specs.NoteGrammar.{SpellsNumber, SpellsText, SpellsPresentValue}
use Rattle.event_services.specs.NoteTexts.{IsAfter, IsInside, IsText, IsTextValue, HoldsText, IsTextOfCommand, IsTextOfChange, IsTextOfProperty, IsTextOfReliability, IsTextTold}
use Rattle.event_services.specs.NoteReadingSteps.{Reads, GivesRead, held_at, number_at, flags_at, text_at, present_value, property_value_at, properties_at, reliability_number_at, commanded_at, changed_text_at, reliability_at, told_at, values_at}
use Rattle.event_services.proofs.NoteReaders.{held_reader, number_reader, text_reader, value_reader}
use Rattle.event_services.proofs.ToldReaders.{present_holds}

-- ---- what a call answers

pub read_ok : {X : Type 0} (Text : Type 0) (x : X) (read : Result X TagFault) → GivesRead Text (Ok x) read → read ≡ Ok x
read_ok Text x read (inl e) = sym e
read_ok Text x read (inr e) = absurd (let bad = e.0 in cc)

abbrev failed : {X : Type 0} → TagFault → Result X TagFault
failed fault = Err fault

pub passes : {X Y : Type 0} (Text Other : Type 0) (e : TagFault) (read : Result X TagFault) (answer whole : Result Y TagFault) → GivesRead Text (Err e) read → answer ≡ Err e → (read ≡ Err e → whole ≡ Err e) → (Text → Other) → GivesRead Other answer whole
passes Text Other e read answer whole (inl same) is fails there = inl (is ∙ sym (fails (sym same)))
passes {X = X} Text Other e read answer whole (inr none) is fails there = inr (is ∙ ap Err (err_is {A = X} e NoMemory none.0), there none.1)

-- ---- where it stands

pub text_there : (input : List ℕ) (place number : ℕ) (text : List ℕ) (end : ℕ) → IsBytes input → place ≤ length input → text_at number input place ≡ Ok (text, end) → IsText number input place
text_there input place number text end bytes le e =
    record { value = text; end = end; spelled = spelled_to (SpellsText number) input place text end ((text_reader number).found input place (text, end) bytes le e) }

pub after : {X : Type 0} (Spells : List ℕ → X → Type 0) (read : Reads X) → Reader Spells read → (Holds : List ℕ → ℕ → Type 0) (input : List ℕ) (place : ℕ) (x : X) (end : ℕ) → IsBytes input → place ≤ length input → read input place ≡ Ok (x, end) → Holds input end → IsAfter Spells Holds input place
after Spells read r Holds input place x end bytes le e h = record { value = x; end = end; there = spelled_to Spells input place x end (r.found input place (x, end) bytes le e); holds = h }

pub inside : (number : ℕ) (Holds : List ℕ → ℕ → Type 0) (input : List ℕ) (place end : ℕ) → IsBytes input → opening_at input place number ≡ Ok end → Holds input end → IsInside number Holds input place
inside number Holds input place end bytes e h =
    let s = opening_found number input place end bytes e in
    record { value = tt; end = end; there = record { octets = s.octets; rest = drop end input; spelled = s.tagged; there = s.stands.parts; ends = s.stands.ends }; holds = h }

-- ---- a value between tags

enclosed_err : (input : List ℕ) (place number start : ℕ) (e : TagFault) → opening_at input place number ≡ Ok start → value_at input start ≡ Err e → enclosed_at value_at number input place ≡ Err e
enclosed_err input place number start e opened h = rw (opened, h) refl

pub value_fails : (input : List ℕ) (place number start : ℕ) (e : TagFault) (answer : Result (Value × ℕ) TagFault) → IsBytes input → opening_at input place number ≡ Ok start → GivesValue (Err e) (value_at input start)
    → (failed {X = Value × ℕ} e ≡ failed NoMemory → (text : List ℕ) × (end : ℕ) × IsSpelledAt SpellsValue input start (values.Text text) end) → answer ≡ Err e → GivesRead (HoldsText number input place) answer (enclosed_at value_at number input place)
value_fails input place number start e answer bytes opened (inl same) text is = inl (is ∙ sym (enclosed_err input place number start e opened (sym same)))
value_fails input place number start e answer bytes opened (inr none) text is =
    let there = text none.0 in
    inr (is ∙ none.0, inside number IsTextValue input place start bytes opened (record { value = there.0; end = there.1; spelled = said there.0 there.1 there.2 }))
  where
    said : (text : List ℕ) (end : ℕ) → IsSpelledAt SpellsValue input start (values.Text text) end → IsSpelledAt (λ octets text. SpellsValue octets (values.Text text)) input start text end
    said text end s = record { octets = s.octets; rest = s.rest; spelled = s.spelled; there = s.there; ends = s.ends }

pub held_value : (number : ℕ) → Reader (SpellsEnclosed number SpellsValue) (enclosed_at value_at number)
held_value number = enclosed_reader SpellsValue value_at number value_reader

pub present_reader : Reader SpellsPresentValue (held_at present_value (number_at 0))
present_reader = held_reader (SpellsNumber 0) (number_at 0) present_value SpellsPresentValue (number_reader 0) present_holds

-- ---- why the whole fails where a part does

pub command_fails : (input : List ℕ) (place : ℕ) (e : TagFault) → enclosed_at value_at 0 input place ≡ Err e → commanded_at input place ≡ Err e
unfolding commanded_at
command_fails input place e h = rw h refl

pub feedback_fails : (input : List ℕ) (place : ℕ) (command : Value) (after : ℕ) (flags : StatusFlags) (behind : ℕ) (e : TagFault) → enclosed_at value_at 0 input place ≡ Ok (command, after) → flags_at input after ≡ Ok (flags, behind) → enclosed_at value_at 2 input behind ≡ Err e → commanded_at input place ≡ Err e
unfolding commanded_at
feedback_fails input place command after flags behind e a b h = rw (a, b, h) refl

pub changed_fails : (input : List ℕ) (place : ℕ) (e : TagFault) → text_at 0 input place ≡ Err e → changed_text_at input place ≡ Err e
unfolding changed_text_at
changed_fails input place e h = rw h refl

pub alarm_fails : (input : List ℕ) (place : ℕ) (changed : List ℕ) (after : ℕ) (flags : StatusFlags) (behind : ℕ) (e : TagFault) → text_at 0 input place ≡ Ok (changed, after) → flags_at input after ≡ Ok (flags, behind) → text_at 2 input behind ≡ Err e → changed_text_at input place ≡ Err e
unfolding changed_text_at
alarm_fails input place changed after flags behind e a b h = rw (a, b, h) refl

pub properties_fail : (input : List ℕ) (place : ℕ) (reliability : Reliable) (after : ℕ) (flags : StatusFlags) (behind : ℕ) (e : TagFault) → reliability_number_at 0 input place ≡ Ok (reliability, after) → flags_at input after ≡ Ok (flags, behind) → properties_at input behind ≡ Err e → reliability_at input place ≡ Err e
unfolding reliability_at
properties_fail input place reliability after flags behind e a b h = rw (a, b, h) refl

pub present_value_passes : (input : List ℕ) (place after : ℕ) (read : Result (Value × ℕ) TagFault) → number_at 0 input place ≡ Ok (85, after) → enclosed_at value_at 2 input after ≡ read → property_value_at input place ≡ read
unfolding property_value_at
present_value_passes input place after (Ok x) a h = rw (a, h) refl
present_value_passes input place after (Err e) a h = rw (a, h) refl

pub property_fails : (input : List ℕ) (place start : ℕ) (tag : Tag × ℕ) (e : TagFault) → opening_at input place 2 ≡ Ok start → tag_at input start ≡ Ok tag → is_closing tag.0.shape ≡ false → property_value_at input start ≡ Err e → properties_at input place ≡ Err e
unfolding properties_at
property_fails input place start tag e a b opens h = rw (a, b, opens, h) refl

pub told_fails : (type : ℕ) (input : List ℕ) (place outer start : ℕ) (e : TagFault) → opening_at input place 12 ≡ Ok outer → opening_at input outer type ≡ Ok start → told_at type input start ≡ Err e → values_at type input place ≡ Err e
unfolding values_at
told_fails type input place outer start e a b h = rw (a, b, h) refl

present_there : (input : List ℕ) (place after : ℕ) → number_at 0 input place ≡ Ok (85, after) → held_at present_value (number_at 0) input place ≡ Ok (tt, after)
present_there input place after a = rw a refl

pub value_passes : (input : List ℕ) (place behind : ℕ) (answer : Result (Value × ℕ) TagFault) → IsBytes input → place ≤ length input → number_at 0 input place ≡ Ok (85, behind) → GivesRead (HoldsText 2 input behind) answer (enclosed_at value_at 2 input behind)
    → GivesRead (IsTextOfProperty input place) answer (property_value_at input place)
value_passes input place behind answer bytes le a (inl same) = inl (same ∙ sym (present_value_passes input place behind (enclosed_at value_at 2 input behind) a refl))
value_passes input place behind answer bytes le a (inr none) = inr (none.0, after SpellsPresentValue (held_at present_value (number_at 0)) present_reader (HoldsText 2) input place tt behind bytes le (present_there input place behind a) none.1)

-- ---- by the event's type

abbrev Told : ℕ → List ℕ → ℕ → Result (EventValues × ℕ) TagFault → Type 0
Told type input place answer = GivesRead (IsTextTold type input place) answer (told_at type input place)

pub command_told : (type : ℕ) (input : List ℕ) (place : ℕ) (answer : Result (EventValues × ℕ) TagFault) → type ≡ 3 → GivesRead (IsTextOfCommand input place) answer (commanded_at input place) → Told type input place answer
unfolding told_at
command_told type input place answer is (inl same) = inl (same ∙ sym (ap (λ (n : ℕ). told_at n input place) is))
command_told type input place answer is (inr none) = inr (none.0, inl (is, none.1))

pub change_told : (type : ℕ) (input : List ℕ) (place : ℕ) (answer : Result (EventValues × ℕ) TagFault) → type ≡ 17 → GivesRead (IsTextOfChange input place) answer (changed_text_at input place) → Told type input place answer
unfolding told_at
change_told type input place answer is (inl same) = inl (same ∙ sym (ap (λ (n : ℕ). told_at n input place) is))
change_told type input place answer is (inr none) = inr (none.0, inr (inl (is, none.1)))

pub reliability_told : (type : ℕ) (input : List ℕ) (place : ℕ) (answer : Result (EventValues × ℕ) TagFault) → type ≡ 19 → GivesRead (IsTextOfReliability input place) answer (reliability_at input place) → Told type input place answer
unfolding told_at
reliability_told type input place answer is (inl same) = inl (same ∙ sym (ap (λ (n : ℕ). told_at n input place) is))
reliability_told type input place answer is (inr none) = inr (none.0, inr (inr (is, none.1)))

pub not_closing : (shape : Shape) → shape ≢ Closing → is_closing shape ≡ false
not_closing (Primitive n) other = refl
not_closing Opening other = refl
not_closing Closing other = absurd (other refl)
