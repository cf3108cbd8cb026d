-- Why octets aren't a notification, exactly: the first parameter that is refused, or octets behind the last.
use Rattle.std.proofs.Common.{◌≡◌, ℕ, ◌<◌, ◌≤◌, Option, Some, None, List, length, drop, Result, Ok, Err, refl, sym, ap, subst, ◌∙◌, arith, inl, inr}
use Rattle.std.specs.Prelude.{◌⊎◌, ◌↔◌, IfOk}
use Rattle.std.proofs.lemmas.Bool.{cases_lt, cases_eq, eq-eqb, ne_eqb}
use Rattle.bac_values.specs.EventStates.{state_of_number}
use Rattle.bac_tags.specs.declared.fault.TagFault.{TagFault}
use Rattle.bac_tags.specs.declared.fault.TagFault.TheVariants.{Truncated, WrongTag, BadLength, NoMemory}
use Rattle.bac_tags.specs.declared.malformed.Malformed.{Malformed}
use Rattle.bac_tags.specs.Places.{IsSpelledAt}
use Rattle.bac_tags.specs.Elements.{HasOtherTag}
use Rattle.bac_tags.specs.Contents.{IsBoolean, SpellsObject, SpellsBoolean}
use Rattle.bac_tags.specs.ReadingSteps.{◌>>=◌, unsigned_at, boolean_of, boolean_at}
use Rattle.bac_tags.specs.Refusals.{invalid_tag, RefusesRequired, RefusesOptional, RefusesMore, Behind}
use Rattle.bac_tags.specs.Parameters.{IsOptionalAt}
use Rattle.bac_tags.specs.ParameterReadingSteps.{or_absent, optional, nothing_follows}
use Rattle.bac_tags.proofs.Steps.{bind_err, ok_is}
use Rattle.bac_tags.proofs.Standing.{IsBytes}
use Rattle.bac_tags.proofs.Booleans.{boolean_forms}
use Rattle.bac_tags.proofs.Readers.{reads_form, form_err}
use Rattle.bac_tags.proofs.ElementReaders.{Reader, object_reader, boolean_reader, spelled_from, spelled_to}
use Rattle.bac_tags.proofs.RequiredReaders.{reads_optional, optional_inside, optional_outside, absent_other}
use Rattle.bac_tags.proofs.Sequences.{optional_err, nothing_more, nothing_err}
use Rattle.bac_tags.proofs.ParameterAnswers.{Answers}
use Rattle.bac_tags.proofs.ElementAnswers.{Element, ends_within, optional_ends, begins_before, required_answers, of_optional, unsigned_reads}
use Rattle.event_services.specs.declared.notification.Notification.{Notification}
use Rattle.event_services.specs.declared.notification.EventValues.{EventValues}
use Rattle.event_services.specs.NoteReadingSteps.{Reads, number_at, octet_number_at, state_at, text_of, text_at, moment_at, values_at}
use Rattle.event_services.specs.NoteServiceSteps.{source_at, kind_at, states_at, notification_of}
use Rattle.event_services.specs.NoteGrammar.{SpellsNumber, SpellsOctetNumber, SpellsState, IsTextContent, SpellsText, SpellsMoment, SpellsValuesOf}
use Rattle.event_services.specs.NoteRefusals.{HasNoValues, AreValuesAt, RefusesValues, RefusesNotification}
use Rattle.event_services.proofs.NoteChain.{Source, Kind, States, note_of}
use Rattle.event_services.proofs.NoteReaders.{number_reader, octet_number_reader, state_reader, text_reader, text_forms, moment_reader}
use Rattle.event_services.proofs.ToldReaders.{values_reader}
use Rattle.event_services.proofs.NoteLaws.{last3, rest3, more3, last4, rest4, more4, all4, needed, allowed, object_in, boolean_in, from_values, from_states, from_text, from_kind, from_source, chain, is_chain}
use Rattle.event_services.proofs.LateFaults.{values_wrong}

-- ---- steps, by why they refuse

abbrev pub Exactly : {X : Type 0} → (Malformed → Type 0) → Result X Malformed → Type 0
Exactly Refuses read = (fault : Malformed) → (read ≡ Err fault) ↔ Refuses fault

next_exactly : {X Y : Type 0} (Is : X → ℕ → Type 0) (Refuses : Malformed → Type 0) (read : Result (X × ℕ) Malformed) (Follows : X → ℕ → Malformed → Type 0) (next : X × ℕ → Result Y Malformed)
    → Answers Is Refuses read → ((x : X) (place : ℕ) → Is x place → Exactly (Follows x place) (next (x, place))) → Exactly (λ fault. Refuses fault ⊎ Behind Is (λ x place. Follows x place fault)) (read >>= next)
next_exactly {X = X} {Y = Y} Is Refuses read Follows next a b fault = (refused, refuses)
  where
    refused : (read >>= next) ≡ Err fault → Refuses fault ⊎ Behind Is (λ x place. Follows x place fault)
    refused e =
        elim (bind_err read next fault e) [
          | inl here ↦ inl (a.refused fault here)
          | inr later ↦
              let there = a.found later.0 later.1 in
              inr (record { value = later.0.0; end = later.0.1; there = there; holds = (b later.0.0 later.0.1 there fault).0 later.2 })
        ]

    refuses : Refuses fault ⊎ Behind Is (λ x place. Follows x place fault) → (read >>= next) ≡ Err fault
    refuses (inl h) = ap (λ (r : Result (X × ℕ) Malformed). r >>= next) (a.refuses fault h)
    refuses (inr h) = ap (λ (r : Result (X × ℕ) Malformed). r >>= next) (a.only h.value h.end h.there) ∙ (b h.value h.end h.there fault).1 h.holds

bind_bind : {A B C : Type 0} (r : Result A Malformed) (f : A → Result B Malformed) (g : B → Result C Malformed) → ((r >>= f) >>= g) ≡ (r >>= λ x. f x >>= g)
bind_bind (Ok x) f g = refl
bind_bind (Err e) f g = refl

-- the first step of several
first_exactly : {X Y Z : Type 0} (Is : X → ℕ → Type 0) (Refuses : Malformed → Type 0) (read : Result (X × ℕ) Malformed) (Follows : X → ℕ → Malformed → Type 0) (f : X × ℕ → Result Y Malformed) (g : Y → Result Z Malformed)
    → Answers Is Refuses read → ((x : X) (place : ℕ) → Is x place → Exactly (Follows x place) (f (x, place) >>= g)) → Exactly (λ fault. Refuses fault ⊎ Behind Is (λ x place. Follows x place fault)) ((read >>= f) >>= g)
first_exactly {Z = Z} Is Refuses read Follows f g a b fault =
    let whole = next_exactly Is Refuses read Follows (λ x. f x >>= g) a b fault in
    (λ e. whole.0 (sym (bind_bind read f g) ∙ e), λ h. bind_bind read f g ∙ whole.1 h)

-- a step at any place
record Step {X : Type 0} (input : List ℕ) (read : List ℕ → ℕ → Result (X × ℕ) Malformed) (Is : ℕ → X → ℕ → Type 0) (Refuses : ℕ → Malformed → Type 0) : Type 0 where
  answers : (place : ℕ) → place ≤ length input → Answers (Is place) (Refuses place) (read input place)
  within : (place : ℕ) (x : X) (end : ℕ) → place ≤ length input → Is place x end → end ≤ length input

abbrev Reading : Type 0 → Type 0
Reading X = List ℕ → ℕ → Result (X × ℕ) Malformed

three_exactly : {A B C Z : Type 0} (input : List ℕ) (ra : Reading A) (rb : Reading B) (rc : Reading C) (IA : ℕ → A → ℕ → Type 0) (IB : ℕ → B → ℕ → Type 0) (IC : ℕ → C → ℕ → Type 0) (FA FB FC : ℕ → Malformed → Type 0)
    → Step input ra IA FA → Step input rb IB FB → Step input rc IC FC → (place : ℕ) → place ≤ length input → (g : (A × B × C) × ℕ → Result Z Malformed) (Follows : A → B → C → ℕ → Malformed → Type 0)
    → ((a : A) (b : B) (c : C) (end : ℕ) → end ≤ length input → Exactly (Follows a b c end) (g ((a, b, c), end)))
    → Exactly (λ fault. FA place fault ⊎ Behind (IA place) (λ a place. FB place fault ⊎ Behind (IB place) (λ b place. FC place fault ⊎ Behind (IC place) (λ c place. Follows a b c place fault)))) ((ra input place >>= more3 rb rc input) >>= g)
three_exactly {A = A} {B = B} {C = C} input ra rb rc IA IB IC FA FB FC sa sb sc place le g Follows k =
    first_exactly (IA place) (FA place) (ra input place) (λ a place fault. FB place fault ⊎ Behind (IB place) (λ b place. FC place fault ⊎ Behind (IC place) (λ c place. Follows a b c place fault))) (more3 rb rc input) g (sa.answers place le) (λ a p there.
    let lp = sa.within place a p le there in
    first_exactly (IB p) (FB p) (rb input p) (λ b place fault. FC place fault ⊎ Behind (IC place) (λ c place. Follows a b c place fault)) (rest3 rc input a) g (sb.answers p lp) (λ b q there.
    let lq = sb.within p b q lp there in
    first_exactly (IC q) (FC q) (rc input q) (Follows a b) (last3 a b) g (sc.answers q lq) (λ c r there. k a b c r (sc.within q c r lq there))))

four_exactly : {A B C D Z : Type 0} (input : List ℕ) (ra : Reading A) (rb : Reading B) (rc : Reading C) (rd : Reading D) (IA : ℕ → A → ℕ → Type 0) (IB : ℕ → B → ℕ → Type 0) (IC : ℕ → C → ℕ → Type 0) (ID : ℕ → D → ℕ → Type 0) (FA FB FC FD : ℕ → Malformed → Type 0)
    → Step input ra IA FA → Step input rb IB FB → Step input rc IC FC → Step input rd ID FD → (place : ℕ) → place ≤ length input → (g : (A × B × C × D) × ℕ → Result Z Malformed) (Follows : A → B → C → D → ℕ → Malformed → Type 0)
    → ((a : A) (b : B) (c : C) (d : D) (end : ℕ) → end ≤ length input → Exactly (Follows a b c d end) (g ((a, b, c, d), end)))
    → Exactly (λ fault. FA place fault ⊎ Behind (IA place) (λ a place. FB place fault ⊎ Behind (IB place) (λ b place. FC place fault ⊎ Behind (IC place) (λ c place. FD place fault ⊎ Behind (ID place) (λ d place. Follows a b c d place fault))))) ((ra input place >>= all4 rb rc rd input) >>= g)
four_exactly {A = A} {B = B} {C = C} {D = D} input ra rb rc rd IA IB IC ID FA FB FC FD sa sb sc sd place le g Follows k =
    first_exactly (IA place) (FA place) (ra input place) (λ a place fault. FB place fault ⊎ Behind (IB place) (λ b place. FC place fault ⊎ Behind (IC place) (λ c place. FD place fault ⊎ Behind (ID place) (λ d place. Follows a b c d place fault)))) (all4 rb rc rd input) g (sa.answers place le) (λ a p there.
    let lp = sa.within place a p le there in
    first_exactly (IB p) (FB p) (rb input p) (λ b place fault. FC place fault ⊎ Behind (IC place) (λ c place. FD place fault ⊎ Behind (ID place) (λ d place. Follows a b c d place fault))) (more4 rc rd input a) g (sb.answers p lp) (λ b q there.
    let lq = sb.within p b q lp there in
    first_exactly (IC q) (FC q) (rc input q) (λ c place fault. FD place fault ⊎ Behind (ID place) (λ d place. Follows a b c d place fault)) (rest4 rd input a b) g (sc.answers q lq) (λ c r there.
    let lr = sc.within q c r lq there in
    first_exactly (ID r) (FD r) (rd input r) (Follows a b c) (last4 a b c) g (sd.answers r lr) (λ d s there. k a b c d s (sd.within r d s lr there)))))

-- ---- parameters that have to be there

of_reader : {X : Type 0} (Spells : List ℕ → X → Type 0) (read : Reads X) → Reader Spells read → (input : List ℕ) (place : ℕ) → IsBytes input → place ≤ length input → Element Spells input place (read input place)
of_reader Spells read r input place bytes le =
    record {
      found = λ x e. spelled_to Spells input place x.0 x.1 (r.found input place x bytes le e);
      only = λ x end s. let p = spelled_from Spells input place x end s in r.again input place p.octets x end le p.spells p.stands;
      some = λ x end s. begins_before input place s.octets s.rest s.there (omega (arith, r.some s.octets x s.spelled));
    }

abbrev Needed : {X : Type 0} → (List ℕ → X → Type 0) → Reads X → List ℕ → Type 0
Needed Spells read input = Step input (needed read) (IsSpelledAt Spells input) (RefusesRequired Spells input)

needed_step : {X : Type 0} (Spells : List ℕ → X → Type 0) (read : Reads X) → Reader Spells read → (input : List ℕ) → IsBytes input → Needed Spells read input
needed_step Spells read r input bytes =
    record {
      answers = λ place le. required_answers Spells input place (read input place) le (of_reader Spells read r input place bytes le);
      within = λ place x end le s. ends_within Spells input place x end le s;
    }

-- ---- parameters that may be absent

abbrev Wrong : {X : Type 0} → Reads X → ℕ → List ℕ → Type 0
Wrong read number input = (place : ℕ) → place ≤ length input → (read input place ≡ Err (WrongTag place)) ↔ HasOtherTag 0 (Some number) (drop place input)

if_found : {X : Type 0} (P : X → Type 0) (read : Result X TagFault) → ((x : X) → read ≡ Ok x → P x) → IfOk read P
if_found P (Ok x) f = f x refl
if_found P (Err e) f = tt

abbrev Allowed : {X : Type 0} → (List ℕ → X → Type 0) → Reads X → ℕ → List ℕ → Type 0
Allowed Spells read number input = Step input (allowed read) (IsOptionalAt Spells number input) (RefusesOptional Spells number input)

allowed_step : {X : Type 0} (Spells : List ℕ → X → Type 0) (read : Reads X) (number : ℕ) → Reader Spells read → (input : List ℕ) → IsBytes input → Wrong read number input → Allowed Spells read number input
allowed_step {X = X} Spells read number r input bytes wrong =
    record {
      answers = λ place le. of_optional Spells number input place (read input place) (reads_optional Spells 0 number input place (read input place) (optional input place (read input place)) le (found place le) (of_reader Spells read r input place bytes le).only (within place le) (wrong place le) refl);
      within = λ place x end le s. optional_ends Spells number input place x end le s;
    }
  where
    found : (place : ℕ) → place ≤ length input → IfOk (read input place) (λ x. IsSpelledAt Spells input place x.0 x.1)
    found place le = if_found (λ x. IsSpelledAt Spells input place x.0 x.1) (read input place) (of_reader Spells read r input place bytes le).found

    within : (place : ℕ) → place ≤ length input → IfOk (read input place) (λ x. (place < x.1) × (x.1 ≤ length input))
    within place le =
        if_found (λ x. (place < x.1) × (x.1 ≤ length input)) (read input place) (λ x e.
        let s = (of_reader Spells read r input place bytes le).found x e in
        let some = r.some s.octets x.0 s.spelled in
        (omega (arith, s.ends, some), ends_within Spells input place x.0 x.1 le s))

-- in a context the number says all
of_type : (type number : ℕ) (octets : List ℕ) → HasOtherTag type (Some number) octets ↔ HasOtherTag 0 (Some number) octets
of_type type number octets = (
  λ h. record { header = h.header; rest = h.rest; tag = h.tag; parts = h.parts; tagged = h.tagged; other = h.other },
  λ h. record { header = h.header; rest = h.rest; tag = h.tag; parts = h.parts; tagged = h.tagged; other = h.other },
)

both : {A B C : Type 0} → A ↔ B → B ↔ C → A ↔ C
both f g = (λ a. g.0 (f.0 a), λ c. f.1 (g.1 c))

text_wrong : (number : ℕ) (input : List ℕ) → IsBytes input → Wrong (text_at number) number input
unfolding text_at
text_wrong number input bytes place le = (reads_form 0 (Some number) 1 257 text_of IsTextContent text_forms input place (text_at number input place) bytes le refl).wrong_tag

boolean_wrong : (number : ℕ) (input : List ℕ) → IsBytes input → Wrong (boolean_in number) number input
unfolding boolean_at
boolean_wrong number input bytes place le =
    both (reads_form 1 (Some number) 1 1 boolean_of IsBoolean boolean_forms input place (boolean_at input place (Some number)) bytes le refl).wrong_tag (of_type 1 number (drop place input))

state_wrong : (number : ℕ) (input : List ℕ) → IsBytes input → Wrong (state_at number) number input
unfolding state_at
state_wrong number input bytes place le = both (there, back) (both (unsigned_reads input place (Some number) bytes le).wrong_tag (of_type 2 number (drop place input)))
  where
    there : state_at number input place ≡ Err (WrongTag place) → unsigned_at input place (Some number) ≡ Err (WrongTag place)
    there e =
        elim (bind_err (number_at number input place) _ (WrongTag place) e) [
          | inl a ↦ a
          | inr a ↦ absurd (let bad = (form_err (state_of_number a.0.0) place a.0.1 (WrongTag place) a.2).1 in cc)
        ]

    back : unsigned_at input place (Some number) ≡ Err (WrongTag place) → state_at number input place ≡ Err (WrongTag place)
    back e = rw e refl

-- ---- the values

values_answers : (type : ℕ) (input : List ℕ) (place : ℕ) → IsBytes input → place ≤ length input → Answers (AreValuesAt type input place) (RefusesValues type input place) (allowed (values_at type) input place)
values_answers type input place bytes le = record { found = found; only = only; refused = refused; refuses = refuses }
  where
    element : Element (SpellsValuesOf type) input place (values_at type input place)
    element = of_reader (SpellsValuesOf type) (values_at type) (values_reader type) input place bytes le

    absent : Result (Option EventValues × ℕ) Malformed
    absent = Ok (None, place)

    found_in : (r : Result (EventValues × ℕ) TagFault) → ((y : EventValues × ℕ) → r ≡ Ok y → IsSpelledAt (SpellsValuesOf type) input place y.0 y.1) → (r ≡ Err (WrongTag place) → HasNoValues input place) → (x : Option EventValues × ℕ) → or_absent place r ≡ Ok x → AreValuesAt type input place x.0 x.1
    found_in (Ok y) f none x e = subst (λ (z : Option EventValues × ℕ). AreValuesAt type input place z.0 z.1) (ok_is (Some y.0, y.1) x e) (f y refl)
    found_in (Err (WrongTag wrong)) f none x e =
        elim (cases_eq wrong place) [
          | inl same ↦
              let h : absent ≡ Ok x = rw (eq-eqb wrong place same) at e in
              subst (λ (z : Option EventValues × ℕ). AreValuesAt type input place z.0 z.1) (ok_is (None, place) x h) (refl, none (ap (λ (n : ℕ). Err (WrongTag n)) same))
          | inr not ↦ absurd (let h = rw (ne_eqb wrong place not) at e in cc)
        ]
    found_in (Err (Truncated end)) f none x e = absurd cc
    found_in (Err (BadLength wrong)) f none x e = absurd cc
    found_in (Err NoMemory) f none x e = absurd cc

    found : (x : Option EventValues × ℕ) → allowed (values_at type) input place ≡ Ok x → AreValuesAt type input place x.0 x.1
    found x e =
        elim (cases_lt place (length input)) [
          | inl lt ↦ found_in (values_at type input place) element.found (λ h. inr ((values_wrong type input place bytes le).0 h)) x (sym (optional_inside input place (values_at type input place) lt) ∙ e)
          | inr past ↦ subst (λ (z : Option EventValues × ℕ). AreValuesAt type input place z.0 z.1) (ok_is (None, place) x (sym (optional_outside input place (values_at type input place) past) ∙ e)) (refl, inl (omega arith))
        ]

    none_at : HasNoValues input place → allowed (values_at type) input place ≡ Ok (None, place)
    none_at (inl past) = optional_outside input place (values_at type input place) (omega (arith, past))
    none_at (inr other) =
        elim (cases_lt place (length input)) [
          | inl lt ↦ optional_inside input place (values_at type input place) lt ∙ ap (or_absent place) ((values_wrong type input place bytes le).1 other) ∙ absent_other place
          | inr past ↦ optional_outside input place (values_at type input place) past
        ]

    only : (x : Option EventValues) (end : ℕ) → AreValuesAt type input place x end → allowed (values_at type) input place ≡ Ok (x, end)
    only (Some told) end s = optional_inside input place (values_at type input place) (element.some told end s) ∙ ap (or_absent place) (element.only told end s)
    only None end h = rw h.0 (none_at h.1)

    refused : (fault : Malformed) → allowed (values_at type) input place ≡ Err fault → RefusesValues type input place fault
    refused fault e =
        ((optional_err input place (values_at type input place) fault e).1, λ none. (let ok = none_at none in absurd cc), λ there. (let ok = only (Some there.value) there.end there.spelled in absurd cc))

    not_in : (r : Result (EventValues × ℕ) TagFault) → ((y : EventValues × ℕ) → r ≡ Ok y → ⊥) → (r ≡ Err (WrongTag place) → ⊥) → or_absent place r ≡ Err (invalid_tag place)
    not_in (Ok y) never here = absurd (never y refl)
    not_in (Err (WrongTag wrong)) never here = rw (ne_eqb wrong place (λ same. here (ap (λ (n : ℕ). Err (WrongTag n)) same))) refl
    not_in (Err (Truncated end)) never here = refl
    not_in (Err (BadLength wrong)) never here = refl
    not_in (Err NoMemory) never here = refl

    refuses : (fault : Malformed) → RefusesValues type input place fault → allowed (values_at type) input place ≡ Err fault
    refuses fault h =
        elim (cases_lt place (length input)) [
          | inl lt ↦
              optional_inside input place (values_at type input place) lt
              ∙ not_in (values_at type input place) (λ y e. h.2 (record { value = y.0; end = y.1; spelled = element.found y e })) (λ e. h.1 (inr ((values_wrong type input place bytes le).0 e)))
              ∙ ap (λ (f : Malformed). Err f) (sym h.0)
          | inr past ↦ absurd (h.1 (inl (omega arith)))
        ]

-- ---- the whole

abbrev given : Notification → Unit {0} → Result Notification Malformed
given note nothing = Ok note

more_exactly : (input : List ℕ) (place : ℕ) (note : Notification) → Exactly (RefusesMore input place) (nothing_follows input place >>= given note)
more_exactly input place note fault = (refused, refuses)
  where
    refused : (nothing_follows input place >>= given note) ≡ Err fault → RefusesMore input place fault
    refused e =
        elim (bind_err (nothing_follows input place) (given note) fault e) [
          | inl a ↦ let h = nothing_err input place fault a in (h.1, h.0)
          | inr a ↦ absurd (let bad = a.2 in cc)
        ]

    refuses : RefusesMore input place fault → (nothing_follows input place >>= given note) ≡ Err fault
    refuses h = ap (λ (r : Result (Unit {0}) Malformed). r >>= given note) (nothing_more input place h.1 ∙ ap (λ (f : Malformed). Err f) (sym h.0))

abbrev AfterStates : List ℕ → ℕ → ℕ → Malformed → Type 0
AfterStates input type place fault = RefusesValues type input place fault ⊎ Behind (AreValuesAt type input place) (λ told place. RefusesMore input place fault)

states_exactly : (input : List ℕ) (source : Source) (kind : Kind) (text : Option (List ℕ)) (states : States) → IsBytes input → states.1 ≤ length input → Exactly (AfterStates input kind.0.2 states.1) (from_states input source kind text states)
states_exactly input source kind text states bytes le =
    next_exactly (AreValuesAt kind.0.2 input states.1) (RefusesValues kind.0.2 input states.1) (allowed (values_at kind.0.2) input states.1) (λ told place. RefusesMore input place) (from_values input source kind text states)
    (values_answers kind.0.2 input states.1 bytes le) (λ told place there. more_exactly input place (note_of source kind text states told))

abbrev AfterText : List ℕ → ℕ → ℕ → Malformed → Type 0
AfterText input type place fault =
    RefusesRequired (SpellsOctetNumber 8) input place fault
    ⊎ Behind (IsSpelledAt (SpellsOctetNumber 8) input place) (λ notify place.
    RefusesOptional (SpellsBoolean (Some 9)) 9 input place fault
    ⊎ Behind (IsOptionalAt (SpellsBoolean (Some 9)) 9 input place) (λ ack_required place.
    RefusesOptional (SpellsState 10) 10 input place fault
    ⊎ Behind (IsOptionalAt (SpellsState 10) 10 input place) (λ from place.
    RefusesRequired (SpellsState 11) input place fault ⊎ Behind (IsSpelledAt (SpellsState 11) input place) (λ to place. AfterStates input type place fault))))

text_exactly : (input : List ℕ) (source : Source) (kind : Kind) (text : Option (List ℕ) × ℕ) → IsBytes input → text.1 ≤ length input → Exactly (AfterText input kind.0.2 text.1) (from_text input source kind text)
unfolding states_at
text_exactly input source kind text bytes le =
    four_exactly input (needed (octet_number_at 8)) (allowed (boolean_in 9)) (allowed (state_at 10)) (needed (state_at 11))
    (IsSpelledAt (SpellsOctetNumber 8) input) (IsOptionalAt (SpellsBoolean (Some 9)) 9 input) (IsOptionalAt (SpellsState 10) 10 input) (IsSpelledAt (SpellsState 11) input)
    (RefusesRequired (SpellsOctetNumber 8) input) (RefusesOptional (SpellsBoolean (Some 9)) 9 input) (RefusesOptional (SpellsState 10) 10 input) (RefusesRequired (SpellsState 11) input)
    (needed_step (SpellsOctetNumber 8) (octet_number_at 8) (octet_number_reader 8) input bytes)
    (allowed_step (SpellsBoolean (Some 9)) (boolean_in 9) 9 (boolean_reader 9) input bytes (boolean_wrong 9 input bytes))
    (allowed_step (SpellsState 10) (state_at 10) 10 (state_reader 10) input bytes (state_wrong 10 input bytes))
    (needed_step (SpellsState 11) (state_at 11) (state_reader 11) input bytes)
    text.1 le (from_states input source kind text.0) (λ notify ack from to. AfterStates input kind.0.2) (λ notify ack from to end within. states_exactly input source kind text.0 ((notify, ack, from, to), end) bytes within)

abbrev AfterKind : List ℕ → ℕ → ℕ → Malformed → Type 0
AfterKind input type place fault = RefusesOptional (SpellsText 7) 7 input place fault ⊎ Behind (IsOptionalAt (SpellsText 7) 7 input place) (λ text place. AfterText input type place fault)

kind_exactly : (input : List ℕ) (source : Source) (kind : Kind) → IsBytes input → kind.1 ≤ length input → Exactly (AfterKind input kind.0.2 kind.1) (from_kind input source kind)
kind_exactly input source kind bytes le =
    let step = allowed_step (SpellsText 7) (text_at 7) 7 (text_reader 7) input bytes (text_wrong 7 input bytes) in
    next_exactly (IsOptionalAt (SpellsText 7) 7 input kind.1) (RefusesOptional (SpellsText 7) 7 input kind.1) (allowed (text_at 7) input kind.1) (λ text place. AfterText input kind.0.2 place) (from_text input source kind)
    (step.answers kind.1 le) (λ text place there. text_exactly input source kind (text, place) bytes (step.within kind.1 text place le there))

abbrev AfterSource : List ℕ → ℕ → Malformed → Type 0
AfterSource input place fault =
    RefusesRequired (SpellsNumber 4) input place fault
    ⊎ Behind (IsSpelledAt (SpellsNumber 4) input place) (λ class place.
    RefusesRequired (SpellsOctetNumber 5) input place fault
    ⊎ Behind (IsSpelledAt (SpellsOctetNumber 5) input place) (λ priority place.
    RefusesRequired (SpellsOctetNumber 6) input place fault ⊎ Behind (IsSpelledAt (SpellsOctetNumber 6) input place) (λ type place. AfterKind input type place fault)))

source_exactly : (input : List ℕ) (source : Source) → IsBytes input → source.1 ≤ length input → Exactly (AfterSource input source.1) (from_source input source)
unfolding kind_at
source_exactly input source bytes le =
    three_exactly input (needed (number_at 4)) (needed (octet_number_at 5)) (needed (octet_number_at 6))
    (IsSpelledAt (SpellsNumber 4) input) (IsSpelledAt (SpellsOctetNumber 5) input) (IsSpelledAt (SpellsOctetNumber 6) input)
    (RefusesRequired (SpellsNumber 4) input) (RefusesRequired (SpellsOctetNumber 5) input) (RefusesRequired (SpellsOctetNumber 6) input)
    (needed_step (SpellsNumber 4) (number_at 4) (number_reader 4) input bytes) (needed_step (SpellsOctetNumber 5) (octet_number_at 5) (octet_number_reader 5) input bytes) (needed_step (SpellsOctetNumber 6) (octet_number_at 6) (octet_number_reader 6) input bytes)
    source.1 le (from_kind input source) (λ class priority type. AfterKind input type) (λ class priority type end within. kind_exactly input source ((class, priority, type), end) bytes within)

chain_exactly : (input : List ℕ) → IsBytes input → Exactly (RefusesNotification input) (chain input)
unfolding source_at
chain_exactly input bytes =
    four_exactly input (needed (number_at 0)) (needed (object_in 1)) (needed (object_in 2)) (needed (moment_at 3))
    (IsSpelledAt (SpellsNumber 0) input) (IsSpelledAt (SpellsObject (Some 1)) input) (IsSpelledAt (SpellsObject (Some 2)) input) (IsSpelledAt (SpellsMoment 3) input)
    (RefusesRequired (SpellsNumber 0) input) (RefusesRequired (SpellsObject (Some 1)) input) (RefusesRequired (SpellsObject (Some 2)) input) (RefusesRequired (SpellsMoment 3) input)
    (needed_step (SpellsNumber 0) (number_at 0) (number_reader 0) input bytes) (needed_step (SpellsObject (Some 1)) (object_in 1) (object_reader 1) input bytes) (needed_step (SpellsObject (Some 2)) (object_in 2) (object_reader 2) input bytes) (needed_step (SpellsMoment 3) (moment_at 3) (moment_reader 3) input bytes)
    0 (omega arith) (from_source input) (λ process device object stamp. AfterSource input) (λ process device object stamp end within. source_exactly input ((process, device, object, stamp), end) bytes within)

pub note_exactly : (input : List ℕ) → IsBytes input → Exactly (RefusesNotification input) (notification_of input)
note_exactly input bytes fault = let whole = chain_exactly input bytes fault in (λ e. whole.0 (sym (is_chain input) ∙ e), λ h. is_chain input ∙ whole.1 h)
