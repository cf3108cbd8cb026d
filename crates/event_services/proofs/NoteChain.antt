-- The parts of a notification that are read one after the other are the whole of it.
use Rattle.std.proofs.Common.{◌≡◌, ℕ, Bool, Option, List, Result, Ok, Err, refl, sym, ap, subst, ◌∙◌, inl, inr}
use Rattle.std.specs.Prelude.{◌⊎◌, ◌↔◌, IfOk}
use Rattle.bac_values.specs.Identifier.{ObjectIdData}
use Rattle.bac_values.specs.declared.event_state.EventState.{EventState}
use Rattle.bac_values.specs.declared.stamp.Stamp.{Stamp}
use Rattle.bac_tags.specs.declared.malformed.Malformed.{Malformed}
use Rattle.bac_tags.proofs.Steps.{err_is}
use Rattle.bac_tags.specs.ParameterReadingSteps.{optional, nothing_follows}
use Rattle.bac_tags.specs.ReadingSteps.{◌>>=◌}
use Rattle.event_services.specs.declared.notification.Notification.{Notification}
use Rattle.event_services.specs.declared.notification.EventValues.{EventValues}
use Rattle.event_services.specs.declared.read_note.NoteFault.{NoteFault}
use Rattle.event_services.specs.declared.read_note.NoteFault.TheVariants as faults
use Rattle.event_services.specs.NoteTexts.{HasText}
use Rattle.event_services.specs.NoteReadingSteps.{text_at, values_at}
use Rattle.event_services.specs.NoteServiceSteps.{source_at, kind_at, states_at, notification_of, fault_of, as_note, GivesNote}

abbrev pub Source : Type 0
Source = (ℕ × ObjectIdData × ObjectIdData × Stamp) × ℕ

abbrev pub Kind : Type 0
Kind = (ℕ × ℕ × ℕ) × ℕ

abbrev pub States : Type 0
States = (ℕ × Option Bool × Option EventState × EventState) × ℕ

abbrev pub note_of : Source → Kind → Option (List ℕ) → States → Option EventValues → Notification
note_of source kind text states values = record {
  process = source.0.0;
  device = source.0.1;
  object = source.0.2;
  stamp = source.0.3;
  class = kind.0.0;
  priority = kind.0.1;
  event_type = kind.0.2;
  text = text;
  notify = states.0.0;
  ack_required = states.0.1;
  from = states.0.2;
  to = states.0.3;
  values = values;
}

pub given : {X : Type 0} (Text : Type 0) (x : X) (read : Result X Malformed) → GivesNote Text (Ok x) read → read ≡ Ok x
given Text x (Ok y) (inl e) = let same : x ≡ y = cc in ap Ok (sym same)
given Text x (Err why) (inl e) = absurd cc
given Text x read (inr e) = absurd (let bad = e.0 in cc)

-- the parts, read in turn
pub record Parts (input : List ℕ) (source : Source) (kind : Kind) (text : Option (List ℕ) × ℕ) (states : States) (values : Option EventValues × ℕ) : Type 0 where
  pub sourced : source_at input ≡ Ok source
  pub kinds : kind_at input source.1 ≡ Ok kind
  pub told : optional input kind.1 (text_at 7 input kind.1) ≡ Ok text
  pub stated : states_at input text.1 ≡ Ok states
  pub valued : optional input states.1 (values_at kind.0.2 input states.1) ≡ Ok values

pub parts : (input : List ℕ) (Text Values : Type 0) (source : Source) (kind : Kind) (text : Option (List ℕ) × ℕ) (states : States) (values : Option EventValues × ℕ) → Ok source ≡ source_at input → Ok kind ≡ kind_at input source.1
    → GivesNote Text (Ok text) (optional input kind.1 (text_at 7 input kind.1)) → Ok states ≡ states_at input text.1 → GivesNote Values (Ok values) (optional input states.1 (values_at kind.0.2 input states.1)) → Parts input source kind text states values
parts input Text Values source kind text states values a b c d e = record { sourced = sym a; kinds = sym b; told = given Text text (optional input kind.1 (text_at 7 input kind.1)) c; stated = sym d; valued = given Values values (optional input states.1 (values_at kind.0.2 input states.1)) e }

pub note_read : (input : List ℕ) (source : Source) (kind : Kind) (text : Option (List ℕ) × ℕ) (states : States) (values : Option EventValues × ℕ) → Parts input source kind text states values
    → notification_of input ≡ (nothing_follows input values.1 >>= λ nothing. Ok (note_of source kind text.0 states values.0))
unfolding notification_of
note_read input source kind text states values p = rw (p.sourced, p.kinds, p.told, p.stated, p.valued) refl

pub note_whole : (input : List ℕ) (source : Source) (kind : Kind) (text : Option (List ℕ) × ℕ) (states : States) (values : Option EventValues × ℕ) (nothing : Unit {0}) → Parts input source kind text states values → Ok nothing ≡ nothing_follows input values.1
    → GivesNote (HasText input) (Ok (note_of source kind text.0 states values.0)) (notification_of input)
note_whole input source kind text states values nothing p e =
    inl (sym (ap as_note (note_read input source kind text states values p ∙ ap (λ (r : Result (Unit {0}) Malformed). r >>= λ nothing. Ok (note_of source kind text.0 states values.0)) (sym e))))

pub note_fails : (input : List ℕ) (source : Source) (kind : Kind) (text : Option (List ℕ) × ℕ) (states : States) (values : Option EventValues × ℕ) (why : Malformed) → Parts input source kind text states values → Err why ≡ nothing_follows input values.1
    → (answer : Result Notification NoteFault) → answer ≡ Err (fault_of why) → GivesNote (HasText input) answer (notification_of input)
note_fails input source kind text states values why p e answer is =
    inl (is ∙ sym (ap as_note (note_read input source kind text states values p ∙ ap (λ (r : Result (Unit {0}) Malformed). r >>= λ nothing. Ok (note_of source kind text.0 states values.0)) (sym e))))

-- ---- what an answer says

pub answered : (input : List ℕ) (P : Notification → Type 0) (answer : Result Notification NoteFault) (read : Result Notification Malformed) → GivesNote (HasText input) answer read → ((note : Notification) → read ≡ Ok note → P note) → IfOk answer P
answered input P (Ok note) read g f = f note (given (HasText input) note read g)
answered input P (Err fault) read g f = tt

pub same_answer : (input : List ℕ) (answer : Result Notification NoteFault) (read : Result Notification Malformed) (note : Notification) → GivesNote (HasText input) answer read → read ≡ Ok note → GivesNote (HasText input) answer (Ok note)
same_answer input answer read note g e = subst (λ (r : Result Notification Malformed). GivesNote (HasText input) answer r) e g

abbrev why : ℕ → ℕ → Malformed
why reject at = record { reject = reject; at = at }

fault_is : (read : Result Notification Malformed) (reject at : ℕ) → as_note read ≡ Err (faults.Malformed reject at) → read ≡ Err (why reject at)
fault_is (Ok note) reject at e = absurd cc
fault_is (Err d) reject at e =
    let first : d.reject ≡ reject = cc in
    let second : d.at ≡ at = cc in
    ap (λ (n : ℕ). Err (why n d.at)) first ∙ ap (λ (n : ℕ). Err (why reject n)) second

-- a refusal that is told is that of the reading, unless memory was refused
pub refused : (input : List ℕ) (Refuses : Malformed → Type 0) (answer : Result Notification NoteFault) (read : Result Notification Malformed) → GivesNote (HasText input) answer read → ((fault : Malformed) → (read ≡ Err fault) ↔ Refuses fault)
    → (answer ≡ Err faults.NoMemory) ⊎ ((reject at : ℕ) → (answer ≡ Err (faults.Malformed reject at)) ↔ Refuses (why reject at))
refused input Refuses answer read (inr h) f = inl h.0
refused input Refuses answer read (inl e) f = inr (λ reject at. (λ h. (f (why reject at)).0 (fault_is read reject at (sym e ∙ h)), λ h. e ∙ ap as_note ((f (why reject at)).1 h)))

-- memory is refused only where a text stands
pub wanted_memory : (input : List ℕ) (answer : Result Notification NoteFault) (read : Result Notification Malformed) → GivesNote (HasText input) answer read → answer ≡ Err faults.NoMemory → HasText input
wanted_memory input answer read (inr h) e = h.1
wanted_memory input answer (Ok note) (inl same) e = absurd cc
wanted_memory input answer (Err d) (inl same) e = absurd cc

pub passes_note : {X Y : Type 0} (Text Other : Type 0) (e : NoteFault) (read : Result X Malformed) (answer : Result Y NoteFault) (whole : Result Y Malformed) → GivesNote Text (Err e) read → answer ≡ Err e → ((d : Malformed) → read ≡ Err d → whole ≡ Err d) → (Text → Other) → GivesNote Other answer whole
passes_note Text Other e (Ok x) answer whole (inl same) is fails there = absurd cc
passes_note {X = X} Text Other e (Err d) answer whole (inl same) is fails there = inl (is ∙ ap Err (err_is {A = X} e (fault_of d) same) ∙ sym (ap as_note (fails d refl)))
passes_note {X = X} Text Other e read answer whole (inr none) is fails there = inr (is ∙ ap Err (err_is {A = X} e faults.NoMemory none.0), there none.1)

pub text_refused : (input : List ℕ) (source : Source) (kind : Kind) (d : Malformed) → source_at input ≡ Ok source → kind_at input source.1 ≡ Ok kind → optional input kind.1 (text_at 7 input kind.1) ≡ Err d → notification_of input ≡ Err d
unfolding notification_of
text_refused input source kind d a b h = rw (a, b, h) refl

pub values_refused : (input : List ℕ) (source : Source) (kind : Kind) (text : Option (List ℕ) × ℕ) (states : States) (d : Malformed) → source_at input ≡ Ok source → kind_at input source.1 ≡ Ok kind → optional input kind.1 (text_at 7 input kind.1) ≡ Ok text → states_at input text.1 ≡ Ok states
    → optional input states.1 (values_at kind.0.2 input states.1) ≡ Err d → notification_of input ≡ Err d
unfolding notification_of
values_refused input source kind text states d a b x y h = rw (a, b, x, y, h) refl
