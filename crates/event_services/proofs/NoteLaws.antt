-- A notification that is read is spelled so, and one that is spelled so is read.
use Rattle.std.proofs.Common.{◌≡◌, ℕ, ◌≤◌, Bool, Option, Some, None, List, [], ◌++◌, length, Result, Ok, refl, sym, ap, subst, ◌∙◌, arith}
use Rattle.bac_values.specs.Identifier.{ObjectIdData}
use Rattle.bac_tags.specs.Contents.{SpellsObject, SpellsBoolean}
use Rattle.bac_tags.specs.ReadingSteps.{object_at, boolean_at, ◌>>=◌}
use Rattle.bac_tags.proofs.Standing.{IsBytes, Stands, Stands-nil, Stands-then, Stands-within}
use Rattle.bac_tags.proofs.Answered.{Spelled}
use Rattle.bac_tags.specs.declared.malformed.Malformed.{Malformed}
use Rattle.bac_tags.specs.ParameterReadingSteps.{required, optional, nothing_follows}
use Rattle.bac_tags.proofs.Steps.{bind_ok, ok_is}
use Rattle.bac_tags.proofs.ElementReaders.{Reader, object_reader, boolean_reader}
use Rattle.bac_tags.proofs.Sequences.{required_ok, nothing_ok}
use Rattle.event_services.specs.declared.notification.Notification.{Notification}
use Rattle.event_services.specs.declared.notification.EventValues.{EventValues}
use Rattle.event_services.specs.NoteReadingSteps.{Reads, number_at, octet_number_at, state_at, text_at, moment_at, values_at}
use Rattle.event_services.specs.NoteServiceSteps.{source_at, kind_at, states_at, notification_of}
use Rattle.event_services.specs.NoteGrammar.{SpellsNumber, SpellsOctetNumber, SpellsState, SpellsText, SpellsMoment, SpellsValuesOf, SpellsNotification}
use Rattle.bac_tags.specs.Parameters.{SpellsIfGiven}
use Rattle.event_services.proofs.AckLaws.{all_there}
use Rattle.event_services.proofs.NoteChain.{Source, Kind, States, note_of}
use Rattle.event_services.proofs.NoteReaders.{number_reader, octet_number_reader, state_reader, text_reader, moment_reader}
use Rattle.event_services.proofs.ToldReaders.{values_reader}
use Rattle.bac_tags.proofs.OptionalReaders.{optional_ok}

-- ---- parameters in turn

-- what a step of the reading answers stands there
abbrev pub Finds : {X : Type 0} → (List ℕ → X → Type 0) → (List ℕ → ℕ → Result (X × ℕ) Malformed) → Type 0
Finds {X = X} Spells read = (input : List ℕ) (place : ℕ) (x : X × ℕ) → IsBytes input → place ≤ length input → read input place ≡ Ok x → Spelled Spells input place x.0 x.1

abbrev pub needed : {X : Type 0} → Reads X → List ℕ → ℕ → Result (X × ℕ) Malformed
needed read input place = required input place (read input place)

abbrev pub allowed : {X : Type 0} → Reads X → List ℕ → ℕ → Result (Option X × ℕ) Malformed
allowed read input place = optional input place (read input place)

finds_needed : {X : Type 0} (Spells : List ℕ → X → Type 0) (read : Reads X) → Reader Spells read → Finds Spells (needed read)
finds_needed Spells read r input place x bytes le e = required_ok Spells read r input place x bytes le e

finds_allowed : {X : Type 0} (Spells : List ℕ → X → Type 0) (read : Reads X) → Reader Spells read → Finds (SpellsIfGiven Spells) (allowed read)
finds_allowed Spells read r input place (None, end) bytes le e = let a = optional_ok Spells read r input place (None, end) bytes le e in record { octets = []; stands = subst (Stands input place []) (sym a) (Stands-nil input place); spells = refl }
finds_allowed Spells read r input place (Some x, end) bytes le e = let a = optional_ok Spells read r input place (Some x, end) bytes le e in record { octets = a.octets; stands = a.stands; spells = a.spells }

pub record Three {A B C : Type 0} (SA : List ℕ → A → Type 0) (SB : List ℕ → B → Type 0) (SC : List ℕ → C → Type 0) (octets : List ℕ) (a : A) (b : B) (c : C) : Type 0 where
  pub first : List ℕ
  pub second : List ℕ
  pub third : List ℕ
  pub parts : octets ≡ first ++ (second ++ third)
  pub is_first : SA first a
  pub is_second : SB second b
  pub is_third : SC third c

pub record Four {A B C D : Type 0} (SA : List ℕ → A → Type 0) (SB : List ℕ → B → Type 0) (SC : List ℕ → C → Type 0) (SD : List ℕ → D → Type 0) (octets : List ℕ) (a : A) (b : B) (c : C) (d : D) : Type 0 where
  pub first : List ℕ
  pub second : List ℕ
  pub third : List ℕ
  pub fourth : List ℕ
  pub parts : octets ≡ first ++ (second ++ (third ++ fourth))
  pub is_first : SA first a
  pub is_second : SB second b
  pub is_third : SC third c
  pub is_fourth : SD fourth d

-- octets stand between two places, and say what they say
pub record Between (Says : List ℕ → Type 0) (input : List ℕ) (place end : ℕ) : Type 0 where
  pub octets : List ℕ
  pub stands : Stands input place octets end
  pub says : Says octets

abbrev pub last3 : {A B C : Type 0} → A → B → C × ℕ → Result ((A × B × C) × ℕ) Malformed
last3 a b c = Ok ((a, b, c.0), c.1)

abbrev pub rest3 : {A B C : Type 0} → (List ℕ → ℕ → Result (C × ℕ) Malformed) → List ℕ → A → B × ℕ → Result ((A × B × C) × ℕ) Malformed
rest3 rc input a b = rc input b.1 >>= last3 a b.0

abbrev pub more3 : {A B C : Type 0} → (List ℕ → ℕ → Result (B × ℕ) Malformed) → (List ℕ → ℕ → Result (C × ℕ) Malformed) → List ℕ → A × ℕ → Result ((A × B × C) × ℕ) Malformed
more3 rb rc input a = rb input a.1 >>= rest3 rc input a.0

pub find3 : {A B C : Type 0} (SA : List ℕ → A → Type 0) (SB : List ℕ → B → Type 0) (SC : List ℕ → C → Type 0) (ra : List ℕ → ℕ → Result (A × ℕ) Malformed) (rb : List ℕ → ℕ → Result (B × ℕ) Malformed) (rc : List ℕ → ℕ → Result (C × ℕ) Malformed)
    → Finds SA ra → Finds SB rb → Finds SC rc → (input : List ℕ) (place : ℕ) (z : (A × B × C) × ℕ) → IsBytes input → place ≤ length input → (ra input place >>= more3 rb rc input) ≡ Ok z
    → Between (λ octets. Three SA SB SC octets z.0.0 z.0.1 z.0.2) input place z.1
find3 {A = A} {B = B} {C = C} SA SB SC ra rb rc fa fb fc input place z bytes le e =
    let a = bind_ok (ra input place) (more3 rb rc input) z e in
    let sa = fa input place a.0 bytes le a.1 in
    let la : a.0.1 ≤ length input = Stands-within input place sa.octets a.0.1 le sa.stands in
    let b = bind_ok (rb input a.0.1) (rest3 rc input a.0.0) z a.2 in
    let sb = fb input a.0.1 b.0 bytes la b.1 in
    let lb : b.0.1 ≤ length input = Stands-within input a.0.1 sb.octets b.0.1 la sb.stands in
    let c = bind_ok (rc input b.0.1) (last3 a.0.0 b.0.0) z b.2 in
    let sc = fc input b.0.1 c.0 bytes lb c.1 in
    subst (λ (y : (A × B × C) × ℕ). Between (λ octets. Three SA SB SC octets y.0.0 y.0.1 y.0.2) input place y.1) (ok_is ((a.0.0, b.0.0, c.0.0), c.0.1) z c.2) (record {
      octets = sa.octets ++ (sb.octets ++ sc.octets);
      stands = Stands-then input place sa.octets a.0.1 (sb.octets ++ sc.octets) c.0.1 sa.stands (Stands-then input a.0.1 sb.octets b.0.1 sc.octets c.0.1 sb.stands sc.stands);
      says = record { first = sa.octets; second = sb.octets; third = sc.octets; parts = refl {a = sa.octets ++ (sb.octets ++ sc.octets)}; is_first = sa.spells; is_second = sb.spells; is_third = sc.spells };
    })

abbrev pub last4 : {A B C D : Type 0} → A → B → C → D × ℕ → Result ((A × B × C × D) × ℕ) Malformed
last4 a b c d = Ok ((a, b, c, d.0), d.1)

abbrev pub rest4 : {A B C D : Type 0} → (List ℕ → ℕ → Result (D × ℕ) Malformed) → List ℕ → A → B → C × ℕ → Result ((A × B × C × D) × ℕ) Malformed
rest4 rd input a b c = rd input c.1 >>= last4 a b c.0

abbrev pub more4 : {A B C D : Type 0} → (List ℕ → ℕ → Result (C × ℕ) Malformed) → (List ℕ → ℕ → Result (D × ℕ) Malformed) → List ℕ → A → B × ℕ → Result ((A × B × C × D) × ℕ) Malformed
more4 rc rd input a b = rc input b.1 >>= rest4 rd input a b.0

abbrev pub all4 : {A B C D : Type 0} → (List ℕ → ℕ → Result (B × ℕ) Malformed) → (List ℕ → ℕ → Result (C × ℕ) Malformed) → (List ℕ → ℕ → Result (D × ℕ) Malformed) → List ℕ → A × ℕ → Result ((A × B × C × D) × ℕ) Malformed
all4 rb rc rd input a = rb input a.1 >>= more4 rc rd input a.0

pub find4 : {A B C D : Type 0} (SA : List ℕ → A → Type 0) (SB : List ℕ → B → Type 0) (SC : List ℕ → C → Type 0) (SD : List ℕ → D → Type 0) (ra : List ℕ → ℕ → Result (A × ℕ) Malformed) (rb : List ℕ → ℕ → Result (B × ℕ) Malformed) (rc : List ℕ → ℕ → Result (C × ℕ) Malformed) (rd : List ℕ → ℕ → Result (D × ℕ) Malformed)
    → Finds SA ra → Finds SB rb → Finds SC rc → Finds SD rd → (input : List ℕ) (place : ℕ) (z : (A × B × C × D) × ℕ) → IsBytes input → place ≤ length input → (ra input place >>= all4 rb rc rd input) ≡ Ok z
    → Between (λ octets. Four SA SB SC SD octets z.0.0 z.0.1 z.0.2 z.0.3) input place z.1
find4 {A = A} {B = B} {C = C} {D = D} SA SB SC SD ra rb rc rd fa fb fc fd input place z bytes le e =
    let a = bind_ok (ra input place) (all4 rb rc rd input) z e in
    let sa = fa input place a.0 bytes le a.1 in
    let la : a.0.1 ≤ length input = Stands-within input place sa.octets a.0.1 le sa.stands in
    let b = bind_ok (rb input a.0.1) (more4 rc rd input a.0.0) z a.2 in
    let sb = fb input a.0.1 b.0 bytes la b.1 in
    let lb : b.0.1 ≤ length input = Stands-within input a.0.1 sb.octets b.0.1 la sb.stands in
    let c = bind_ok (rc input b.0.1) (rest4 rd input a.0.0 b.0.0) z b.2 in
    let sc = fc input b.0.1 c.0 bytes lb c.1 in
    let lc : c.0.1 ≤ length input = Stands-within input b.0.1 sc.octets c.0.1 lb sc.stands in
    let d = bind_ok (rd input c.0.1) (last4 a.0.0 b.0.0 c.0.0) z c.2 in
    let sd = fd input c.0.1 d.0 bytes lc d.1 in
    subst (λ (y : (A × B × C × D) × ℕ). Between (λ octets. Four SA SB SC SD octets y.0.0 y.0.1 y.0.2 y.0.3) input place y.1) (ok_is ((a.0.0, b.0.0, c.0.0, d.0.0), d.0.1) z d.2) (record {
      octets = sa.octets ++ (sb.octets ++ (sc.octets ++ sd.octets));
      stands = Stands-then input place sa.octets a.0.1 (sb.octets ++ (sc.octets ++ sd.octets)) d.0.1 sa.stands (Stands-then input a.0.1 sb.octets b.0.1 (sc.octets ++ sd.octets) d.0.1 sb.stands (Stands-then input b.0.1 sc.octets c.0.1 sd.octets d.0.1 sc.stands sd.stands));
      says = record { first = sa.octets; second = sb.octets; third = sc.octets; fourth = sd.octets; parts = refl {a = sa.octets ++ (sb.octets ++ (sc.octets ++ sd.octets))}; is_first = sa.spells; is_second = sb.spells; is_third = sc.spells; is_fourth = sd.spells };
    })

-- ---- the groups of parameters

abbrev pub object_in : ℕ → Reads ObjectIdData
object_in number input place = object_at input place (Some number)

abbrev pub boolean_in : ℕ → Reads Bool
boolean_in number input place = boolean_at input place (Some number)

find_source : (input : List ℕ) (z : Source) → IsBytes input → source_at input ≡ Ok z → Between (λ octets. Four (SpellsNumber 0) (SpellsObject (Some 1)) (SpellsObject (Some 2)) (SpellsMoment 3) octets z.0.0 z.0.1 z.0.2 z.0.3) input 0 z.1
unfolding source_at
find_source input z bytes e =
    find4 (SpellsNumber 0) (SpellsObject (Some 1)) (SpellsObject (Some 2)) (SpellsMoment 3) (needed (number_at 0)) (needed (object_in 1)) (needed (object_in 2)) (needed (moment_at 3))
    (finds_needed (SpellsNumber 0) (number_at 0) (number_reader 0)) (finds_needed (SpellsObject (Some 1)) (object_in 1) (object_reader 1)) (finds_needed (SpellsObject (Some 2)) (object_in 2) (object_reader 2)) (finds_needed (SpellsMoment 3) (moment_at 3) (moment_reader 3)) input 0 z bytes (omega arith) e

find_kind : (input : List ℕ) (place : ℕ) (z : Kind) → IsBytes input → place ≤ length input → kind_at input place ≡ Ok z → Between (λ octets. Three (SpellsNumber 4) (SpellsOctetNumber 5) (SpellsOctetNumber 6) octets z.0.0 z.0.1 z.0.2) input place z.1
unfolding kind_at
find_kind input place z bytes le e =
    find3 (SpellsNumber 4) (SpellsOctetNumber 5) (SpellsOctetNumber 6) (needed (number_at 4)) (needed (octet_number_at 5)) (needed (octet_number_at 6))
    (finds_needed (SpellsNumber 4) (number_at 4) (number_reader 4)) (finds_needed (SpellsOctetNumber 5) (octet_number_at 5) (octet_number_reader 5)) (finds_needed (SpellsOctetNumber 6) (octet_number_at 6) (octet_number_reader 6)) input place z bytes le e

find_states : (input : List ℕ) (place : ℕ) (z : States) → IsBytes input → place ≤ length input → states_at input place ≡ Ok z
    → Between (λ octets. Four (SpellsOctetNumber 8) (SpellsIfGiven (SpellsBoolean (Some 9))) (SpellsIfGiven (SpellsState 10)) (SpellsState 11) octets z.0.0 z.0.1 z.0.2 z.0.3) input place z.1
unfolding states_at
find_states input place z bytes le e =
    find4 (SpellsOctetNumber 8) (SpellsIfGiven (SpellsBoolean (Some 9))) (SpellsIfGiven (SpellsState 10)) (SpellsState 11) (needed (octet_number_at 8)) (allowed (boolean_in 9)) (allowed (state_at 10)) (needed (state_at 11))
    (finds_needed (SpellsOctetNumber 8) (octet_number_at 8) (octet_number_reader 8)) (finds_allowed (SpellsBoolean (Some 9)) (boolean_in 9) (boolean_reader 9)) (finds_allowed (SpellsState 10) (state_at 10) (state_reader 10)) (finds_needed (SpellsState 11) (state_at 11) (state_reader 11)) input place z bytes le e

-- ---- what is read is spelled so

abbrev pub from_values : List ℕ → Source → Kind → Option (List ℕ) → States → Option EventValues × ℕ → Result Notification Malformed
from_values input source kind text states values = nothing_follows input values.1 >>= λ nothing. Ok (note_of source kind text states values.0)

abbrev pub from_states : List ℕ → Source → Kind → Option (List ℕ) → States → Result Notification Malformed
from_states input source kind text states = allowed (values_at kind.0.2) input states.1 >>= from_values input source kind text states

abbrev pub from_text : List ℕ → Source → Kind → Option (List ℕ) × ℕ → Result Notification Malformed
from_text input source kind text = states_at input text.1 >>= from_states input source kind text.0

abbrev pub from_kind : List ℕ → Source → Kind → Result Notification Malformed
from_kind input source kind = allowed (text_at 7) input kind.1 >>= from_text input source kind

abbrev pub from_source : List ℕ → Source → Result Notification Malformed
from_source input source = kind_at input source.1 >>= from_kind input source

abbrev pub chain : List ℕ → Result Notification Malformed
chain input = source_at input >>= from_source input

pub is_chain : (input : List ℕ) → notification_of input ≡ chain input
unfolding notification_of
is_chain input = refl

-- all that is known of a reading
record Whole (input : List ℕ) (note : Notification) : Type 0 where
  source : Source
  kind : Kind
  text : Option (List ℕ) × ℕ
  states : States
  values : Option EventValues × ℕ
  is : note_of source kind text.0 states values.0 ≡ note
  past : length input ≤ values.1
  sourced : Between (λ octets. Four (SpellsNumber 0) (SpellsObject (Some 1)) (SpellsObject (Some 2)) (SpellsMoment 3) octets source.0.0 source.0.1 source.0.2 source.0.3) input 0 source.1
  kinds : Between (λ octets. Three (SpellsNumber 4) (SpellsOctetNumber 5) (SpellsOctetNumber 6) octets kind.0.0 kind.0.1 kind.0.2) input source.1 kind.1
  worded : Spelled (SpellsIfGiven (SpellsText 7)) input kind.1 text.0 text.1
  stated : Between (λ octets. Four (SpellsOctetNumber 8) (SpellsIfGiven (SpellsBoolean (Some 9))) (SpellsIfGiven (SpellsState 10)) (SpellsState 11) octets states.0.0 states.0.1 states.0.2 states.0.3) input text.1 states.1
  told : Spelled (SpellsIfGiven (SpellsValuesOf kind.0.2)) input states.1 values.0 values.1

abbrev given : Notification → Unit {0} → Result Notification Malformed
given note nothing = Ok note

whole : (input : List ℕ) (note : Notification) → IsBytes input → chain input ≡ Ok note → Whole input note
whole input note bytes e =
    let a = bind_ok (source_at input) (from_source input) note e in
    let sa = find_source input a.0 bytes a.1 in
    let la : a.0.1 ≤ length input = Stands-within input 0 sa.octets a.0.1 (omega arith) sa.stands in
    let b = bind_ok (kind_at input a.0.1) (from_kind input a.0) note a.2 in
    let sb = find_kind input a.0.1 b.0 bytes la b.1 in
    let lb : b.0.1 ≤ length input = Stands-within input a.0.1 sb.octets b.0.1 la sb.stands in
    let c = bind_ok (allowed (text_at 7) input b.0.1) (from_text input a.0 b.0) note b.2 in
    let sc = finds_allowed (SpellsText 7) (text_at 7) (text_reader 7) input b.0.1 c.0 bytes lb c.1 in
    let lc : c.0.1 ≤ length input = Stands-within input b.0.1 sc.octets c.0.1 lb sc.stands in
    let d = bind_ok (states_at input c.0.1) (from_states input a.0 b.0 c.0.0) note c.2 in
    let sd = find_states input c.0.1 d.0 bytes lc d.1 in
    let ld : d.0.1 ≤ length input = Stands-within input c.0.1 sd.octets d.0.1 lc sd.stands in
    let f = bind_ok (allowed (values_at b.0.0.2) input d.0.1) (from_values input a.0 b.0 c.0.0 d.0) note d.2 in
    let sf = finds_allowed (SpellsValuesOf b.0.0.2) (values_at b.0.0.2) (values_reader b.0.0.2) input d.0.1 f.0 bytes ld f.1 in
    let g = bind_ok (nothing_follows input f.0.1) (given (note_of a.0 b.0 c.0.0 d.0 f.0.0)) note f.2 in
    record {
      source = a.0;
      kind = b.0;
      text = c.0;
      states = d.0;
      values = f.0;
      is = ok_is (note_of a.0 b.0 c.0.0 d.0 f.0.0) note g.2;
      past = nothing_ok input f.0.1 g.0 g.1;
      sourced = sa;
      kinds = sb;
      worded = sc;
      stated = sd;
      told = sf;
    }

assemble : (input : List ℕ) (note : Notification) → Whole input note → SpellsNotification input note
assemble input note w =
    let a = w.sourced in
    let b = w.kinds in
    let c = w.worded in
    let d = w.stated in
    let f = w.told in
    let four = Stands-then input w.text.1 d.octets w.states.1 f.octets w.values.1 d.stands f.stands in
    let three = Stands-then input w.kind.1 c.octets w.text.1 (d.octets ++ f.octets) w.values.1 c.stands four in
    let two = Stands-then input w.source.1 b.octets w.kind.1 (c.octets ++ (d.octets ++ f.octets)) w.values.1 b.stands three in
    let one = Stands-then input 0 a.octets w.source.1 (b.octets ++ (c.octets ++ (d.octets ++ f.octets))) w.values.1 a.stands two in
    let all = all_there input (a.octets ++ (b.octets ++ (c.octets ++ (d.octets ++ f.octets)))) w.values.1 w.past one in
    let x = a.says in
    let y = b.says in
    let z = d.says in
    subst (SpellsNotification input) w.is (record {
      process = x.first;
      device = x.second;
      object = x.third;
      stamp = x.fourth;
      class = y.first;
      priority = y.second;
      type = y.third;
      text = c.octets;
      notify = z.first;
      ack = z.second;
      from = z.third;
      to = z.fourth;
      values = f.octets;
      parts = all ∙ ap (λ (o : List ℕ). o ++ (b.octets ++ (c.octets ++ (d.octets ++ f.octets)))) x.parts ∙ ap (λ (o : List ℕ). (x.first ++ (x.second ++ (x.third ++ x.fourth))) ++ (o ++ (c.octets ++ (d.octets ++ f.octets)))) y.parts ∙ ap (λ (o : List ℕ). (x.first ++ (x.second ++ (x.third ++ x.fourth))) ++ ((y.first ++ (y.second ++ y.third)) ++ (c.octets ++ (o ++ f.octets)))) z.parts;
      named_process = x.is_first;
      named_device = x.is_second;
      named_object = x.is_third;
      stamped = x.is_fourth;
      classed = y.is_first;
      ranked = y.is_second;
      typed = y.is_third;
      worded = c.spells;
      notified = z.is_first;
      required = z.is_second;
      left = z.is_third;
      entered = z.is_fourth;
      told = f.spells;
    })

pub note_found : (input : List ℕ) (note : Notification) → IsBytes input → notification_of input ≡ Ok note → SpellsNotification input note
note_found input note bytes e = assemble input note (whole input note bytes (sym (is_chain input) ∙ e))
