-- The looks of an event, what is known after them, and the moves that go out.
use Rattle.std.proofs.Common.{◌≡◌, ℕ, max, ℤ, Option, Result, Ok, Err, OnOk, List, [], ◌∷◌, ◌++◌, refl, ap, ◌∙◌, sym, subst, append_assoc}
use Rattle.script_lines.specs.Report.{report_text}
use Rattle.std.proofs.lemmas.List.{append-nil}
use Rattle.bac_values.specs.declared.input.Input.{Input}
use Rattle.bac_values.specs.declared.input.Input.TheVariants.{Tick, Pump, Set, Fault, Datagram}
use Rattle.bac_values.specs.Identifier.{ObjectIdData}
use Rattle.bac_values.specs.declared.value.Value.{Value}
use Rattle.bac_values.specs.declared.value.Value.TheVariants.{Signed}
use Rattle.bac_values.specs.declared.report.ReportLine.{ReportLine}
use Rattle.ground_io.specs.Trace.{Told, Adds}
use Rattle.event_machine.specs.Points.{Point, Incident, Looked, newest_of}
use Rattle.script_lines.specs.declared.line.Line.{Line}
use Rattle.script_lines.specs.Line.{IsTrialInput}
use Rattle.alarm_server.specs.declared.settings.Settings.{Settings}
use Rattle.alarm_server.specs.declared.emission.Unsent.{Unsent}
use Rattle.alarm_server.specs.Looks.{point_at, seen_again, seen_with, looks_given, looks_after}
use Rattle.alarm_server.specs.Emission.{Sends}
use Rattle.alarm_server.specs.Trial.{looks_over, newest_moves, transitions_of, SendsTransitions}
use Rattle.alarm_server.specs.Watched.{HasSeen, WatchState}
use Rattle.alarm_server.proofs.Sending.{adds, front_more, sends_then}

transitions_of-next : (first : Point) (incident : Incident) (older : List Incident) → transitions_of first (incident ∷ older) ≡ transitions_of first older ++ newest_moves first (incident ∷ older)
unfolding transitions_of
transitions_of-next first incident older = refl

pub transitions_of-none : (first : Point) → transitions_of first [] ≡ []
unfolding transitions_of
transitions_of-none first = refl

-- a look at the value of the last one, at a moment or later, is the newest point, seen again
pub again_is : (first : Point) (later : List Incident) (watched : WatchState) (moment raised : ℕ) (value : ℤ) → HasSeen first later watched → raised ≡ max moment watched.moment → value ≡ watched.value →
    point_at watched.settings raised (Signed value) ≡ seen_again moment (newest_of first later)
again_is first later watched moment raised value seen same_moment same_value =
    ap (λ m. point_at watched.settings m (Signed value)) same_moment
    ∙ (ap (λ v. point_at watched.settings (max moment watched.moment) (Signed v)) same_value
    ∙ ap (seen_again moment) (sym seen.newest))

-- a look at another value at the same moment is that point with the value
pub changed_is : (settings settings' : Settings) (moment : ℕ) (last value value' : ℤ) (point : Point) → point_at settings moment (Signed last) ≡ point → settings' ≡ settings → value' ≡ value →
    point_at settings' moment (Signed value') ≡ seen_with (Signed value) point
changed_is settings settings' moment last value value' point is same_settings same_value =
    ap (λ s. point_at s moment (Signed value')) same_settings
    ∙ (ap (λ v. point_at settings moment (Signed v)) same_value
    ∙ ap (seen_with (Signed value)) is)

-- what is known after a look is known after a look at the same point
pub seen_on : (first : Point) (later : List Incident) (seen point : Point) (watched : WatchState) → seen ≡ point → HasSeen first (Looked seen ∷ later) watched → HasSeen first (Looked point ∷ later) watched
seen_on first later seen point watched same known = subst (λ p. HasSeen first (Looked p ∷ later) watched) same known

-- the moves at one more look
pub transitions_on : {A : Type 0} (r : Result A Unsent) (first : Point) (later : List Incident) (seen point : Point) (a b : Option Told) → seen ≡ point → Sends Adds report_text r (newest_moves first (Looked seen ∷ later)) a b → SendsTransitions Adds r first later (Looked point ∷ later) a b
transitions_on r first later seen point a b same sends = (
  newest_moves first (Looked point ∷ later),
  transitions_of-next first (Looked point) later,
  subst (λ p. Sends Adds report_text r (newest_moves first (Looked p ∷ later)) a b) same sends,
)

-- moves went out, and then those of more points, or a front of them
pub transitions_then : {A B : Type 0} (x : B) (r : Result A Unsent) (first : Point) (later more most : List Incident) (a b c : Option Told) → SendsTransitions {A = B} Adds (Ok x) first later more a b → SendsTransitions Adds r first more most b c → SendsTransitions Adds r first later most a c
transitions_then x r first later more most a b c (moves, all, out) (others, rest, sends) = (
  moves ++ others,
  rest ∙ (ap (λ l. l ++ others) all ∙ append_assoc (transitions_of first later) moves others),
  sends_then Adds adds report_text r a b c moves others out sends,
)

-- a fault while the moves of some points go out, before those of one more
pub transitions_fault : (A : Type 0) (fault : Unsent) (first : Point) (later more : List Incident) (incident : Incident) (a b : Option Told) → SendsTransitions {A = A} Adds (Err fault) first later more a b → SendsTransitions {A = A} Adds (Err fault) first later (incident ∷ more) a b
transitions_fault A fault first later more incident a b (moves, all, front) =
    let next = newest_moves first (incident ∷ more) in (
      moves ++ next,
      transitions_of-next first incident more ∙ (ap (λ l. l ++ next) all ∙ append_assoc (transitions_of first later) moves next),
      front_more Adds report_text fault a b moves next front,
    )

-- the moves over more points go on from those before
transitions_front : (first : Point) (new later : List Incident) → (back : List ReportLine) × (transitions_of first (new ++ later) ≡ transitions_of first later ++ back)
transitions_front first [] later = ([], sym (append-nil (transitions_of first later)))
transitions_front first (incident ∷ new) later =
    let more = transitions_front first new later in
    let next = newest_moves first (incident ∷ (new ++ later)) in
    (more.0 ++ next, transitions_of-next first incident (new ++ later) ∙ (ap (λ l. l ++ next) more.1 ∙ append_assoc (transitions_of first later) more.0 next))

pub looks_over-none : (first : Point) (later : List Incident) → looks_over first later [] ≡ later
unfolding looks_over
looks_over-none first later = refl

pub looks_over-line : (first : Point) (later : List Incident) (line : Line) (lines : List Line) → looks_over first later (line ∷ lines) ≡ looks_over first (looks_after line.moment line.input first later) lines
unfolding looks_over
looks_over-line first later line lines = refl

-- lines, and then others
pub looks_over-append : (lines others : List Line) (first : Point) (later : List Incident) → looks_over first later (lines ++ others) ≡ looks_over first (looks_over first later lines) others
looks_over-append [] others first later = ap (λ looks. looks_over first looks others) (sym (looks_over-none first later))
looks_over-append (line ∷ lines) others first later =
    looks_over-line first later line (lines ++ others)
    ∙ (looks_over-append lines others first (looks_after line.moment line.input first later)
    ∙ ap (λ looks. looks_over first looks others) (sym (looks_over-line first later line lines)))

-- one more line
pub looks_over-next : (first : Point) (later looks : List Incident) (lines : List Line) (line : Line) → looks ≡ looks_over first later lines → looks_after line.moment line.input first looks ≡ looks_over first later (lines ++ line ∷ [])
looks_over-next first later looks lines line is =
    ap (looks_after line.moment line.input first) is
    ∙ (sym (looks_over-none first (looks_after line.moment line.input first (looks_over first later lines)))
    ∙ (sym (looks_over-line first (looks_over first later lines) line [])
    ∙ sym (looks_over-append lines (line ∷ []) first later)))

-- the moves over more lines go on from those before
pub transitions_over_more : (lines : List Line) (first : Point) (later : List Incident) → (back : List ReportLine) × (transitions_of first (looks_over first later lines) ≡ transitions_of first later ++ back)
transitions_over_more [] first later = ([], ap (transitions_of first) (looks_over-none first later) ∙ sym (append-nil (transitions_of first later)))
transitions_over_more (line ∷ lines) first later =
    let next = looks_after line.moment line.input first later in
    let here = transitions_front first (looks_given line.moment line.input (newest_of first later)) later in
    let more = transitions_over_more lines first next in (
      here.0 ++ more.0,
      ap (transitions_of first) (looks_over-line first later line lines)
          ∙ (more.1 ∙ (ap (λ l. l ++ more.0) here.1 ∙ append_assoc (transitions_of first later) here.0 more.0)),
    )

-- a line of a trial that writes nothing is a tick
pub tick_only : (input : Input) → IsTrialInput input → ((object : ObjectIdData) (value : Value) → input ≡ Set object value → ⊥) → input ≡ Tick
tick_only Tick h never = refl
tick_only (Set object value) h never = absurd (never object value refl)
tick_only Pump h never = absurd h
tick_only (Fault object reliability) h never = absurd h
tick_only (Datagram peer octets) h never = absurd h

-- a fault while the moves of an event's first look go out
pub event_fault : (A : Type 0) (fault : Unsent) (input : Input) (moment : ℕ) (first : Point) (later : List Incident) (a b : Option Told) → IsTrialInput input → SendsTransitions {A = A} Adds (Err fault) first later (Looked (seen_again moment (newest_of first later)) ∷ later) a b → SendsTransitions {A = A} Adds (Err fault) first later (looks_after moment input first later) a b
event_fault A fault Tick moment first later a b h sends = sends
event_fault A fault (Set object value) moment first later a b h sends =
    let again = seen_again moment (newest_of first later) in
    transitions_fault A fault first later (Looked again ∷ later) (Looked (seen_with value again)) a b sends
event_fault A fault Pump moment first later a b h sends = absurd h
event_fault A fault (Fault object reliability) moment first later a b h sends = absurd h
event_fault A fault (Datagram peer octets) moment first later a b h sends = absurd h

-- what follows from a fact that holds where a call was answered well
pub on_ok : {T E : Type 0} (r : Result T E) (P Q : Type 0) → (P → Q) → OnOk r P → OnOk r Q
on_ok (Ok x) P Q f h = f h
on_ok (Err fault) P Q f h = tt
