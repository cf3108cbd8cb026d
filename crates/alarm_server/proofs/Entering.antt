-- The history that an event leaves which is to be entered.
use Rattle.std.proofs.Common.{◌≡◌, ℕ, Option, None, Result, Ok, Err, OnOk, List, ◌∷◌, ap, ◌∙◌, sym, subst}
use Rattle.bac_values.specs.declared.note.Send.{Send}
use Rattle.script_lines.specs.declared.line.Line.{Line}
use Rattle.service_desk.specs.declared.decision.Decision.{Decision}
use Rattle.service_desk.specs.Answers.{answer_of, entering, event_of}
use Rattle.service_desk.specs.Decisions.{decision_on}
use Rattle.alarm_core.specs.declared.event.Event.{Event}
use Rattle.alarm_core.specs.declared.event.StepFault.{StepFault}
use Rattle.alarm_core.specs.declared.event.StepFault.TheVariants.{Full}
use Rattle.alarm_core.specs.Allowed.{Represents}
use Rattle.alarm_core.specs.State.{CoreState}
use Rattle.alarm_server.specs.Pieces.{answer_for}
use Rattle.alarm_server.specs.Report.{history_by, history_with}

module _ (event : Event) (reply full : Option Send) (history : List Event) where
  -- by the verdict on its notifications
  with_verdict : (verdict came : Result (Unit {0}) StepFault) (state : CoreState) → verdict ≡ came → Represents state (history_by history (event_of (entering event reply full came))) → Represents state (history_by history (event_of (entering event reply full verdict)))
  with_verdict verdict came state is stands = subst (λ (v : Result (Unit {0}) StepFault). Represents state (history_by history (event_of (entering event reply full v)))) (sym is) stands

  -- where they fit, it is the newest
  pub entered : (verdict : Result (Unit {0}) StepFault) (state : CoreState) → verdict ≡ Ok tt → Represents state (event ∷ history) → Represents state (history_by history (event_of (entering event reply full verdict)))
  entered verdict state is stands = with_verdict verdict (Ok tt) state is stands

  -- where they don't, it is none
  pub not_entered : (verdict : Result (Unit {0}) StepFault) (would limit : ℕ) (state state' : CoreState) → verdict ≡ Err (Full would limit) → state' ≡ state → Represents state history → Represents state' (history_by history (event_of (entering event reply full verdict)))
  not_entered verdict would limit state state' is same stands =
      with_verdict verdict (Err (Full would limit)) state' is (subst (λ (s : CoreState). Represents s history) (sym same) stands)

-- the history with a line, by the state that the core is in before it
pub with_line : (state state' : CoreState) (history : List Event) (line : Line) → Represents state history → Represents state' (history_by history (event_of (answer_for state line))) → Represents state' (history_with state.site history line)
with_line state state' history line stands next = subst (λ (s : CoreState). Represents state' (history_by history (event_of (answer_for s line)))) stands.shows next

-- a line that enters nothing leaves it
pub without_event : (state : CoreState) (history : List Event) (line : Line) → Represents state history → event_of (answer_for state line) ≡ None → Represents state (history_with state.site history line)
without_event state history line stands none =
    with_line state state history line stands (subst (λ (e : Option Event). Represents state (history_by history e)) (sym none) stands)

-- one that enters an event leaves what that leaves
pub with_decision : (state state' : CoreState) (history : List Event) (line : Line) (decision : Decision) → Represents state history → decision ≡ decision_on state line.input line.moment → Represents state' (history_by history (event_of (answer_of state decision))) → Represents state' (history_with state.site history line)
with_decision state state' history line decision stands is next =
    with_line state state' history line stands (subst (λ (d : Decision). Represents state' (history_by history (event_of (answer_of state d)))) is next)

-- what a decision enters, by which decision it is
pub decided : (state : CoreState) (line : Line) (decision named : Decision) → decision ≡ decision_on state line.input line.moment → decision ≡ named → event_of (answer_of state named) ≡ None → event_of (answer_for state line) ≡ None
decided state line decision named is same none = ap (λ (d : Decision). event_of (answer_of state d)) (sym is ∙ same) ∙ none

pub where_ok : {A E : Type 0} (result : Result A E) (P Q : Type 0) → (P → Q) → OnOk result P → OnOk result Q
where_ok (Ok x) P Q follows p = follows p
where_ok (Err fault) P Q follows p = p
