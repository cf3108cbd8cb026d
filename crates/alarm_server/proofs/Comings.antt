-- What a session enters comes after the events before it, so that they are a history of the site.
use Rattle.std.proofs.Common.{◌≡◌, ◌↔◌, ℕ, ◌+◌, ◌<◌, ◌≤◌, ◌||◌, max, nat_lt, Bool, true, false, cond, IfSome, Option, Some, None, Result, Ok, Err, List, [], ◌∷◌, length, refl, sym, subst, inl, inr, arith}
use Rattle.std.proofs.lemmas.Bool.{cases_Bool, ltb-false, ltb-true}
use Rattle.bac_values.specs.Moments.{IsMoment}
use Rattle.bac_values.specs.declared.note.Send.{Send}
use Rattle.script_lines.specs.declared.line.Grammar.TheVariants.{Session}
use Rattle.script_lines.specs.declared.line.Line.{Line}
use Rattle.script_lines.specs.declared.line.Says.{Says}
use Rattle.script_lines.specs.declared.line.Says.TheVariants.{Skipped, Outside, Spells}
use Rattle.script_lines.specs.Line.{is_skipped, line_of, line_says, longest_line, most_lines, spells}
use Rattle.script_lines.proofs.SpelledSession.{IsLineAt, spelled_session}
use Rattle.alarm_core.specs.declared.event.Event.{Event}
use Rattle.alarm_core.specs.declared.event.StepFault.{StepFault}
use Rattle.alarm_core.specs.declared.event.StepFault.TheVariants.{Full, NoMemory}
use Rattle.alarm_core.specs.declared.site.Site.{Site}
use Rattle.alarm_core.specs.Allowed.{Comes, IsAllowed, IsHistory}
use Rattle.alarm_core.specs.History.{last_moment_of, raised}
use Rattle.alarm_core.specs.Sites.{IsSite}
use Rattle.alarm_core.specs.State.{state_of}
use Rattle.alarm_core.specs.Verdicts.{step_verdict}
use Rattle.alarm_core.proofs.Counting.{counts_the_longer_history}
use Rattle.service_desk.specs.Answers.{answer_of, entering, event_of}
use Rattle.service_desk.specs.declared.decision.Decision.{Decision}
use Rattle.service_desk.specs.declared.decision.Decision.TheVariants.{Ignore, Idle, Refuse, Reply, Enter}
use Rattle.service_desk.specs.Decisions.{EntersAllowed, decision_on}
use Rattle.service_desk.proofs.AllowedEvents.{decision_enters}
use Rattle.alarm_server.specs.Report.{history_by}
use Rattle.alarm_server.specs.Script.{spelled_by, spelled_in}
use Rattle.alarm_server.specs.Pieces.{answer_for}
use Rattle.alarm_server.proofs.Spelled.{spelled-first, spelled-none}

-- ---- the lines of a session are at moments in range

abbrev pub InRange : List Line → Type 0
InRange [] = Unit {0}
InRange (line ∷ lines) = IsMoment line.moment × InRange lines

abbrev SaysInRange : Says Line → Type 0
SaysInRange Skipped = Unit {0}
SaysInRange Outside = Unit {0}
SaysInRange (Spells line) = IsMoment line.moment

either_says : (b : Bool) (x y : Says Line) → SaysInRange x → SaysInRange y → SaysInRange (cond b x y)
either_says true x y first second = first
either_says false x y first second = second

spells_in_range : (number : ℕ) (found : Option Line) → IfSome found (IsLineAt number) → SaysInRange (spells found)
spells_in_range number None at = tt
spells_in_range number (Some line) at = at.of_session.moment

says_in_range : (number : ℕ) (text : List ℕ) → SaysInRange (line_says Session number text)
says_in_range number text =
    either_says (nat_lt most_lines number || nat_lt longest_line (length text)) Outside _ tt
    (either_says (is_skipped text) Skipped (spells (line_of Session number text)) tt (spells_in_range number (line_of Session number text) (spelled_session number text)))

one_more_in_range : (says : Says Line) (behind : List Line) → SaysInRange says → InRange behind → InRange (spelled_by says behind)
one_more_in_range Skipped behind here others = others
one_more_in_range Outside behind here others = tt
one_more_in_range (Spells line) behind here others = (here, others)

pub spelled_in_range : (texts : List (List ℕ)) (number : ℕ) → InRange (spelled_in (line_says Session) number texts)
spelled_in_range [] number = subst InRange (sym (spelled-none (line_says Session) number)) tt
spelled_in_range (text ∷ behind) number =
    subst InRange (sym (spelled-first (line_says Session) number text behind))
    (one_more_in_range (line_says Session (number + 1) text) (spelled_in (line_says Session) (number + 1) behind) (says_in_range (number + 1) text) (spelled_in_range behind (number + 1)))

-- ---- an event

-- the event, if there is one, comes after a history, and with it that is one too
pub record Goes (site : Site) (history : List Event) (event : Option Event) : Type 0 where
  pub comes : IfSome event (λ e. Comes site e history)
  pub longer : IsHistory site (history_by history event)

none_goes : (site : Site) (history : List Event) → IsHistory site history → Goes site history None
none_goes site history is_history = record { comes = tt; longer = is_history }

-- where no more is refused, there are no more than may be
within : (count most : ℕ) (verdict : Result (Unit {0}) StepFault) → ((would limit : ℕ) → (verdict ≡ Err (Full would limit)) ↔ ((would ≡ count) × (limit ≡ most) × (limit < would))) → verdict ≡ Ok tt → count ≤ most
within count most verdict full fits = elim (cases_Bool (nat_lt most count)) [
  | inl above ↦ let refused = (full count most).1 (refl, refl, ltb-true most count above) in absurd cc
  | inr low ↦ ltb-false most count low
]

entered_goes : (site : Site) → IsSite site → (history : List Event) → IsHistory site history → (event : Event) → last_moment_of site history ≤ event.moment → IsMoment event.moment → IsAllowed (state_of site history) event.act →
    (reply full : Option Send) (verdict : Result (Unit {0}) StepFault) → step_verdict event (state_of site history) ≡ verdict → Goes site history (event_of (entering event reply full verdict))
entered_goes site is history is_history event low moment allowed reply full (Ok fits) e =
    let comes : Comes site event history = record { is_site = is; is_history = is_history; not_before = low } in
    let few = within _ site.device.outbox (step_verdict event (state_of site history)) (counts_the_longer_history.full site event history comes) e in
    record { comes = comes; longer = (low, moment, allowed, few, is_history) }
entered_goes site is history is_history event low moment allowed reply full (Err (Full would limit)) e = none_goes site history is_history
entered_goes site is history is_history event low moment allowed reply full (Err NoMemory) e = none_goes site history is_history

last_in_range : (site : Site) → IsSite site → (history : List Event) → IsHistory site history → IsMoment (last_moment_of site history)
last_in_range site is [] is_history = is.start
last_in_range site is (event ∷ older) (low, moment, allowed, few, is_history) = moment

decision_goes : (site : Site) → IsSite site → (history : List Event) → IsHistory site history → (moment : ℕ) → IsMoment moment → (decision : Decision) → EntersAllowed (state_of site history) moment decision →
    Goes site history (event_of (answer_of (state_of site history) decision))
decision_goes site is history is_history moment range Ignore allowed = none_goes site history is_history
decision_goes site is history is_history moment range Idle allowed = none_goes site history is_history
decision_goes site is history is_history moment range (Refuse why) allowed = none_goes site history is_history
decision_goes site is history is_history moment range (Reply send) allowed = none_goes site history is_history
decision_goes site is history is_history moment range (Enter event reply full) (same, allowed) =
    let last = last_moment_of site history in
    let event_later = raised last event in
    let before = last_in_range site is history is_history in
    let low : last ≤ max event.moment last = omega arith in
    let in_range : IsMoment (max event.moment last) = (omega (arith, same, range.0, before.0), omega (arith, same, range.1, before.1)) in
    entered_goes site is history is_history event_later low in_range allowed reply full (step_verdict event_later (state_of site history)) refl

-- the event of a line
pub line_goes : (site : Site) → IsSite site → (history : List Event) → IsHistory site history → (line : Line) → IsMoment line.moment → Goes site history (event_of (answer_for (state_of site history) line))
line_goes site is history is_history line range =
    decision_goes site is history is_history line.moment range (decision_on (state_of site history) line.input line.moment) (decision_enters site is history is_history line.input line.moment)
