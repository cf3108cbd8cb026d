-- The pieces and the states of lines, one after the other; and the report by the history.
use Rattle.std.proofs.Common.{◌≡◌, ℕ, IfSome, List, [], ◌∷◌, ◌++◌, length, refl, ap, ◌∙◌, sym}
use Rattle.script_lines.specs.declared.line.Grammar.TheVariants.{Session}
use Rattle.script_lines.specs.Line.{line_says}
use Rattle.script_lines.specs.declared.line.Line.{Line}
use Rattle.script_lines.specs.Script.{lines_of}
use Rattle.alarm_core.specs.declared.event.Event.{Event}
use Rattle.alarm_core.specs.declared.site.Site.{Site}
use Rattle.alarm_core.specs.Allowed.{Comes, IsHistory}
use Rattle.alarm_core.specs.Sites.{IsSite}
use Rattle.alarm_core.specs.State.{state_of, CoreState}
use Rattle.alarm_core.proofs.Standing.{stands}
use Rattle.service_desk.specs.Answers.{Answer, Entered, Full, Refused, Replied, Unchanged, Ignored, event_of, state_behind}
use Rattle.alarm_server.specs.Script.{spelled_in, refused_in}
use Rattle.alarm_server.specs.Sessions.{pieces_over, session_over, state_over, state_with}
use Rattle.alarm_server.specs.Pieces.{answer_for, open_piece, piece_of, session_end}
use Rattle.alarm_server.specs.Report.{front_pieces, history_by, history_over, history_with, pieces_of, report_of}
use Rattle.alarm_server.proofs.Comings.{InRange, line_goes, spelled_in_range}

pub states-none : (state : CoreState) → state_over state [] ≡ state
unfolding state_over
states-none state = refl

pub states-first : (state : CoreState) (line : Line) (lines : List Line) → state_over state (line ∷ lines) ≡ state_over (state_with state line) lines
unfolding state_over
states-first state line lines = refl

pub pieces-none : (state : CoreState) → pieces_over state [] ≡ []
unfolding pieces_over
pieces-none state = refl

pub pieces-first : (state : CoreState) (line : Line) (lines : List Line) → pieces_over state (line ∷ lines) ≡ piece_of state line ∷ pieces_over (state_with state line) lines
unfolding pieces_over
pieces-first state line lines = refl

-- lines and then others
pub states-append : (lines others : List Line) (state : CoreState) → state_over state (lines ++ others) ≡ state_over (state_over state lines) others
states-append [] others state = ap (λ s. state_over s others) (sym (states-none state))
states-append (line ∷ lines) others state =
    states-first state line (lines ++ others)
    ∙ (states-append lines others (state_with state line) ∙ ap (λ s. state_over s others) (sym (states-first state line lines)))

pub pieces-append : (lines others : List Line) (state : CoreState) → pieces_over state (lines ++ others) ≡ pieces_over state lines ++ pieces_over (state_over state lines) others
pieces-append [] others state =
    ap (λ s. pieces_over s others) (sym (states-none state)) ∙ ap (λ ps. ps ++ pieces_over (state_over state []) others) (sym (pieces-none state))
pieces-append (line ∷ lines) others state =
    pieces-first state line (lines ++ others)
    ∙ (ap (λ ps. piece_of state line ∷ ps) (pieces-append lines others (state_with state line))
    ∙ (ap (λ s. piece_of state line ∷ (pieces_over (state_with state line) lines ++ pieces_over s others)) (sym (states-first state line lines))
    ∙ ap (λ ps. ps ++ pieces_over (state_over state (line ∷ lines)) others) (sym (pieces-first state line lines))))

-- one more line
pub states-next : (lines : List Line) (line : Line) (state : CoreState) → state_over state (lines ++ line ∷ []) ≡ state_with (state_over state lines) line
states-next lines line state =
    states-append lines (line ∷ []) state ∙ (states-first (state_over state lines) line [] ∙ states-none (state_with (state_over state lines) line))

pub pieces-next : (lines : List Line) (line : Line) (state : CoreState) → pieces_over state (lines ++ line ∷ []) ≡ pieces_over state lines ++ piece_of (state_over state lines) line ∷ []
pieces-next lines line state =
    pieces-append lines (line ∷ []) state
    ∙ ap (λ ps. pieces_over state lines ++ ps) (pieces-first (state_over state lines) line [] ∙ ap (λ ps. piece_of (state_over state lines) line ∷ ps) (pieces-none (state_with (state_over state lines) line)))

-- the state of the history with the event of an answer
history_state : (site : Site) (history : List Event) (answer : Answer) → IfSome (event_of answer) (λ e. Comes site e history) → state_behind (state_of site history) answer ≡ state_of site (history_by history (event_of answer))
history_state site history (Entered event reply) comes = stands.state site event history comes
history_state site history (Full would limit reply) comes = refl
history_state site history (Refused why) comes = refl
history_state site history (Replied send) comes = refl
history_state site history Unchanged comes = refl
history_state site history Ignored comes = refl

states_are : (site : Site) → IsSite site → (lines : List Line) → InRange lines → (history : List Event) → IsHistory site history → state_over (state_of site history) lines ≡ state_of site (history_over site history lines)
unfolding history_over
states_are site is [] range history is_history = states-none (state_of site history)
states_are site is (line ∷ lines) (here, others) history is_history =
    let state = state_of site history in
    let goes = line_goes site is history is_history line here in
    states-first state line lines
    ∙ (ap (λ s. state_over s lines) (history_state site history (answer_for state line) goes.comes)
    ∙ states_are site is lines others (history_with site history line) goes.longer)

pieces_are : (site : Site) → IsSite site → (lines : List Line) → InRange lines → (history : List Event) → IsHistory site history → pieces_over (state_of site history) lines ≡ pieces_of site history lines
unfolding pieces_of
pieces_are site is [] range history is_history = pieces-none (state_of site history)
pieces_are site is (line ∷ lines) (here, others) history is_history =
    let state = state_of site history in
    let goes = line_goes site is history is_history line here in
    pieces-first state line lines
    ∙ (ap (λ s. piece_of state line ∷ pieces_over s lines) (history_state site history (answer_for state line) goes.comes)
    ∙ ap (λ ps. piece_of state line ∷ ps) (pieces_are site is lines others (history_with site history line) goes.longer))

-- the report by the history is the one by the state
pub report_is : (site : Site) → IsSite site → (history : List Event) → IsHistory site history → (script : List ℕ) → session_over (state_of site history) (lines_of script) ≡ report_of site history script
report_is site is history is_history script =
    let lines = spelled_in (line_says Session) 0 (lines_of script) in
    let range = spelled_in_range (lines_of script) 0 in
    let state = state_of site history in
    let end = session_end (refused_in (line_says Session) 0 (lines_of script)) (length (lines_of script)) in
    ap (λ ps. (open_piece state ∷ ps) ++ end (state_over state lines)) (pieces_are site is lines range history is_history)
    ∙ ap (λ s. (open_piece state ∷ pieces_of site history lines) ++ end s) (states_are site is lines range history is_history)

pub front_is : (site : Site) → IsSite site → (history : List Event) → IsHistory site history → (front : List ℕ) →
    open_piece (state_of site history) ∷ pieces_over (state_of site history) (spelled_in (line_says Session) 0 (lines_of front)) ≡ front_pieces site history front
front_is site is history is_history front =
    ap (λ ps. open_piece (state_of site history) ∷ ps) (pieces_are site is (spelled_in (line_says Session) 0 (lines_of front)) (spelled_in_range (lines_of front) 0) history is_history)
