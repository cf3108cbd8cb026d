-- The lines of a piece.
use Rattle.std.proofs.Common.{◌≡◌, ℕ, ◌+◌, Option, Result, Ok, List, [], ◌∷◌, ◌++◌, map, ap, append_assoc, sym, ◌∙◌}
use Rattle.std.proofs.lemmas.List.{map-append}
use Rattle.std.proofs.lemmas.Simd.{map-map}
use Rattle.bac_values.specs.declared.moved.Moved.{Moved}
use Rattle.bac_values.specs.declared.note.Send.{Send}
use Rattle.bac_values.specs.declared.report.ReportLine.{ReportLine}
use Rattle.bac_values.specs.declared.report.ReportLine.TheVariants.{Entered, Change}
use Rattle.alarm_core.specs.declared.event.Event.{Event}
use Rattle.alarm_core.specs.declared.event.StepFault.{StepFault}
use Rattle.alarm_core.specs.History.{moved_by}
use Rattle.alarm_core.specs.CoreSteps.{next_sends, next_transitions}
use Rattle.alarm_core.specs.State.{CoreState}
use Rattle.service_desk.specs.Answers.{entering, if_owed}
use Rattle.service_desk.specs.Answers as answers
use Rattle.alarm_server.specs.Pieces.{piece_by, send_line}

-- the lines in the order in which they are put together
abbrev put_together : ℕ → ℕ → ℕ → List Moved → List Send → Option Send → List ReportLine
put_together number events moment moves sends reply =
    (((Entered number events moment ∷ []) ++ map (λ moved. Change number moved) moves) ++ map (send_line number) sends) ++ map (send_line number) (if_owed reply)

abbrev in_order : ℕ → ℕ → ℕ → List Moved → List Send → Option Send → List ReportLine
in_order number events moment moves sends reply =
    Entered number events moment ∷ (map (λ moved. Change number moved) moves ++ map (send_line number) (sends ++ if_owed reply))

put_in_order : (number events moment : ℕ) (moves : List Moved) (sends : List Send) (reply : Option Send) → put_together number events moment moves sends reply ≡ in_order number events moment moves sends reply
put_in_order number events moment moves sends reply =
    let changes = map (λ moved. Change number moved) moves in
    ap (λ (lines : List ReportLine). Entered number events moment ∷ lines)
    (append_assoc changes (map (send_line number) sends) (map (send_line number) (if_owed reply)) ∙ ap (λ (lines : List ReportLine). changes ++ lines) (sym (map-append (send_line number) sends (if_owed reply))))

entered_is : (number : ℕ) (state : CoreState) (event : Event) (reply : Option Send) (moves : List Moved) (sends : List Send) (events moment : ℕ) →
    events ≡ state.events + 1 → moment ≡ event.moment → moves ≡ map moved_by (next_transitions event state) → sends ≡ next_sends event state →
    put_together number events moment moves sends reply ≡ piece_by number state (answers.Entered event reply)
entered_is number state event reply moves sends events moment same_events same_moment same_moves same_sends =
    let rest = map (send_line number) (next_sends event state ++ if_owed reply) in
    put_in_order number events moment moves sends reply
    ∙ (ap (λ n. in_order number n moment moves sends reply) same_events
    ∙ (ap (λ m. in_order number (state.events + 1) m moves sends reply) same_moment
    ∙ (ap (λ ms. in_order number (state.events + 1) event.moment ms sends reply) same_moves
    ∙ (ap (λ ss. in_order number (state.events + 1) event.moment (map moved_by (next_transitions event state)) ss reply) same_sends
    ∙ ap (λ lines. Entered number (state.events + 1) event.moment ∷ (lines ++ rest)) (map-map (λ moved. Change number moved) moved_by (next_transitions event state))))))

-- where the notifications fit
pub fits_is : (number : ℕ) (state : CoreState) (event : Event) (reply full : Option Send) (verdict : Result (Unit {0}) StepFault) (moves : List Moved) (sends : List Send) (events moment : ℕ) →
    verdict ≡ Ok tt → events ≡ state.events + 1 → moment ≡ event.moment → moves ≡ map moved_by (next_transitions event state) → sends ≡ next_sends event state →
    put_together number events moment moves sends reply ≡ piece_by number state (entering event reply full verdict)
fits_is number state event reply full verdict moves sends events moment fits same_events same_moment same_moves same_sends =
    entered_is number state event reply moves sends events moment same_events same_moment same_moves same_sends
    ∙ sym (ap (λ (v : Result (Unit {0}) StepFault). piece_by number state (entering event reply full v)) fits)
