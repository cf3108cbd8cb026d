use Rattle.std.proofs.Common.{◌≡◌, ◌+◌, Ok, Err, ◌∙◌, rules}
use Rattle.alarm_core.specs.declared.event.StepFault.TheVariants.{Full}
use Rattle.alarm_core.specs.History.{raised}
use Rattle.alarm_core.specs.Verdicts.{step_verdict}
use Rattle.alarm_server.proofs.Entering.{entered, not_entered}
use Rattle.alarm_server.proofs.PieceLines.{fits_is}
use Rattle.alarm_server.proofs.taken.enter.Goals as goal

pub returns-clause-piece : goal.returns-clause-piece
returns-clause-piece c =
    let state = c.args.core.now in
    let event = raised state.last_moment c.args.event in
    let outcome = c.in-Ok.outcome in
    let same_events : c.events.result ≡ state.events + 1 = search rules in
    let same_moment : outcome.moment ≡ event.moment = search rules in
    let fits : step_verdict event state ≡ Ok tt = search rules in
    c.in_ok-piece.ensures.piece
    ∙ fits_is c.args.number state event c.args.reply c.args.full (step_verdict event state) outcome.moves outcome.sends c.events.result outcome.moment fits same_events same_moment c.in-Ok.ensures.moves c.in-Ok.ensures.sends

pub returns-in-Err-Full-clause-represents : goal.returns-in-Err-Full-clause-represents
returns-in-Err-Full-clause-represents c = λ history stands.
    let state = c.args.core.now in
    let event = raised state.last_moment c.args.event in
    let verdict : step_verdict event state ≡ Err (Full c.in-Err-Full.would c.in-Err-Full.limit) = search rules in
    not_entered event c.args.reply c.args.full history (step_verdict event state) c.in-Err-Full.would c.in-Err-Full.limit state c.take.new.self verdict c.in-Err-Full.ensures.same stands

pub returns-clause-represents : goal.returns-clause-represents
returns-clause-represents c = λ history stands.
    let state = c.args.core.now in
    let event = raised state.last_moment c.args.event in
    entered event c.args.reply c.args.full history (step_verdict event state) c.take.new.self c.in-Ok.ensures.verdict (c.in-Ok.ensures.represents history stands)

pub event_to_record-requires-clause-allowed : goal.event_to_record-requires-clause-allowed
event_to_record-requires-clause-allowed c = (c.args.core.now, c.requires.allowed)
