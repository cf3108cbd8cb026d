use Rattle.std.proofs.Common.{Err, ap, sym, ◌∙◌, inr}
use Rattle.std.proofs.lemmas.Result.{err_from_is_err_and}
use Rattle.bac_tags.specs.ParameterReadingSteps.{optional}
use Rattle.event_services.specs.NoteTexts.{IsText, IsTextOfValues, HasText}
use Rattle.event_services.specs.NoteReadingSteps.{text_at, values_at}
use Rattle.event_services.specs.NoteServiceSteps.{notification_of}
use Rattle.event_services.proofs.NoteChain.{Source, Kind, States, given, parts, note_whole, note_fails, passes_note, values_refused}
use Rattle.event_services.proofs.read_note.notification_of.Goals as goal

pub returns-in_err-nothing_follows : goal.returns-in_err-nothing_follows
returns-in_err-nothing_follows c =
    let source : Source = ((c.in_ok-process.process, c.in_ok-process.device, c.in_ok-process.object, c.in_ok-process.stamp), c.in_ok-process.at) in
    let kind : Kind = ((c.in_ok-class.class, c.in_ok-class.priority, c.in_ok-class.event_type), c.in_ok-class.at) in
    let states : States = ((c.in_ok-notify.notify, c.in_ok-notify.ack_required, c.in_ok-notify.from, c.in_ok-notify.to), c.in_ok-notify.at) in
    let p = parts c.args.bytes.now (IsText 7 c.args.bytes.now c.in_ok-class.at) (IsTextOfValues c.in_ok-class.event_type c.args.bytes.now c.in_ok-notify.at) source kind (c.in_ok-text.text, c.in_ok-text.at) states (c.in_ok-values.values, c.in_ok-values.at) c.in_ok-process.ensures.exact c.in_ok-class.ensures.exact c.in_ok-text.ensures.exact c.in_ok-notify.ensures.exact c.in_ok-values.ensures.exact in
    let q = err_from_is_err_and c.from_residual-in_err-nothing_follows.result c.from_residual-in_err-nothing_follows.ensures.1 in
    record {
      exact = note_fails c.args.bytes.now source kind (c.in_ok-text.text, c.in_ok-text.at) states (c.in_ok-values.values, c.in_ok-values.at) c.in_err-nothing_follows.field-0.0 p c.in_err-nothing_follows.ensures.exact c.from_residual-in_err-nothing_follows.result (q.1 ∙ ap Err q.2);
    }

pub returns : goal.returns
returns c =
    let source : Source = ((c.in_ok-process.process, c.in_ok-process.device, c.in_ok-process.object, c.in_ok-process.stamp), c.in_ok-process.at) in
    let kind : Kind = ((c.in_ok-class.class, c.in_ok-class.priority, c.in_ok-class.event_type), c.in_ok-class.at) in
    let states : States = ((c.in_ok-notify.notify, c.in_ok-notify.ack_required, c.in_ok-notify.from, c.in_ok-notify.to), c.in_ok-notify.at) in
    let p = parts c.args.bytes.now (IsText 7 c.args.bytes.now c.in_ok-class.at) (IsTextOfValues c.in_ok-class.event_type c.args.bytes.now c.in_ok-notify.at) source kind (c.in_ok-text.text, c.in_ok-text.at) states (c.in_ok-values.values, c.in_ok-values.at) c.in_ok-process.ensures.exact c.in_ok-class.ensures.exact c.in_ok-text.ensures.exact c.in_ok-notify.ensures.exact c.in_ok-values.ensures.exact in
    record {
      exact = note_whole c.args.bytes.now source kind (c.in_ok-text.text, c.in_ok-text.at) states (c.in_ok-values.values, c.in_ok-values.at) c.in_ok-nothing_follows.field-0 p c.in_ok-nothing_follows.ensures.exact;
    }

pub returns-in_err-values : goal.returns-in_err-values
returns-in_err-values c =
    let input = c.args.bytes.now in
    let source : Source = ((c.in_ok-process.process, c.in_ok-process.device, c.in_ok-process.object, c.in_ok-process.stamp), c.in_ok-process.at) in
    let kind : Kind = ((c.in_ok-class.class, c.in_ok-class.priority, c.in_ok-class.event_type), c.in_ok-class.at) in
    let states : States = ((c.in_ok-notify.notify, c.in_ok-notify.ack_required, c.in_ok-notify.from, c.in_ok-notify.to), c.in_ok-notify.at) in
    let text = given (IsText 7 input c.in_ok-class.at) (c.in_ok-text.text, c.in_ok-text.at) (optional input c.in_ok-class.at (text_at 7 input c.in_ok-class.at)) c.in_ok-text.ensures.exact in
    let p = err_from_is_err_and c.from_residual-in_err-values.result c.from_residual-in_err-values.ensures.1 in
    let type = c.in_ok-class.event_type in
    let place = c.in_ok-notify.at in
    record {
      exact = passes_note (IsTextOfValues type input place) (HasText input) c.in_err-values.field-0.0 (optional input place (values_at type input place)) c.from_residual-in_err-values.result (notification_of input) c.in_err-values.ensures.exact (p.1 ∙ ap Err p.2)
          (λ d h. values_refused input source kind (c.in_ok-text.text, c.in_ok-text.at) states d (sym c.in_ok-process.ensures.exact) (sym c.in_ok-class.ensures.exact) text (sym c.in_ok-notify.ensures.exact) h)
          (λ there. record { place = place; type = type; text = inr there });
    }
