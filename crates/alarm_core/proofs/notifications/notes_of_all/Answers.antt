use Rattle.std.proofs.Common.{[], ◌++◌, List, ap, ◌∙◌}
use Rattle.std.proofs.lemmas.Result.{IfOk-from_err}
use Rattle.bac_values.specs.declared.note.Note.{Note}
use Rattle.enrollment.proofs.Appended.{gives_next, gives_all}
use Rattle.alarm_core.specs.ViewSteps.{AddressedData, notes_to}
use Rattle.alarm_core.proofs.notifications.notes_of_all.Goals as goal

pub loop-told-preserved : goal.loop-told-preserved
loop-told-preserved c =
    let now = c.loop-told.notes.items in
    record {
      notes = gives_next (notes_to c.args.at.now) c.args.addressed.now c.loop-told.told-index c.told-item.result [] now c.add_notes.new.notes.items
          c.loop-told-test.true c.told-item.is c.loop-told.invariant.notes
          (c.in_ok-add_notes.ensures.added ∙ ap (λ (notes : List Note). now ++ notes) c.in_ok-more.ensures.notes ∙ ap (λ (told : AddressedData). now ++ notes_to c.args.at.now told) c.told.view_is);
      short = c.in_ok-add_notes.ensures.short;
    }

pub returns-in_err-more : goal.returns-in_err-more
returns-in_err-more c = record {
  notes = IfOk-from_err c.from_residual.result _ c.from_residual.ensures.0;
  short = IfOk-from_err c.from_residual.result _ c.from_residual.ensures.0;
}

pub returns-in_err-add_notes : goal.returns-in_err-add_notes
returns-in_err-add_notes c = record {
  notes = IfOk-from_err c.from_residual-in_err-add_notes.result _ c.from_residual-in_err-add_notes.ensures.0;
  short = IfOk-from_err c.from_residual-in_err-add_notes.result _ c.from_residual-in_err-add_notes.ensures.0;
}

pub returns : goal.returns
returns c = record {
  notes = gives_all (notes_to c.args.at.now) c.args.addressed.now c.loop-told.told-index [] c.loop-told.notes.items c.loop-told-test.false c.loop-told.invariant.notes;
  short = c.loop-told.invariant.short;
}
