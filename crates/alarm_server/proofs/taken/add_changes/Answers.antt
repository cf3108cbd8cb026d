use Rattle.std.proofs.Common.{◌++◌, map, ap, ◌∙◌}
use Rattle.std.proofs.lemmas.List.{take_all}
use Rattle.std.proofs.lemmas.Result.{IfOk-from_err}
use Rattle.bac_values.specs.declared.report.ReportLine.TheVariants.{Change}
use Rattle.alarm_server.proofs.taken.add_changes.Goals as goal

pub returns-in_err-push : goal.returns-in_err-push
returns-in_err-push c = record { changes = IfOk-from_err c.from_residual.result _ c.from_residual.ensures.0 }

pub returns : goal.returns
returns c =
    let old = c.args.piece.now.items in
    let number = c.args.number in
    record {
      changes = c.loop-moved.invariant ∙ ap (λ moves. old ++ map (λ moved. Change number moved) moves) (take_all c.loop-moved.moved-index c.args.moves.now c.loop-moved-test.false);
    }
