use Rattle.std.proofs.Common.{◌∙◌, ap, rules, sym}
use Rattle.std.proofs.lemmas.List.Edits.{map_over_more}
use Rattle.std.specs.Prelude.{slice_set}
use Rattle.alarm_core.specs.Logs.{call_of_change, SiteLogState}
use Rattle.alarm_core.specs.CoreSteps.{after_calls}
use Rattle.alarm_core.proofs.logs.change_all.Goals as goal

-- src/logs.rt:158:5
pub loop-kept-preserved : goal.loop-kept-preserved
loop-kept-preserved c =
    let f = λ (kept : SiteLogState). record kept { log = after_calls (call_of_change kept.site c.args.change.now) kept.log } in
    ap (λ (kept : SiteLogState). slice_set c.loop-kept.kept-items c.loop-kept.kept-index kept) (c.change.ensures.log ∙ ap f (sym c.kept-item.is))
    ∙ map_over_more f c.args.logs.now.items c.loop-kept.kept-items c.loop-kept.kept-index c.kept-item.result (search rules) c.loop-kept.invariant c.kept-item.is
