use Rattle.std.proofs.Common.{◌≡◌, ◌<◌, ◌≤◌, List, [], ◌∷◌, ◌++◌, length, get_or, ap, subst, ◌∙◌}
use Rattle.std.proofs.lemmas.Result.{IfOk-from_err}
use Rattle.event_log.specs.declared.log_site.LogSite.{LogSite}
use Rattle.enrollment.proofs.Appended.{makes_next, makes_all}
use Rattle.alarm_core.specs.CoreSteps.{first_kept}
use Rattle.alarm_core.specs.Logs.{SiteLogState}
use Rattle.alarm_core.proofs.logs.first_logs.Goals as goal

pub loop-listed-preserved : goal.loop-listed-preserved
loop-listed-preserved c =
    let i = c.loop-listed.listed-index in
    let x = c.listed-item.result in
    let now = c.loop-listed.logs.items in
    makes_next first_kept c.args.site.now.logs i x [] now c.push.new.items.items
    (subst (λ (logs : List LogSite). i < length logs) c.as_slice-listed-items.ensures.same c.loop-listed-test.true) (subst (λ (logs : List LogSite). x ≡ get_or logs i x) c.as_slice-listed-items.ensures.same c.listed-item.is)
    c.loop-listed.invariant (c.in_ok-push.ensures.added ∙ ap (λ (kept : SiteLogState). now ++ kept ∷ []) c.in_ok-first.ensures.first)

pub returns-in_err-first : goal.returns-in_err-first
returns-in_err-first c = record { first = IfOk-from_err c.from_residual.result _ c.from_residual.ensures.0 }

pub returns-in_err-push : goal.returns-in_err-push
returns-in_err-push c = record { first = IfOk-from_err c.from_residual-in_err-push.result _ c.from_residual-in_err-push.ensures.0 }

pub returns : goal.returns
returns c =
    let i = c.loop-listed.listed-index in
    record {
      first = makes_all first_kept c.args.site.now.logs i [] c.loop-listed.logs.items
          (subst (λ (logs : List LogSite). length logs ≤ i) c.as_slice-listed-items.ensures.same c.loop-listed-test.false) c.loop-listed.invariant;
    }
