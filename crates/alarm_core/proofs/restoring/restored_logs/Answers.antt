use Rattle.std.proofs.Common.{◌≡◌, ◌+◌, ◌++◌, ◌∷◌, [], List, drop, map, sym, ap, subst, ◌∙◌}
use Rattle.std.specs.List.{zip}
use Rattle.std.proofs.lemmas.List.{append-nil, drop_more, drop_all}
use Rattle.std.proofs.lemmas.Result.{IfOk-from_err}
use Rattle.event_log.specs.declared.log_site.LogSite.{LogSite}
use Rattle.alarm_core.specs.Parts.{kept_by}
use Rattle.alarm_core.proofs.restoring.restored_logs.Goals as goal

pub loop-listed-preserved : goal.loop-listed-preserved
loop-listed-preserved c =
    let xs = c.as_slice-listed-items.result.now in
    let i = c.loop-listed.listed-index in
    let x = c.listed-item.result in
    let next : drop i xs ≡ x ∷ drop (i + 1) xs = drop_more xs i x c.loop-listed-test.true ∙ ap (λ (y : LogSite). y ∷ drop (i + 1) xs) (sym c.listed-item.is) in
    let left : drop i c.args.site.now.logs ≡ x ∷ drop (i + 1) c.args.site.now.logs = subst (λ (ys : List LogSite). drop i ys ≡ x ∷ drop (i + 1) ys) c.as_slice-listed-items.ensures.same next in
    c.in_ok-add_log.ensures.added (drop (i + 1) c.args.site.now.logs)
    ∙ ap (λ (behind : List LogSite). c.loop-listed.logs.items ++ map kept_by (zip behind c.loop-listed.told.rest.items)) (sym left)
    ∙ c.loop-listed.invariant

pub returns-in_err-add_log : goal.returns-in_err-add_log
returns-in_err-add_log c = record { logs = IfOk-from_err c.from_residual.result _ c.from_residual.ensures.0 }

pub returns : goal.returns
returns c =
    let i = c.loop-listed.listed-index in
    let none : drop i c.args.site.now.logs ≡ [] = subst (λ (ys : List LogSite). drop i ys ≡ []) c.as_slice-listed-items.ensures.same (drop_all i c.as_slice-listed-items.result.now c.loop-listed-test.false) in
    record {
      logs = sym (append-nil c.loop-listed.logs.items)
          ∙ ap (λ (behind : List LogSite). c.loop-listed.logs.items ++ map kept_by (zip behind c.loop-listed.told.rest.items)) (sym none)
          ∙ c.loop-listed.invariant;
    }
