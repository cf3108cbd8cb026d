use Rattle.std.proofs.Common.{◌≡◌, ◌+◌, ◌∷◌, List, drop, sym, ap, ◌∙◌}
use Rattle.std.proofs.lemmas.List.{drop_more, drop_all}
use Rattle.std.proofs.lemmas.Result.{IfOk-from_err}
use Rattle.bac_values.specs.Identifier.{ObjectIdData}
use Rattle.alarm_core.specs.DueSteps.{all_once, once}
use Rattle.alarm_core.specs.State.{DetectedObjectState}
use Rattle.alarm_core.proofs.due_looks.touch_all.Goals as goal

pub loop-watcher-init : goal.loop-watcher-init
loop-watcher-init c = record {
  alarms = c.touch.ensures.alarms;
  many = c.touch.ensures.many;
  timers = ap (all_once c.args.watchers.now c.args.timed.now.alarms.items) c.in_ok-touch.ensures.timers;
  transitions = c.touch.ensures.transitions;
  undoes = c.touch.ensures.undoes;
}

pub loop-watcher-preserved : goal.loop-watcher-preserved
loop-watcher-preserved c =
    let l = c.loop-watcher in
    let watchers = c.args.watchers.now in
    let alarms = c.args.timed.now.alarms.items in
    let x = c.watcher-item.result in
    let later = drop (l.watcher-index + 1) watchers in
    let next : drop l.watcher-index watchers ≡ x ∷ later = drop_more watchers l.watcher-index x c.loop-watcher-test.true ∙ ap (λ (y : ObjectIdData). y ∷ later) (sym c.watcher-item.is) in
    let touched = c.touch-in-loop-watcher.ensures in
    record {
      alarms = touched.alarms ∙ l.invariant.alarms;
      many = touched.many ∙ l.invariant.many;
      timers = ap (all_once later alarms) (c.in_ok-touch-2.ensures.timers ∙ ap (λ (ds : List DetectedObjectState). once x ds l.timed.timers) l.invariant.alarms)
          ∙ ap (λ (objects : List ObjectIdData). all_once objects alarms l.timed.timers) (sym next) ∙ l.invariant.timers;
      transitions = touched.transitions ∙ l.invariant.transitions;
      undoes = λ before undoes. touched.undoes before (l.invariant.undoes before undoes);
    }

pub returns-in_err-touch : goal.returns-in_err-touch
returns-in_err-touch c = record {
  alarms = c.touch.ensures.alarms;
  timers = IfOk-from_err c.from_residual.result _ c.from_residual.ensures.0;
  transitions = c.touch.ensures.transitions;
  undoes = c.touch.ensures.undoes;
}

pub returns-in_err-touch-2 : goal.returns-in_err-touch-2
returns-in_err-touch-2 c =
    let so_far = c.loop-watcher.invariant in
    let touched = c.touch-in-loop-watcher.ensures in
    record {
      alarms = touched.alarms ∙ so_far.alarms;
      timers = IfOk-from_err c.from_residual-in_err-touch-2.result _ c.from_residual-in_err-touch-2.ensures.0;
      transitions = touched.transitions ∙ so_far.transitions;
      undoes = λ before undoes. touched.undoes before (so_far.undoes before undoes);
    }

pub returns : goal.returns
returns c =
    let l = c.loop-watcher in
    record {
      alarms = l.invariant.alarms;
      timers = ap (λ (objects : List ObjectIdData). all_once objects c.args.timed.now.alarms.items l.timed.timers) (sym (drop_all l.watcher-index c.args.watchers.now c.loop-watcher-test.false)) ∙ l.invariant.timers;
      transitions = l.invariant.transitions;
      undoes = l.invariant.undoes;
    }
