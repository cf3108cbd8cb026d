use Rattle.std.proofs.Common.{◌==◌, ◌∙◌, ℕ, List, sym, ap}
use Rattle.std.specs.List.{list_any}
use Rattle.std.proofs.lemmas.List.Sorted.{list_any-IsPermutation}
use Rattle.alarm_core.specs.Logs.{SiteLogState}
use Rattle.alarm_core.proofs.logs.SiteLog.records_class.Goals as goal

pub returns : goal.returns
returns c =
    let test = λ (instance : ℕ). instance == c.args.class.now.instance in
    let kept = c.self.inside in
    record {
      same = c.lists_class.ensures.same
          ∙ (ap (λ (instances : List ℕ). list_any test instances) c.deref.ensures.value
          ∙ (sym (list_any-IsPermutation test kept.site.classes kept.recorded.items c.self.invariant.recorded)
          ∙ ap (λ (state : SiteLogState). list_any test state.site.classes) c.self.view_is));
    }
