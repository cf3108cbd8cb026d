use Rattle.std.proofs.Common.{◌≡◌}
use Rattle.std.specs.List.Sorted.{IsNonDecreasing, IsPermutation}
use Rattle.alarm_core.specs.CoreSteps.{after_calls}
use Rattle.alarm_core.proofs.logs.SiteLog.enter.Given as goal

abbrev pub invariant-loop-entry : goal.invariant-loop-entry
invariant-loop-entry l = record {
  log : after_calls l.entry-iterator.rest.items l.self-inside.log ≡ after_calls l.fn.entries.items l.fn.self.log;
  site : l.self-inside.site ≡ l.fn.self.site;
  ascending : IsNonDecreasing l.self-inside.recorded.items;
  recorded : IsPermutation l.self-inside.site.classes l.self-inside.recorded.items;
}
