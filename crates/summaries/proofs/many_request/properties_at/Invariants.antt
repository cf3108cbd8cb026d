use Rattle.std.proofs.Common.{◌≡◌, ◌+◌, ◌-◌, ◌<◌, ◌≤◌, List, [], length}
use Rattle.std.specs.Prelude.{◌⊎◌}
use Rattle.summaries.specs.declared.requested.PropertyAsked.{PropertyAsked}
use Rattle.summaries.specs.ManySteps.{closes_at, each_within, property_at, seen}
use Rattle.summaries.proofs.Counting.{behind}
use Rattle.summaries.proofs.many_request.properties_at.Given as goal

-- those that were passed, and those behind them, are all from the first place on
abbrev pub invariant-loop : goal.invariant-loop
invariant-loop l = record {
  within : l.at ≤ length l.input;
  fewer : l.passed < l.at;
  counted : (xs : List PropertyAsked) × (each_within (closes_at l.input) (property_at l.input) (length l.input) l.start ≡ behind xs (each_within (closes_at l.input) (property_at l.input) (length l.input - l.counter) l.at))
      × (l.found ≡ seen l.before xs l.index) × (l.passed ≡ l.before + length xs) × (((xs ≡ []) × (l.at ≡ l.start)) ⊎ ((1 ≤ length xs) × (l.start < l.at)));
}
