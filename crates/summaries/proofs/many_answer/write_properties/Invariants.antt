use Rattle.std.proofs.Common.{◌≡◌, ◌-◌, ◌≤◌, ◌++◌, ℕ, List, length, Ok}
use Rattle.std.specs.List.{flat_map}
use Rattle.summaries.specs.declared.requested.PropertyAsked.{PropertyAsked}
use Rattle.summaries.specs.Many.{results_of}
use Rattle.summaries.specs.ManySteps.{closes_at, each_within, properties_at, property_at}
use Rattle.summaries.proofs.many_answer.write_properties.Given as goal

-- those that were told, and those that are left
abbrev pub invariant-loop : goal.invariant-loop
invariant-loop g l = record {
  within : l.at ≤ length l.request;
  told : (done : List PropertyAsked) × (left : List PropertyAsked) × (end : ℕ) × (properties_at l.request l.fn.entry.1 ≡ Ok (done ++ left, end))
      × (each_within (closes_at l.request) (property_at l.request) (length l.request - l.counter) l.at ≡ Ok (left, end))
      × (l.out.items ≡ l.initial.out.items ++ flat_map (results_of (g.C.Shown.reads l.shown) l.fn.entry.0) done);
}
