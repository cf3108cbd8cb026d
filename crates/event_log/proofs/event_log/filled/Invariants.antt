use Rattle.std.proofs.Common.{◌≡◌, ◌++◌}
use Rattle.event_log.proofs.event_log.filled.Given as goal

-- what was put in and what is left are all records
abbrev pub invariant-loop-entry : goal.invariant-loop-entry
invariant-loop-entry l = (l.kept.items ++ l.entry-iterator.rest.items ≡ l.fn.records.items) × (l.kept.capacity ≡ l.fn.size)
