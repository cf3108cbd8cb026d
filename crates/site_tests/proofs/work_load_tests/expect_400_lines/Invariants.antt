use Rattle.std.proofs.Common.{◌≡◌}
use Rattle.site_tests.proofs.work_load_tests.expect_400_lines.Given as goal

-- the lines are of the same grammar
abbrev pub invariant-loop : goal.invariant-loop
invariant-loop g l = l.lines.grammar ≡ l.initial.lines.grammar
