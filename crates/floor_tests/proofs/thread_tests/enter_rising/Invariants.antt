use Rattle.turnstile.specs.Passes.{IsOf}
use Rattle.floor_tests.proofs.thread_tests.enter_rising.Given as goal

abbrev pub invariant-loop-number : goal.invariant-loop-number
invariant-loop-number g l = IsOf l.desk l.pass
