use Rattle.turnstile.specs.Passes.{IsOf}
use Rattle.scarce_calls.proofs.desk.enter_all.Given as goal

abbrev pub invariant-loop-number : goal.invariant-loop-number
invariant-loop-number g l = IsOf l.desk l.pass
