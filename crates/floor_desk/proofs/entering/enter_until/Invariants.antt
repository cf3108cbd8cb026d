use Rattle.std.proofs.Common.{◌≡◌}
use Rattle.turnstile.specs.Passes.{IsOf}
use Rattle.floor_desk.specs.Workers.{GoesThrough}
use Rattle.floor_desk.proofs.Trying.{HasTurnedBack}
use Rattle.floor_desk.proofs.entering.enter_until.Given as goal

abbrev pub invariant-loop : goal.invariant-loop
invariant-loop g l = record {
  here : IsOf l.fn.tools.desk.now l.pass;
  turned : HasTurnedBack (g.K.Clock.shows l.fn.tools.clock.now) l.fn.pass l.pass l.fn.input;
  worker : l.steps.worker ≡ l.fn.steps.worker;
  turns : GoesThrough (g.W.Gate.passed l.fn.tools.gate.now l.fn.steps.worker) l.fn.steps.count l.steps.count l.fn.pass l.pass;
}
