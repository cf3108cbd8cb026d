use Rattle.std.proofs.Common.{◌≡◌}
use Rattle.ground_io.specs.declared.gate.Worker.TheVariants.{Ticker}
use Rattle.turnstile.specs.Passes.{IsOf}
use Rattle.floor_desk.specs.Workers.{GoesThrough, HasTicked}
use Rattle.floor_desk.proofs.ticker.tick_all.Given as goal

abbrev pub invariant-loop : goal.invariant-loop
invariant-loop g l = record {
  here : IsOf l.fn.desk l.pass;
  ticked : HasTicked (g.K.Clock.shows l.fn.clock) l.fn.pass l.pass;
  worker : l.steps.worker ≡ Ticker;
  turns : GoesThrough (g.W.Gate.passed l.fn.gate Ticker) 0 l.steps.count l.fn.pass l.pass;
}
