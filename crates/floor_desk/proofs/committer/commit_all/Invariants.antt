use Rattle.std.proofs.Common.{◌≡◌}
use Rattle.ground_io.specs.declared.gate.Worker.TheVariants.{Committer}
use Rattle.turnstile.specs.Passes.{IsOf}
use Rattle.floor_desk.specs.Workers.{GoesThrough, HasKept}
use Rattle.floor_desk.proofs.committer.commit_all.Given as goal

abbrev pub invariant-loop : goal.invariant-loop
invariant-loop g l = record {
  here : IsOf l.fn.desk l.pass;
  kept : HasKept l.fn.pass l.pass;
  worker : l.steps.worker ≡ Committer;
  turns : GoesThrough (g.W.Gate.passed l.fn.gate Committer) 0 l.steps.count l.fn.pass l.pass;
}
