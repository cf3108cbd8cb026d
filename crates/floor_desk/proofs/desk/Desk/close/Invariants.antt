use Rattle.turnstile.specs.Passes.{IsOf}
use Rattle.floor_desk.specs.Desks.{Waited}
use Rattle.floor_desk.proofs.desk.Desk.close.Given as goal

abbrev pub invariant-loop : goal.invariant-loop
invariant-loop g l = record { here : IsOf l.fn.self l.pass; waited : Waited l.fn.pass l.pass }
