use Rattle.std.proofs.Common.{subst}
use Rattle.turnstile.specs.Passes.{Sees}
use Rattle.turnstile.specs.ViewSteps.{of_view}
use Rattle.turnstile.proofs.Showing.{seated}
use Rattle.turnstile.proofs.turnstile.Turnstile.take.Goals as goal

pub returns-clause-sees : goal.returns-clause-sees
returns-clause-sees g c =
    let badge = c.pass.inside.badge in let seat = c.into_seat-seat in let now = c.take_turn-ticket.new.seat in
    subst (λ p. Sees g.T.Chronicle.licenses p (of_view now.table_id now.me.0)) (seated badge.table_id badge.views seat.result.me.0 c.args.pass c.pass.view_is seat.ensures.2)
    (subst (λ t. Sees g.T.Chronicle.licenses (of_view t seat.result.me.0) (of_view now.table_id now.me.0)) seat.ensures.0 c.take_turn-ticket.ensures.sees)
