use Rattle.std.proofs.Common.{◌∙◌}
use Rattle.turnstile.proofs.Showing.{turn_shown}
use Rattle.turnstile.proofs.board.take_turn.Goals as goal

pub returns-clause-sees : goal.returns-clause-sees
returns-clause-sees g c =
    let k = g.T.Chronicle in let old = c.args.seat.now in let drawn = c.draw_ticket-ticket in let come = c.await_turn in let now = c.exchange in
    turn_shown k.stands k.origin k.licenses old.table_id now.new.seat.table_id drawn.result old.me drawn.new.seat.me come.new.seat.me now.new.seat.me _
    (now.ensures.0 ∙ (come.ensures.table ∙ drawn.ensures.table)) c.requires.rest.2 drawn.ensures.drawn come.ensures.turned now.ensures.3
