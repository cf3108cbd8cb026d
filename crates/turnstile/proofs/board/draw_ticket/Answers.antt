use Rattle.std.proofs.Common.{rules, ap, arith, ◌∙◌}
use Rattle.turnstile.proofs.Keeps.{draws}
use Rattle.turnstile.proofs.board.draw_ticket.Goals as goal

pub compare_exchange-found-requires : goal.compare_exchange-found-requires
compare_exchange-found-requires g c =
    (search rules, search rules, draws _ _ _ _ _ _ c.peek-next.result c.loop.seat.me (ap (λ m. m.0.stage) c.loop.invariant.1 ∙ c.requires.idle) (omega (arith, c.if-next-lt18446744073709551615.true)))
