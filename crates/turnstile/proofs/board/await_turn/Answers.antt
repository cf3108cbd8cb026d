use Rattle.std.proofs.Common.{rules, ap, ◌∙◌}
use Rattle.turnstile.proofs.Keeps.{looks}
use Rattle.turnstile.proofs.board.await_turn.Goals as goal

pub load-served-requires : goal.load-served-requires
load-served-requires g c = (search rules, search rules, looks _ _ _ _ _ _ c.args.ticket c.loop.seat.me (ap (λ m. m.0.stage) c.loop.invariant.1 ∙ c.requires.waits) (ap (λ m. m.1) c.loop.invariant.1 ∙ c.requires.empty))

pub loop-preserved : goal.loop-preserved
loop-preserved g c = (
  c.load-served.ensures.0 ∙ c.loop.invariant.0,
  (c.load-served.ensures.2 c.args.ticket (ap (λ m. m.0.stage) c.loop.invariant.1 ∙ c.requires.waits)).1 c.if-served-ticket.false ∙ c.loop.invariant.1,
)
