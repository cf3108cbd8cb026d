use Rattle.std.proofs.Common.{rules, ap}
use Rattle.turnstile.proofs.Keeps.{shuts, closes}
use Rattle.turnstile.proofs.turnstile.Turnstile.close.Goals as goal

pub load-requires : goal.load-requires
load-requires g c = (search rules, search rules, shuts _ _ _ _ _ _ _ c.pass.invariant.0 c.pass.invariant.1)

pub unreachable-requires : goal.unreachable-requires
unreachable-requires g c =
    let f = c.close_with-closed.ensures.values.2 in
    c.in_default.not-Empty (closes g.T.Chronicle.stands g.T.Chronicle.origin _ g.T.Chronicle.licenses f.0 c.load.new.seat.id c.pass.inside.seat.me.0 c.load.new.seat.me.0 c.take-last.result _ f.1.0 f.1.1 (ap (λ m. m.0) c.load.ensures.2) c.pass.invariant.1 f.4 c.take-last.ensures.value)
