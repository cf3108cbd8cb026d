use Rattle.std.proofs.Common.{rules, ap, ◌∙◌}
use Rattle.turnstile.proofs.Keeps.{settles}
use Rattle.turnstile.proofs.Seats.{joins}
use Rattle.turnstile.proofs.board.take_in.Goals as goal

pub join_seat-requires : goal.join_seat-requires
join_seat-requires g c = (search rules, search rules, search rules, search rules, joins _ _ _ _ _ _ _ _ c.requires.idle.1)

pub load-requires : goal.load-requires
load-requires g c = (search rules, search rules, settles _ _ _ _ _ _ _ (ap (λ m. m.0.stage) c.join_seat.ensures.2 ∙ c.requires.idle.0))
