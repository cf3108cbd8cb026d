use Rattle.std.proofs.Common.{rules}
use Rattle.turnstile.proofs.Keeps.{gives_back, gave_me}
use Rattle.turnstile.proofs.board.give_turn.Goals as goal

pub fetch_add-served-requires : goal.fetch_add-served-requires
fetch_add-served-requires g c = (
  search rules,
  search rules,
  gives_back _ _ _ _ g.T.Chronicle.licenses_more _ _ c.args.seat.now.me c.exchange-was.new.seat.me c.args.value c.noted_of.result c.args.entry.now c.requires.holds c.exchange-was.ensures.3 c.noted_of.ensures.kept c.requires.value c.requires.origin,
)

pub returns-clause-given : goal.returns-clause-given
returns-clause-given g c = gave_me c.args.seat.now.me c.exchange-was.new.seat.me c.fetch_add-served.new.seat.me c.args.value c.noted_of.result c.args.entry.now c.requires.holds.0 c.exchange-was.ensures.3 c.noted_of.ensures.kept c.fetch_add-served.ensures.2
