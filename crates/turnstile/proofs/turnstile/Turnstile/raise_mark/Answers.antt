use Rattle.std.proofs.Common.{rules, subst, sym}
use Rattle.turnstile.specs.Histories.{Licensed}
use Rattle.turnstile.proofs.Keeps.{raises}
use Rattle.turnstile.proofs.Showing.{seated}
use Rattle.turnstile.proofs.turnstile.Turnstile.raise_mark.Goals as goal

pub fetch_max-requires : goal.fetch_max-requires
fetch_max-requires g c = (
  search rules,
  search rules,
  raises _ _ _ _ g.T.Chronicle.licenses_more _ _ _ c.into_seat-seat.result.me (subst (λ k. Licensed g.T.Chronicle.licenses k.seen c.args.to) (sym (seated _ _ c.into_seat-seat.result.me.0 c.args.pass c.pass.view_is c.into_seat-seat.ensures.2)) c.requires.licensed) (search rules),
)
