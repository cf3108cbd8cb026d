use Rattle.std.proofs.Common.{ap, ◌∙◌}
use Rattle.turnstile.proofs.Showing.{seated, rest_of_seat, joins_known}
use Rattle.turnstile.proofs.turnstile.Turnstile.join.Goals as goal

pub returns : goal.returns
returns g c =
    let v = c.into_seat-seat.result.me.0 in let w = c.into_seat-other.result.me.0 in
    rw c.into_badge.ensures.2 (joins_known c.keep.inside.badge.table_id c.into_badge.result.table_id c.ended.inside.badge.table_id v w c.take_in.new.seat.me.0 c.args.keep c.args.ended
    (seated c.keep.inside.badge.table_id c.keep.inside.badge.views v c.args.keep c.keep.view_is c.into_seat-seat.ensures.2)
    (seated c.ended.inside.badge.table_id c.ended.inside.badge.views w c.args.ended c.ended.view_is c.into_seat-other.ensures.2)
    (c.into_badge.ensures.0 ∙ (c.take_in.ensures.table ∙ c.into_seat-seat.ensures.0))
    (rest_of_seat c.keep.inside.badge.views v c.keep.invariant c.into_seat-seat.ensures.2).1
    (rest_of_seat c.ended.inside.badge.views w c.ended.invariant c.into_seat-other.ensures.2).1
    (ap (λ m. m.0) c.take_in.ensures.heard) c.take_in.ensures.one c.take_in.ensures.other c.take_in.ensures.once)
