use Rattle.std.proofs.Common.{rules, ap, ◌∙◌}
use Rattle.turnstile.specs.ViewSteps.{own_number, first_call, of_views}
use Rattle.turnstile.proofs.Seats.{names, splits_named}
use Rattle.turnstile.proofs.Showing.{seated, rest_of_seat, other_number}
use Rattle.turnstile.proofs.turnstile.Turnstile.split.Goals as goal

pub load-requires : goal.load-requires
load-requires g c =
    (search rules, search rules, names _ _ _ _ _ _ _ (rest_of_seat c.pass.inside.badge.views c.into_seat-seat.result.me.0 c.pass.invariant c.into_seat-seat.ensures.2).1)

pub split_seat-fresh-requires : goal.split_seat-fresh-requires
split_seat-fresh-requires g c =
    (search rules, search rules, splits_named _ _ _ _ c.self.inside.table.shared.table_id.slots _ c.load.result c.into_seat-seat.result.me c.load.new.seat.me c.load.ensures.2)

pub returns-clause-other : goal.returns-clause-other
returns-clause-other g c =
    let badge = c.pass.inside.badge in let v = c.into_seat-seat.result.me.0 in let new = c.into_badge-2 in
    other_number badge.table_id v c.args.pass c.load.ensures.2.0 _ (seated badge.table_id badge.views v c.args.pass c.pass.view_is c.into_seat-seat.ensures.2)
    (rest_of_seat badge.views v c.pass.invariant c.into_seat-seat.ensures.2).1 c.load.ensures.2.3
    (ap (λ views. (of_views new.result.table_id views).number) new.ensures.2 ∙ (ap (λ m. own_number m.0.calls) c.split_seat-fresh.ensures.4 ∙ ap (λ m. own_number (first_call m.0.calls)) c.load.ensures.2.1))
