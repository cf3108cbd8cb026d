use Rattle.std.proofs.Common.{◌≡◌, ◌-◌, ◌∙◌, ap}
use Rattle.std.proofs.lemmas.Result.{IfOk-weaker}
use Rattle.service_desk.proofs.Fitted.{counted_is_sent}
use Rattle.service_desk.proofs.read_range.leading_records.Goals as goal

pub returns-clause-count : goal.returns-clause-count
returns-clause-count c =
    let room : c.saturating_sub-room.result ≡ c.args.requester.now.max_apdu - c.in_ok-round.round - 2 = c.saturating_sub-room.ensures ∙ ap (λ m. m - 2) (c.saturating_sub.ensures ∙ ap (λ m. m - c.in_ok-round.round) (c.from.ensures ∙ c.max_apdu.ensures.most)) in
    IfOk-weaker c.leading_with_room.result _ _ (λ leading counted. counted_is_sent c.args.requester.now c.args.request.now c.args.log.now c.args.range c.in_ok-round.round c.saturating_sub-room.result leading.count c.in_ok-round.ensures.round room counted) c.leading_with_room.ensures.count
