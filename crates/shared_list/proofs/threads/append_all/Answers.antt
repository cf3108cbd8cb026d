use Rattle.std.proofs.Common.{ap, length, ◌∙◌}
use Rattle.turnstile.proofs.Shares.{whole_share}
use Rattle.shared_list.proofs.Histories.{stand, long_stand}
use Rattle.shared_list.proofs.threads.append_all.Goals as goal

pub returns : goal.returns
returns g c =
    let turn = c.take-turn in let is = c.close.ensures ∙ turn.ensures.value in
    let whole = whole_share c.in-Ok.opened.0 c.in-Ok.opened.1 c.in_ok-pass.pass c.in-Ok.ensures.first c.in_ok-pass.ensures.share in
    let stood = stand _ c.in_ok-pass.pass turn.result.pass _ turn.ensures.sees whole c.in_ok-pass.ensures.calls in record {
      history = (turn.result.pass.seen, is, stood);
      length = ap length is ∙ long_stand turn.result.pass.seen _ stood;
    }
