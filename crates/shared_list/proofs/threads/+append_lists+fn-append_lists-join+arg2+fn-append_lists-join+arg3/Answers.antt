use Rattle.turnstile.proofs.Shares.{halves_share}
use Rattle.shared_list.proofs.threads.+append_lists+fn-append_lists-join+arg2+fn-append_lists-join+arg3.Goals as goal

pub returns-clause-share : goal.returns-clause-share
returns-clause-share g t c =
    let both = c.in-Ok.both in
    halves_share c.args.pass both.0 both.1 c.in_ok-one.one c.in_ok-two.two c.join.result c.in-Ok.ensures.same c.in-Ok.ensures.new
    (rw c.in_ok-one.was at c.join-one.ensures.first).2 (rw c.in_ok-two.was at c.join-one.ensures.second).2 c.join.ensures
