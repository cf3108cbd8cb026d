use Rattle.std.proofs.Common.{◌∙◌, sym, ap, subst}
use Rattle.outbox.specs.Outboxes.{OutboxState, unfinished_in, mailboxes_with_all, learned}
use Rattle.outbox.specs.Following.{Learns}
use Rattle.outbox.proofs.Settling.{with_posts, is_with}
use Rattle.outbox.proofs.Learning.{unfinished_with_all, learn_keeps, learn_learns}
use Rattle.outbox.proofs.outbox.Outbox.learn.Goals as goal

pub invariant_of-self-2 : goal.invariant_of-self-2
invariant_of-self-2 c =
    let peers = c.args.peers.now in
    let items = c.self.inside.mailboxes.items in
    let state : OutboxState = record { posts = items; limit = c.self.inside.limit; timeout = c.self.inside.timeout; retries = c.self.inside.retries; flush_silent = c.self.inside.flush_silent } in
    let written = c.add_all.ensures.added ∙ ap (mailboxes_with_all peers) c.in_ok-reserve.ensures.items in (
      c.self.invariant.0 ∙ sym (ap unfinished_in written ∙ unfinished_with_all peers items),
      is_with state _ _ written (learn_keeps peers state c.self.invariant.1),
    )

pub returns-clause-looking_back : goal.returns-clause-looking_back
returns-clause-looking_back c =
    let peers = c.args.peers.now in
    let items = c.self.inside.mailboxes.items in
    let state : OutboxState = record { posts = items; limit = c.self.inside.limit; timeout = c.self.inside.timeout; retries = c.self.inside.retries; flush_silent = c.self.inside.flush_silent } in
    let written = c.add_all.ensures.added ∙ ap (mailboxes_with_all peers) c.in_ok-reserve.ensures.items in
    let now = ap (with_posts state) written ∙ ap (learned peers) c.self.view_is in
    subst (λ (o : OutboxState). Learns peers c.args.self.now o) (sym now) (learn_learns peers c.args.self.now)
