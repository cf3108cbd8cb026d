use Rattle.std.proofs.Common.{◌≡◌, ◌∙◌, sym, ap, subst}
use Rattle.outbox.specs.Outboxes.{OutboxState, unfinished_in, new_outbox}
use Rattle.outbox.proofs.Making.{none_unfinished, new_is}
use Rattle.outbox.specs.Following.{StandsFor, no_operations}
use Rattle.outbox.proofs.Standing.{new_stands}
use Rattle.outbox.proofs.Settling.{with_posts, is_with}
use Rattle.outbox.proofs.outbox.Outbox.new.Goals as goal

pub invariant_of-result : goal.invariant_of-result
invariant_of-result c =
    let made = c.in_ok-empty_mailboxes.ensures.empty in
    let state = new_outbox c.args.peers.items c.args.limit c.args.timeout c.args.retries in (
      none_unfinished c.args.peers.items ∙ ap unfinished_in (sym made),
      is_with state _ _ made (new_is c.args.peers.items c.args.limit c.args.timeout c.args.retries c.requires.ascending c.requires.settings),
    )

pub returns-clause-looking_back : goal.returns-clause-looking_back
returns-clause-looking_back c =
    let made = c.in_ok-empty_mailboxes.ensures.empty in
    let state = new_outbox c.args.peers.items c.args.limit c.args.timeout c.args.retries in
    let now : with_posts state c.in_ok-empty_mailboxes.field-0.items ≡ state = ap (with_posts state) made in
    subst (λ (o : OutboxState). StandsFor o no_operations) (sym now) (new_stands c.args.peers.items c.args.limit c.args.timeout c.args.retries)
