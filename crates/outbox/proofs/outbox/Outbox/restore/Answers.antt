use Rattle.std.proofs.Common.{◌∙◌, List, map, sym, ap, arith}
use Rattle.outbox.specs.declared.post.Post.{Post}
use Rattle.outbox.specs.Outboxes.{OutboxState, unfinished_in, shown, restored, restored_posts, notes_of}
use Rattle.outbox.proofs.Settling.{is_with}
use Rattle.outbox.proofs.Told.{shows_told, holds_told, counts_told}
use Rattle.outbox.proofs.outbox.Outbox.restore.Goals as goal

pub overflow_cast-unfinished : goal.overflow_cast-unfinished
overflow_cast-unfinished c =
    let counts = counts_told c.args.posts.items c.args.notes.items c.requires.counts in
    omega (arith, counts, c.requires.outbox.room, c.requires.outbox.settings.fits, c.len-unfinished.ensures, c.args.notes.ok.0)

pub invariant_of-result : goal.invariant_of-result
invariant_of-result c =
    let posts = c.args.posts.items in
    let notes = c.args.notes.items in
    let state : OutboxState = restored posts notes c.args.limit c.args.timeout c.args.retries in
    let made = c.in_ok-restored_mailboxes.ensures.restored ∙ ap (λ (ps : List Post). restored_posts ps notes) c.deref.ensures.value in (
      c.len-unfinished.ensures ∙ c.args.notes.ok.0 ∙ sym (ap unfinished_in made ∙ counts_told posts notes c.requires.counts),
      is_with state _ _ made c.requires.outbox,
    )

pub returns-clause-shows : goal.returns-clause-shows
returns-clause-shows c =
    let posts = c.args.posts.items in
    let notes = c.args.notes.items in
    let made = c.in_ok-restored_mailboxes.ensures.restored ∙ ap (λ (ps : List Post). restored_posts ps notes) c.deref.ensures.value in
    ap (map shown) made ∙ shows_told posts notes c.requires.counts

pub returns-clause-holds : goal.returns-clause-holds
returns-clause-holds c =
    let posts = c.args.posts.items in
    let notes = c.args.notes.items in
    let made = c.in_ok-restored_mailboxes.ensures.restored ∙ ap (λ (ps : List Post). restored_posts ps notes) c.deref.ensures.value in
    ap notes_of made ∙ holds_told posts notes c.requires.counts
