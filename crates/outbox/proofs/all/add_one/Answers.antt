use Rattle.std.proofs.Common.{◌∙◌, List, sym, ap}
use Rattle.std.specs.List.{insert}
use Rattle.outbox.specs.Posts.{empty_post, MailboxState}
use Rattle.outbox.specs.Outboxes.{mailboxes_with}
use Rattle.bac_values.proofs.Inserting.{made_sure}
use Rattle.outbox.proofs.Learning.{at_place, at_gap}
use Rattle.outbox.proofs.all.add_one.Goals as goal

pub returns-in-Err-clause-added : goal.returns-in-Err-clause-added
returns-in-Err-clause-added c =
    let posts = c.args.mailboxes.now.items in
    let place = c.in-Err.place in
    let seen = c.deref.ensures.value in
    c.insert-inserted.ensures.items
    ∙ made_sure c.insert-inserted.result _ posts (c.insert-inserted.ensures.succeeds c.requires.room)
    ∙ ap (insert posts place) c.new.ensures.empty
    ∙ ap (λ (ps : List MailboxState). insert ps place (empty_post c.args.peer)) (sym seen)
    ∙ at_gap c.args.peer c.deref.result.now place c.in-Err.ensures.searched
    ∙ ap (mailboxes_with c.args.peer) seen

pub returns-in_default-clause-added : goal.returns-in_default-clause-added
returns-in_default-clause-added c =
    let seen = c.deref.ensures.value in
    sym seen ∙ at_place c.args.peer c.deref.result.now c.in_default.field-0 c.in_default.ensures.searched (empty_post c.args.peer) ∙ ap (mailboxes_with c.args.peer) seen
