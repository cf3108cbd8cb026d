use Rattle.std.proofs.Common.{◌∙◌, ap, get_or}
use Rattle.bac_values.specs.declared.note.Note.{Note}
use Rattle.outbox.specs.Posts.{with_note}
use Rattle.outbox.proofs.QueueLemmas.{put_one, known_nowhere}
use Rattle.outbox.proofs.queueing.put.Goals as goal

pub unreachable-requires : goal.unreachable-requires
unreachable-requires c = known_nowhere c.args.note.now.peer c.args.mailboxes.now c.in_default.field-0 c.requires.known c.in_default.ensures.searched

pub returns-in-Ok-push-clause-put : goal.returns-in-Ok-push-clause-put
returns-in-Ok-push-clause-put c =
    let posts = c.args.mailboxes.now in
    let place = c.in-Ok.place in
    let old = c.index-mailboxes-place.result in
    put_one c.args.note.now posts place c.push.new.self old c.requires.ascending c.in-Ok.ensures.searched
    (c.in-Ok-push.ensures.pushed ∙ ap (λ (n : Note). with_note n (get_or posts place old)) c.replace-moved.ensures.value)
