use Rattle.std.proofs.Common.{◌∙◌, [], ◌∷◌, ◌++◌, sym, ap}
use Rattle.bac_values.specs.declared.note.Note.{Note}
use Rattle.object_tests.proofs.ShownLemmas.{shown_known, one_known}
use Rattle.object_tests.proofs.outbox_tests.queue_at.Goals as goal

pub queue-requires-clause-known : goal.queue-requires-clause-known
queue-requires-clause-known c =
    let note : Note = record { peer = c.in-Some.post.peer; confirmed = c.args.confirmed; body = c.of.result } in
    one_known c.args.outbox.now.posts note c.push.new.self.items
    (shown_known c.args.outbox.now.posts c.args.place c.in-Some.post (sym c.in-Some.is ∙ c.post.ensures.post))
    (c.in_ok-push.ensures.items ∙ ap (λ ns. ns ++ note ∷ []) c.new-notes.ensures.items)
