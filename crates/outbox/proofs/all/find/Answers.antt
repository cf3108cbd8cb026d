use Rattle.std.proofs.Common.{rules}
use Rattle.std.proofs.lemmas.List.Sorted.{answers_always}
use Rattle.outbox.specs.Posts.{MailboxState}
use Rattle.outbox.proofs.PlaceLemmas.{searched}
use Rattle.outbox.proofs.all.find.Goals as goal

pub returns : goal.returns
returns c = record {
  searched = searched c.args.mailboxes.now c.args.peer.now c.binary_search_by_key.result c.requires.ascending c.binary_search_by_key.ensures.bound
      (c.binary_search_by_key.ensures.position (λ (post : MailboxState). post.peer) (answers_always _ _ _ (λ f a r g h. search rules)));
}
