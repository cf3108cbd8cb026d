use Rattle.std.proofs.Common.{refl, rules}
use Rattle.std.specs.Ordering.{is_lt}
use Rattle.std.proofs.lemmas.List.Sorted.{answers_always}
use Rattle.bac_values.specs.Orders.{peer_order}
use Rattle.outbox.specs.declared.post.Post.{Post as Told}
use Rattle.outbox.proofs.Tested.{ascends}
use Rattle.outbox.proofs.deciding.is_ascending.Goals as goal

pub returns : goal.returns
returns c = record {
  ascending = ascends (λ (x y : Told). is_lt (peer_order x.peer y.peer)) (λ x y. refl) c.args.posts.now c.is_sorted_by.result
      (c.is_sorted_by.ensures.cases (λ (x y : Told). is_lt (peer_order x.peer y.peer)) (answers_always _ _ _ (λ f a r g h. search rules)));
}
