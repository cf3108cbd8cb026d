use Rattle.std.proofs.Common.{rules, ◌≡◌, ◌++◌, ◌∷◌, [], sym, ap, ◌∙◌, arith}
use Rattle.std.proofs.lemmas.List.{length-map, take_all}
use Rattle.outbox.specs.Outboxes.{peers_of, shown}
use Rattle.outbox.specs.Posts.{MailboxState}
use Rattle.outbox.specs.declared.post.Post.{Post}
use Rattle.alarm_core.proofs.Restored.{next_at, none_at}
use Rattle.alarm_core.proofs.restoring.peers_of_posts.Goals as goal

pub loop-post-preserved : goal.loop-post-preserved
loop-post-preserved c =
    let posts = c.args.outbox.now.posts in
    let post = c.in-Some.post in
    let next = next_at shown (λ (p : Post). p.peer) posts c.loop-post.place post (sym c.post.ensures.post ∙ c.in-Some.is) in
    let pushed : c.push.new.items.items ≡ c.loop-post.peers.items ++ post.peer ∷ [] = search rules in
    let here = next.0 in
    record {
      within = omega (arith, here);
      peers = pushed ∙ (ap (λ done. done ++ post.peer ∷ []) c.loop-post.invariant.peers ∙ sym next.1);
    }

pub returns : goal.returns
returns c =
    let posts = c.args.outbox.now.posts in
    let end = none_at shown posts c.loop-post.place (sym c.post.ensures.post ∙ c.in_default.is) in
    let long = length-map posts (λ (post : MailboxState). post.peer) in
    record { peers = c.loop-post.invariant.peers ∙ take_all c.loop-post.place (peers_of posts) (omega (arith, end, long)) }
