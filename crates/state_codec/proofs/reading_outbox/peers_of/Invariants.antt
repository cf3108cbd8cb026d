use Rattle.std.proofs.Common.{◌≡◌, map, take}
use Rattle.outbox.specs.declared.post.Post.{Post}
use Rattle.state_codec.proofs.reading_outbox.peers_of.Given as goal

abbrev pub invariant-loop-post : goal.invariant-loop-post
invariant-loop-post l = l.peers.items ≡ map (λ (post : Post). post.peer) (take l.post-index l.posts)
