use Rattle.std.proofs.Common.{◌≡◌, true, ◌∙◌}
use Rattle.state_codec.specs.SnapshotSteps.{may_have_posts}
use Rattle.outbox.specs.Outboxes.{restored_posts}
use Rattle.state_codec.proofs.PostsOf.{all_hangs, known_ascend, peers_told}
use Rattle.state_codec.proofs.reading_outbox.are_posts_of.Goals as goal

pub knows_classes-requires : goal.knows_classes-requires
knows_classes-requires c =
    let may : may_have_posts c.args.site.now (restored_posts c.args.posts.now c.args.notes.now) ≡ true = cc in
    let known : c.deref.result.now ≡ peers_told c.args.posts.now = c.deref.ensures.value ∙ c.in_ok-known.ensures.peers in
    record { ascending = known_ascend c.args.site.now c.args.posts.now c.args.notes.now c.deref.result.now may known }

pub returns : goal.returns
returns c =
    let may : may_have_posts c.args.site.now (restored_posts c.args.posts.now c.args.notes.now) ≡ true = cc in
    let known : c.deref.result.now ≡ peers_told c.args.posts.now = c.deref.ensures.value ∙ c.in_ok-known.ensures.peers in
    record { exact = c.knows_classes.ensures.exact ∙ all_hangs c.args.site.now c.args.classes.now c.args.posts.now c.args.notes.now c.deref.result.now may known }
