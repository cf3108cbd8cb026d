use Rattle.std.proofs.Common.{◌≡◌, true, List, sym, ap, ◌∙◌}
use Rattle.bac_values.specs.declared.note.Note.{Note}
use Rattle.outbox.specs.declared.post.Post.{Post}
use Rattle.outbox.specs.Outboxes.{restored_posts}
use Rattle.state_codec.specs.SnapshotSteps.{are_posts_of}
use Rattle.state_codec.proofs.PostsOf.{outbox_told}
use Rattle.state_codec.proofs.reading_outbox.take_outbox.Goals as goal

pub restored-requires-clause-outbox : goal.restored-requires-clause-outbox
restored-requires-clause-outbox c =
    let site = c.args.site.now in
    let classes = c.args.classes.now in
    let are : are_posts_of site classes (restored_posts c.in_ok-posts.posts.items c.in_ok-posts.notes.items) ≡ true =
    ap (λ (ps : List Post). are_posts_of site classes (restored_posts ps c.in_ok-posts.notes.items)) (sym c.deref.ensures.value)
    ∙ ap (λ (ns : List Note). are_posts_of site classes (restored_posts c.deref.result.now ns)) (sym c.deref-2.ensures.value)
    ∙ sym c.in_ok-are_posts_of.ensures.exact
    ∙ c.if-not-branch.false in
    outbox_told c.tests_posts.ensures.posts site c.requires.settings classes (restored_posts c.in_ok-posts.posts.items c.in_ok-posts.notes.items) are
