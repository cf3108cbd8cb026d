use Rattle.std.proofs.lemmas.Bool.{lt-leb}
use Rattle.state_codec.proofs.PostsOf.{passes, refused}
use Rattle.state_codec.proofs.reading_outbox.may_have_posts.Goals as goal

pub returns-then-few : goal.returns-then-few
returns-then-few c = record { exact = passes c.tests_posts.ensures.posts c.args.site.now c.args.posts.now c.args.notes.now c.can_restore.result c.requires.settings c.requires.told c.if-few.true c.can_restore.ensures.exact }

pub returns-else-few : goal.returns-else-few
returns-else-few c = record { exact = refused c.args.site.now c.args.posts.now c.args.notes.now (lt-leb _ _ c.if-few.false) }
