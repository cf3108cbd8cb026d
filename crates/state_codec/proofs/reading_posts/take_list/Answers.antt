use Rattle.std.proofs.Common.{◌≡◌, ◌++◌, ◌∷◌, [], List}
use Rattle.std.proofs.lemmas.Result.{err_from_is_err_and}
use Rattle.bac_values.specs.declared.note.Note.{Note}
use Rattle.outbox.specs.declared.post.Post.{Post}
use Rattle.outbox.specs.Outboxes.{restored_post, restored_posts}
use Rattle.state_codec.specs.SnapshotSteps.{post_at, times_at}
use Rattle.state_codec.proofs.Loops.{times_goes_on, times_ends, times_is_done}
use Rattle.state_codec.proofs.PostsRead.{one_more, told_still}
use Rattle.state_codec.proofs.reading_posts.take_list.Goals as goal

pub returns-in_err-post-clause-exact : goal.returns-in_err-post-clause-exact
returns-in_err-post-clause-exact c =
    let p = err_from_is_err_and c.from_residual.result c.from_residual.ensures.1 in
    rw (p.1, p.2) (times_ends post_at c.in_err-post.field-0.0 (restored_posts c.loop.posts.items c.loop.notes.items) c.args.count c.loop.counter c.loop.bytes.now (times_at post_at c.args.count c.args.bytes.now.now) c.loop-test.true c.in_err-post.ensures.exact c.loop.invariant.read)

pub loop-preserved : goal.loop-preserved
loop-preserved c =
    let posts = c.loop.posts.items in
    let notes = c.loop.notes.items in
    let post : Post = c.in_ok-post.post in
    let own : List Note = c.in_ok-post.own.items in
    let more : c.push.new.items.items ≡ posts ++ post ∷ [] = c.in_ok-push.ensures.added in
    let others : c.push_all.new.notes.items ≡ notes ++ own = c.in_ok-push_all.ensures.added in
    let all : restored_posts (posts ++ post ∷ []) (notes ++ own) ≡ restored_posts posts notes ++ restored_post post own ∷ [] = one_more posts notes post own c.loop.invariant.told c.in_ok-post.ensures.told in
    record {
      read = rw (more, others, all) (times_goes_on post_at (restored_posts posts notes) c.args.count c.loop.counter c.loop.bytes.now (restored_post post own) c.take_post.new.bytes.now (times_at post_at c.args.count c.args.bytes.now.now) c.loop-test.true c.in_ok-post.ensures.exact c.loop.invariant.read);
      told = rw (more, others) (told_still posts notes post own c.loop.invariant.told c.in_ok-post.ensures.told);
    }

pub returns-clause-exact : goal.returns-clause-exact
returns-clause-exact c = times_is_done post_at (restored_posts c.loop.posts.items c.loop.notes.items) c.args.count c.loop.counter c.loop.bytes.now (times_at post_at c.args.count c.args.bytes.now.now) c.loop-test.false c.loop.invariant.read
