use Rattle.std.proofs.Common.{rules, arith}
use Rattle.state_codec.specs.Snapshots.{written_post}
use Rattle.state_codec.proofs.Written.{one_more_at}
use Rattle.state_codec.proofs.writing_rest.put_posts.Goals as goal

pub loop-place-preserved : goal.loop-place-preserved
loop-place-preserved c =
    one_more_at written_post c.args.outbox.now.posts c.loop-place.place c.args.out.now.items _ _ (search (arith, rules)) c.loop-place.invariant c.in_ok-put_post.ensures.written
