use Rattle.std.proofs.Common.{rules, slice_get}
use Rattle.state_codec.proofs.Written.{on_ok, post_written}
use Rattle.state_codec.proofs.writing_rest.put_post.Goals as goal

pub returns-in_ok-put_told-in-Some : goal.returns-in_ok-put_told-in-Some
returns-in_ok-put_told-in-Some c =
    record { written = on_ok c.put_notes.result _ _ (λ e. post_written (slice_get c.args.outbox.now.posts c.args.place) c.in-Some.post c.args.out.now.items _ _ (search rules) c.in_ok-put_told-in-Some.ensures.written e) c.put_notes.ensures.written }
