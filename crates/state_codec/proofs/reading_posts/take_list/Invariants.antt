use Rattle.std.proofs.Common.{◌≡◌, ◌-◌, length}
use Rattle.outbox.specs.Outboxes.{notes_told, restored_posts}
use Rattle.state_codec.specs.SnapshotSteps.{post_at, times_at}
use Rattle.state_codec.proofs.Loops.{in_front}
use Rattle.state_codec.proofs.reading_posts.take_list.Given as goal

abbrev pub invariant-loop : goal.invariant-loop
invariant-loop l = record {
  read : in_front (restored_posts l.posts.items l.notes.items) (times_at post_at (l.count - l.counter) l.bytes.now) ≡ times_at post_at l.count l.fn.bytes.now;
  told : notes_told l.posts.items ≡ length l.notes.items;
}
