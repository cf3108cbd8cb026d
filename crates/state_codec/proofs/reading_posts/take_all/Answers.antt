use Rattle.state_codec.specs.SnapshotSteps.{note_at}
use Rattle.state_codec.proofs.Loops.{times_long}
use Rattle.state_codec.proofs.reading_posts.take_all.Goals as goal

pub returns : goal.returns
returns c = record {
  exact = c.take_notes.ensures.exact;
  many = times_long (λ x. x.items) c.take_notes.new.bytes.now c.take_notes.result (note_at c.args.peer) c.args.count c.args.bytes.now.now c.take_notes.ensures.exact;
}
