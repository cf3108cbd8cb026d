use Rattle.std.proofs.Common.{rules, arith}
use Rattle.state_codec.specs.Snapshots.{written_note}
use Rattle.state_codec.specs.WritingSteps.{notes_at}
use Rattle.state_codec.proofs.Written.{one_more_at}
use Rattle.state_codec.proofs.writing_rest.put_notes.Goals as goal

pub loop-index-preserved : goal.loop-index-preserved
loop-index-preserved c =
    one_more_at written_note (notes_at c.args.outbox.now c.args.place) c.loop-index.index c.args.out.now.items _ _ (search (arith, rules)) c.loop-index.invariant c.in_ok-put_note_at.ensures.written
