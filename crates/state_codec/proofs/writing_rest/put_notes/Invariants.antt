use Rattle.std.proofs.Common.{◌≡◌, ◌++◌, take, flat_map}
use Rattle.state_codec.specs.Snapshots.{written_note}
use Rattle.state_codec.specs.WritingSteps.{notes_at}
use Rattle.state_codec.proofs.writing_rest.put_notes.Given as goal

abbrev pub invariant-loop-index : goal.invariant-loop-index
invariant-loop-index l = l.out.items ≡ l.fn.out.items ++ flat_map written_note (take l.index (notes_at l.outbox l.place))
