use Rattle.std.proofs.Common.{◌≡◌, ◌++◌, ◌∷◌, []}
use Rattle.std.proofs.lemmas.Result.{err_from_is_err_and}
use Rattle.state_codec.specs.SnapshotSteps.{note_at, times_at}
use Rattle.state_codec.proofs.Loops.{times_goes_on, times_ends, times_is_done}
use Rattle.state_codec.proofs.reading_lists.take_notes.Goals as goal

pub returns-in_err-note : goal.returns-in_err-note
returns-in_err-note c =
    let p = err_from_is_err_and c.from_residual.result c.from_residual.ensures.1 in
    record { exact = rw (p.1, p.2) (times_ends (note_at c.args.peer) c.in_err-note.field-0.0 c.loop.notes.items c.args.count c.loop.counter c.loop.bytes.now (times_at (note_at c.args.peer) c.args.count c.args.bytes.now.now) c.loop-test.true c.in_err-note.ensures.exact c.loop.invariant) }

pub loop-preserved : goal.loop-preserved
loop-preserved c =
    let e : c.push.new.items.items ≡ c.loop.notes.items ++ c.in_ok-note.note ∷ [] = c.in_ok-push.ensures.added in
    rw e (times_goes_on (note_at c.args.peer) c.loop.notes.items c.args.count c.loop.counter c.loop.bytes.now c.in_ok-note.note c.take_note.new.bytes.now (times_at (note_at c.args.peer) c.args.count c.args.bytes.now.now) c.loop-test.true c.in_ok-note.ensures.exact c.loop.invariant)

pub returns : goal.returns
returns c = record { exact = times_is_done (note_at c.args.peer) c.loop.notes.items c.args.count c.loop.counter c.loop.bytes.now (times_at (note_at c.args.peer) c.args.count c.args.bytes.now.now) c.loop-test.false c.loop.invariant }
