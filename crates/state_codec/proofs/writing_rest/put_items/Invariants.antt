use Rattle.std.proofs.Common.{◌≡◌, ◌++◌, take, flat_map}
use Rattle.state_codec.specs.Snapshots.{written_entry}
use Rattle.state_codec.proofs.writing_rest.put_items.Given as goal

abbrev pub invariant-loop-place : goal.invariant-loop-place
invariant-loop-place l = l.out.items ≡ l.fn.out.items ++ flat_map (written_entry l.has_rule) (take l.place l.log.records)
