use Rattle.std.proofs.Common.{◌≡◌, ◌++◌, take, flat_map}
use Rattle.state_codec.specs.Snapshots.{written_class}
use Rattle.state_codec.proofs.writing_rest.put_classes.Given as goal

abbrev pub invariant-loop-class : goal.invariant-loop-class
invariant-loop-class l = l.out.items ≡ l.fn.out.items ++ flat_map written_class (take l.class-index l.classes)
