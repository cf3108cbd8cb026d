use Rattle.std.proofs.Common.{◌≡◌, ◌++◌, take}
use Rattle.std.specs.List.{flat_map}
use Rattle.state_codec.specs.Records.{written_destination}
use Rattle.state_codec.proofs.writing.put_list.Given as goal

abbrev pub invariant-loop-recipient : goal.invariant-loop-recipient
invariant-loop-recipient l = l.out.items ≡ l.fn.out.items ++ flat_map written_destination (take l.recipient-index l.recipients)
