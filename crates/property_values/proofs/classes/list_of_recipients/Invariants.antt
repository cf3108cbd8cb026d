use Rattle.std.proofs.Common.{◌≡◌, take}
use Rattle.std.specs.List.{flat_map}
use Rattle.property_values.specs.ClassProperties.{written_recipient}
use Rattle.property_values.proofs.classes.list_of_recipients.Given as goal

abbrev pub invariant-loop-recipient : goal.invariant-loop-recipient
invariant-loop-recipient l = l.octets.items ≡ flat_map written_recipient (take l.recipient-index l.recipients)
