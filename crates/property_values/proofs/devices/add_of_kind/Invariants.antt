use Rattle.std.proofs.Common.{◌≡◌, ◌==◌, ◌++◌, filter, take}
use Rattle.bac_values.specs.Identifier.{number_of_kind, ObjectIdData}
use Rattle.property_values.proofs.devices.add_of_kind.Given as goal

abbrev pub invariant-loop-object : goal.invariant-loop-object
invariant-loop-object l = l.list.items ≡ l.initial.list.items ++ filter (λ (object : ObjectIdData). object.number == number_of_kind l.kind) (take l.object-index l.identifiers)
