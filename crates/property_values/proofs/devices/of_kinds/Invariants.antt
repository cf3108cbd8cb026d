use Rattle.std.proofs.Common.{◌≡◌, ◌==◌, filter, take}
use Rattle.std.specs.List.{flat_map}
use Rattle.bac_values.specs.Identifier.{number_of_kind, ObjectIdData}
use Rattle.property_values.proofs.devices.of_kinds.Given as goal

abbrev pub invariant-loop-kind : goal.invariant-loop-kind
invariant-loop-kind l = l.list.items ≡ flat_map (λ kind. filter (λ (object : ObjectIdData). object.number == number_of_kind kind) l.identifiers) (take l.kind-index l.kinds)
