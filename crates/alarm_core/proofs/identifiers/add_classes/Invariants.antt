use Rattle.std.proofs.Common.{◌≡◌, ◌++◌, map, take}
use Rattle.alarm_core.specs.Devices.{class_object}
use Rattle.alarm_core.proofs.identifiers.add_classes.Given as goal

abbrev pub invariant-loop-listed : goal.invariant-loop-listed
invariant-loop-listed l = l.identifiers.items ≡ l.initial.identifiers.items ++ map class_object (take l.listed-index l.classes)
