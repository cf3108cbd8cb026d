use Rattle.std.proofs.Common.{◌≡◌, map, take}
use Rattle.alarm_core.specs.Room.{members_of_class}
use Rattle.alarm_core.proofs.members.members_of.Given as goal

abbrev pub invariant-loop-class : goal.invariant-loop-class
invariant-loop-class l = l.members.items ≡ map (members_of_class l.site) (take l.class-index l.classes)
