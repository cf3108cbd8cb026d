use Rattle.alarm_core.proofs.ObjectLists.{list_ascends}
use Rattle.alarm_core.proofs.laws.object_list_ascends.Goals as goal

pub returns : goal.returns
returns c = record { list = list_ascends }
