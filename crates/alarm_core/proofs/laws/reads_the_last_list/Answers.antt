use Rattle.alarm_core.proofs.LastLists.{reads_the_last_list}
use Rattle.alarm_core.proofs.laws.reads_the_last_list.Goals as goal

pub returns : goal.returns
returns c = record { lists = reads_the_last_list }
