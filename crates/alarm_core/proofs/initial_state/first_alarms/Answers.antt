use Rattle.std.proofs.Common.{map, rules}
use Rattle.object_table.specs.Rows.{Ascends}
use Rattle.enrollment.specs.Subjects.{object_of}
use Rattle.alarm_core.proofs.FirstAlarms.{first_ascend}
use Rattle.alarm_core.proofs.initial_state.first_alarms.Goals as goal

pub returns-clause-ascending : goal.returns-clause-ascending
returns-clause-ascending c =
    let ascending : Ascends (map object_of c.deref.result.now) = search rules in
    first_ascend c.args.at.now c.args.site.now c.args.objects.now c.deref.result.now ascending c.alarms_of.result c.alarms_of.ensures.alarms
