use Rattle.std.proofs.Common.{arith}
use Rattle.alarm_core.proofs.MemberCounts.{members_within}
use Rattle.alarm_core.proofs.members.few_members.Goals as goal

pub returns : goal.returns
returns c =
    let few = members_within c.args.site.now c.requires.site.limits c.args.class in
    record { members = omega (arith, few, c.members_at.ensures.members) }
