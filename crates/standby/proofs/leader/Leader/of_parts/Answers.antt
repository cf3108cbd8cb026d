use Rattle.std.proofs.Common.{None, ◌++◌, reverse}
use Rattle.standby.proofs.Offered.{leads_begun}
use Rattle.standby.proofs.leader.Leader.of_parts.Goals as goal

pub returns-clause-leads : goal.returns-clause-leads
returns-clause-leads c = λ site older later count is spells.
    c.hear.ensures.leads site (reverse later ++ older)
    (leads_begun site older later (record { events = c.args.events; snapshot = c.args.snapshot.items; records = c.args.records.items; ends = c.args.ends.items; place = None; next = 0 }) count is spells c.requires.ends)
