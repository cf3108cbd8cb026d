use Rattle.standby.proofs.leader.Leader.new.Goals as goal

pub returns-clause-leads : goal.returns-clause-leads
returns-clause-leads c = λ site older later count is spells. c.of_parts.ensures.leads site older later count is spells
