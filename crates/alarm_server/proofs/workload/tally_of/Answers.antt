use Rattle.std.proofs.Common.{ap, ◌∙◌}
use Rattle.alarm_server.proofs.OfWorkload.{summarised}
use Rattle.alarm_server.proofs.workload.tally_of.Goals as goal

pub returns-clause-tally : goal.returns-clause-tally
returns-clause-tally c =
    let drawn = ap (λ s. s.left) c.new-script.ensures.made ∙ c.in_ok-script.ensures.script in
    summarised c.args.seed c.args.count c.in_ok-site.site c.new-script.result.left c.tally_by.result c.in_ok-site.ensures.site drawn c.tally_by.ensures.accepted c.tally_by.ensures.tally
