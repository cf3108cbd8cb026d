use Rattle.std.proofs.Common.{◌≡◌, ◌+◌, ◌≤◌, length, option_copied, subst, sym, rules}
use Rattle.event_log.specs.declared.log_range.LogRange.{LogRange}
use Rattle.service_desk.specs.Ranges.{requested_range}
use Rattle.service_desk.proofs.RequestedRange.{requested_range_within}
use Rattle.service_desk.proofs.read_range.requested_range.Goals as goal

pub returns-in-Time-clause-within : goal.returns-in-Time-clause-within
returns-in-Time-clause-within c =
    let same : c.range_by_clock.result ≡ requested_range (option_copied c.args.zone) c.args.range.now c.args.log.now = search rules in
    subst (λ (range : LogRange). range.first + range.count ≤ length c.args.log.now.records) (sym same) (requested_range_within (option_copied c.args.zone) c.args.range.now c.args.log.now)
