use Rattle.std.proofs.Common.{◌∙◌, ap, int_lt, pos, rules}
use Rattle.event_log.specs.Ranges.{last_position}
use Rattle.event_log.proofs.Latest.{last_position_found}
use Rattle.event_log.proofs.by_hundredths.last_earlier.Goals as goal

pub returns-clause-place : goal.returns-clause-place
returns-clause-place c =
    last_position_found (λ entry. int_lt (pos entry.hundredths) c.args.reference) _ (λ x b q k. search rules) _ _ c.rposition.result c.rposition.ensures.ran
    ∙ ap (last_position (λ entry. int_lt (pos entry.hundredths) c.args.reference)) c.iter.ensures.rest
