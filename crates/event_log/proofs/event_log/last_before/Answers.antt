use Rattle.std.proofs.Common.{◌∙◌, ap, rules}
use Rattle.event_log.specs.Ranges.{is_before, last_position}
use Rattle.event_log.proofs.Latest.{last_position_found}
use Rattle.event_log.proofs.event_log.last_before.Goals as goal

pub returns-clause-place : goal.returns-clause-place
returns-clause-place c =
    last_position_found (λ entry. is_before entry.stamp c.args.reference.now) _ (λ x b q k. search rules) _ _ c.rposition.result c.rposition.ensures.ran
    ∙ ap (last_position (λ entry. is_before entry.stamp c.args.reference.now)) c.iter.ensures.rest
