use Rattle.std.proofs.Common.{rules}
use Rattle.civil_stamp.proofs.ZoneLemmas.{goes_as_text}
use Rattle.civil_stamp.proofs.zone.Zone.rule.Goals as goal

pub returns-in-Ok-clause-as_jiff : goal.returns-in-Ok-clause-as_jiff
returns-in-Ok-clause-as_jiff c = λ jiff reads. goes_as_text _ jiff _ (search rules) reads
