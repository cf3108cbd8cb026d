use Rattle.alarm_journal.proofs.Images.{is_computed}
use Rattle.alarm_journal.proofs.laws.openings_are_computed.Goals as goal

pub returns : goal.returns
returns c = record { computed = is_computed }
