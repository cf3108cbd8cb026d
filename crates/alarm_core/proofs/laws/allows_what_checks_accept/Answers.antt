use Rattle.alarm_core.proofs.Accepted.{allows_what_checks_accept}
use Rattle.alarm_core.proofs.laws.allows_what_checks_accept.Goals as goal

pub returns : goal.returns
returns c = record { changes = allows_what_checks_accept }
