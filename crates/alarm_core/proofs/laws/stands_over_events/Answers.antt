use Rattle.alarm_core.proofs.Following.{stands_over_events}
use Rattle.alarm_core.proofs.laws.stands_over_events.Goals as goal

pub returns : goal.returns
returns c = record { events = stands_over_events }
