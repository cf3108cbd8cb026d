use Rattle.alarm_server.proofs.RealSessions.{sessions_go_on}
use Rattle.alarm_server.proofs.real.sessions_go_on.Goals as goal

pub returns : goal.returns
returns c = record { law = sessions_go_on }
