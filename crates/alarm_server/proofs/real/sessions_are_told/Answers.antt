use Rattle.alarm_server.proofs.RealSessions.{sessions_are_told}
use Rattle.alarm_server.proofs.real.sessions_are_told.Goals as goal

pub returns : goal.returns
returns c = record { law = sessions_are_told }
