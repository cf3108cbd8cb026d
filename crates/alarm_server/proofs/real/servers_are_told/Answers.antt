use Rattle.alarm_server.proofs.RealServers.{servers_are_told}
use Rattle.alarm_server.proofs.real.servers_are_told.Goals as goal

pub returns : goal.returns
returns g c = record { law = servers_are_told g.L.Link.left g.L.Link.faults }
