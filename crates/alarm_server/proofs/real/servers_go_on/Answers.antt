use Rattle.alarm_server.proofs.RealServers.{servers_go_on}
use Rattle.alarm_server.proofs.real.servers_go_on.Goals as goal

pub returns : goal.returns
returns g c = record { law = servers_go_on g.L.Link.left g.L.Link.faults }
