use Rattle.floor_desk.proofs.Receiving.{next_in}
use Rattle.floor_desk.proofs.receiver.next_datagram.Goals as goal

pub returns-clause-next : goal.returns-clause-next
returns-clause-next g c =
    next_in _ (g.L.Link.left c.args.link.now) (g.L.Link.left c.receive.new.self) c.in-Ok.received c.args.into.now c.receive.new.into c.came_of.result c.requires.whole (rw c.in-Ok.is at c.receive.ensures.datagrams) c.came_of.ensures.came
