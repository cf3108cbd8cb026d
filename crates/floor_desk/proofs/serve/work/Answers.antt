use Rattle.floor_desk.proofs.JoinedPasses.{joined}
use Rattle.floor_desk.proofs.serve.work.Goals as goal

pub returns-clause-worked : goal.returns-clause-worked
returns-clause-worked g c =
    let one = c.in-Ok.both in let two = c.in-Ok-split.both in
    let first = c.join-ticks.ensures.first in let second = c.join-ticks.ensures.second in
    joined (g.K.Clock.shows c.args.tools.now.clock.now) (g.L.Link.left c.args.link) (g.L.Link.left c.join-ticks.result.1.1) c.args.tools.now.desk.now c.args.pass one.0 one.1 two.0 two.1 c.join-ticks.result.1.0 c.join-ticks.result.0.0 c.join-ticks.result.0.1 c.join-pass.result c.join.result c.join-ticks.result.1.2
    c.requires.first c.in-Ok.ensures.same c.in-Ok.ensures.new c.in-Ok-split.ensures.same c.in-Ok-split.ensures.new second.1 first.2 first.3 c.join-pass.ensures.joins c.join.ensures.joins
