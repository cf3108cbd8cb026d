use Rattle.enrollment.proofs.Ordered.{in_order, stretch}
use Rattle.enrollment.proofs.references.stretch_to.Goals as goal

pub returns-clause-order : goal.returns-clause-order
returns-clause-order c =
    let from = c.count_below-start.ensures in
    let upto = c.count_up_to-end.ensures in
    in_order c.args.object c.args.references.now _ _ from.point upto.point from.within upto.within

pub returns-clause-stretch : goal.returns-clause-stretch
returns-clause-stretch c =
    let from = c.count_below-start.ensures in
    let upto = c.count_up_to-end.ensures in
    stretch c.args.object c.args.references.now _ _ from.point upto.point from.within upto.within
