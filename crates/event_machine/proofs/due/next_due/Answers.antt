use Rattle.std.proofs.Common.{◌≡◌, ap, ◌∙◌, sym, rules}
use Rattle.algorithm_rules.specs.Facts.{facts_of}
use Rattle.event_machine.specs.Due.{has_come, next_due_of}
use Rattle.event_machine.proofs.Dues.{tells_due}
use Rattle.event_machine.proofs.due.next_due.Goals as goal

pub returns-clause-tells : goal.returns-clause-tells
returns-clause-tells c = λ first later point course after same.
    let number : c.earlier-2.result ≡ next_due_of c.args.snapshot.now.algorithm (facts_of c.args.snapshot.now) c.args.alarm.now = search rules in
    tells_due c.args.snapshot.now.algorithm (facts_of c.args.snapshot.now) c.args.alarm.now first later point course after same
    ∙ ap (λ due. has_come due point.moment) (sym number)
