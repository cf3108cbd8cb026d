use Rattle.std.proofs.Common.{rules}
use Rattle.notify_class.proofs.ChoiceLemmas.{chosen_by_position, chosen_within}
use Rattle.notify_class.proofs.choice.chosen.Goals as goal

pub returns-clause-next : goal.returns-clause-next
returns-clause-next c = (chosen_by_position c.args.class.now.destinations c.args.transition c.args.moment c.args.zone.now c.args.from c.next_open.result (search rules)).0

pub returns-clause-rest : goal.returns-clause-rest
returns-clause-rest c = (chosen_by_position c.args.class.now.destinations c.args.transition c.args.moment c.args.zone.now c.args.from c.next_open.result (search rules)).1

pub returns-clause-within : goal.returns-clause-within
returns-clause-within c = chosen_within c.args.class.now.destinations c.args.transition c.args.moment c.args.zone.now c.args.from c.next_open.result (search rules)
