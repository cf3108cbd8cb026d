use Rattle.std.proofs.Common.{rules}
use Rattle.alarm_core.proofs.Apart.{written_elsewhere}
use Rattle.alarm_core.proofs.state.Core.is_of_log.Goals as goal

pub returns : goal.returns
returns c = record {
  log = λ is. written_elsewhere c.args.change.now c.args.self.now.values (c.kept_log.ensures.logging (search rules)) (search rules);
  none = search rules;
}
