use Rattle.std.proofs.Common.{None, rules}
use Rattle.bac_tags.proofs.WrittenElements.{enumerated_written}
use Rattle.bac_tags.proofs.unsigned.write_enumerated.Goals as goal

pub returns-clause-spelled : goal.returns-clause-spelled
returns-clause-spelled c = enumerated_written None c.args.number (search rules)
