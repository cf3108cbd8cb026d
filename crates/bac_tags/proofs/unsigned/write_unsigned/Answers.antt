use Rattle.std.proofs.Common.{rules}
use Rattle.bac_tags.proofs.WrittenElements.{unsigned_written}
use Rattle.bac_tags.proofs.unsigned.write_unsigned.Goals as goal

pub returns-clause-spelled : goal.returns-clause-spelled
returns-clause-spelled c = unsigned_written c.args.context c.args.number (search rules)
