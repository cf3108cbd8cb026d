use Rattle.bac_tags.proofs.WrittenElements.{signed_written}
use Rattle.bac_tags.proofs.signed.write_signed.Goals as goal

pub returns-clause-spelled : goal.returns-clause-spelled
returns-clause-spelled c = signed_written c.args.context c.args.number c.ranges.number
