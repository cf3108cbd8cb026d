use Rattle.bac_tags.proofs.WrittenElements.{boolean_written}
use Rattle.bac_tags.proofs.boolean.write_bool.Goals as goal

pub returns-in-Some-clause-spelled : goal.returns-in-Some-clause-spelled
returns-in-Some-clause-spelled c = boolean_written c.args.context c.args.value
