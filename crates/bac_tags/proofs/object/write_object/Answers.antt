use Rattle.bac_tags.proofs.WrittenElements.{object_written}
use Rattle.bac_tags.proofs.object.write_object.Goals as goal

-- src/object.rt:63:1
pub returns-clause-spelled : goal.returns-clause-spelled
returns-clause-spelled c = object_written c.args.context c.args.object c.number.ensures.range
