use Rattle.std.proofs.Common.{rules}
use Rattle.bac_tags.proofs.WrittenElements.{stamp_written}
use Rattle.bac_tags.proofs.stamp.write_stamp.Goals as goal

-- src/stamp.rt:73:5
pub returns-in_err-write_element-clause-spelled : goal.returns-in_err-write_element-clause-spelled
returns-in_err-write_element-clause-spelled c = stamp_written c.args.stamp (search rules)

-- src/stamp.rt:61:1
pub returns-in-Ok-clause-spelled : goal.returns-in-Ok-clause-spelled
returns-in-Ok-clause-spelled c = stamp_written c.args.stamp (search rules)

-- src/stamp.rt:61:1
pub returns-in-Err-clause-spelled : goal.returns-in-Err-clause-spelled
returns-in-Err-clause-spelled c = stamp_written c.args.stamp (search rules)
