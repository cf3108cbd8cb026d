use Rattle.std.proofs.Common.{arith}
use Rattle.state_codec.specs.WritingSteps.{written_if_alarm}
use Rattle.state_codec.proofs.Written.{one_more}
use Rattle.state_codec.proofs.writing_alarms.put_subjects.Goals as goal

pub loop-subject-preserved : goal.loop-subject-preserved
loop-subject-preserved c =
    one_more (written_if_alarm c.args.core.now) c.args.subjects.now c.loop-subject.subject-index c.subject-item.result c.args.out.now.items _ _ (omega arith) c.subject-item.is c.loop-subject.invariant c.in_ok-put_subject.ensures.written
