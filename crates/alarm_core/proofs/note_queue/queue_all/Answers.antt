use Rattle.alarm_core.proofs.Queued.{queued_verdict, refused_verdict}
use Rattle.alarm_core.proofs.note_queue.queue_all.Goals as goal

pub returns-in-Ok-clause-verdict : goal.returns-in-Ok-clause-verdict
returns-in-Ok-clause-verdict c = queued_verdict c.args.notes.items c.args.outbox.now c.in-Ok.ensures.full

pub returns-in-Err-clause-verdict : goal.returns-in-Err-clause-verdict
returns-in-Err-clause-verdict c =
    rw c.refusal_of.ensures.refusal (refused_verdict c.args.notes.items c.args.outbox.now c.in-Err.fault c.in-Err.ensures.full)
