use Rattle.std.proofs.Common.{refl}
use Rattle.event_log.proofs.Numbering.{is_log_with_entry}
use Rattle.event_log.proofs.event_log.EventLog.push.Goals as goal

pub invariant_of-self : goal.invariant_of-self
invariant_of-self c =
    let is = is_log_with_entry (record { stamp = c.args.stamp; hundredths = c.args.hundredths; body = c.args.body.items }) _ c.self.invariant.1 in
    rw (c.push_back-oldest.ensures.items, c.number_after-self-inside.ensures.number, c.of.ensures.same, c.self.invariant.0) (refl, is)
