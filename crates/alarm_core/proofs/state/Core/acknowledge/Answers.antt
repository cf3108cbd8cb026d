use Rattle.std.proofs.Common.{◌≡◌, [], map, sym, subst, rules}
use Rattle.outbox.specs.Outboxes.{AreKnown, queued}
use Rattle.enrollment.specs.Subjects.{subject_in}
use Rattle.alarm_core.specs.declared.event.Act.TheVariants.{Ack}
use Rattle.alarm_core.specs.History.{event_at}
use Rattle.alarm_core.specs.CoreSteps.{acked, next_notes}
use Rattle.alarm_core.specs.Notes.{notes_of_acknowledgement}
use Rattle.alarm_core.proofs.ToldKnown.{told_known}
use Rattle.alarm_core.proofs.Written.{acknowledged_state}
use Rattle.alarm_core.proofs.state.Core.acknowledge.Goals as goal

pub queue_all-requires-clause-known : goal.queue_all-requires-clause-known
queue_all-requires-clause-known c =
    let core = c.self.inside in
    let moment = c.args.at.now.moment in
    let notes : c.in_ok-told.told.items ≡ notes_of_acknowledgement core.site core.classes.items moment (subject_in c.args.object core.detections.values) c.args.transition c.args.named = search rules in
    subst (λ notes. AreKnown notes core.outbox.posts) (sym notes)
    (told_known core.site core.classes.items core.peers core.outbox.posts (record { peers_are = c.self.invariant.peers; knows = c.self.invariant.known })
    core.detections.values moment (Ack c.args.object c.args.transition c.args.named) [])

pub returns-clause-state : goal.returns-clause-state
returns-clause-state c =
    let old = c.args.self.now in
    let moment = c.args.at.now.moment in
    let notes : c.in_ok-told.told.items ≡ next_notes (event_at moment (Ack c.args.object c.args.transition c.args.named)) old = search rules in
    let alarms : c.acknowledge.new.self.alarms ≡ map (acked c.args.object c.args.transition) old.alarms = search rules in
    let outbox : c.queue_all.new.outbox ≡ queued c.in_ok-told.told.items old.outbox = search rules in
    acknowledged_state old moment c.args.object c.args.transition c.args.named _ c.acknowledge.new.self.alarms c.in_ok-told.told.items c.queue_all.new.outbox
    (search rules) alarms outbox notes
