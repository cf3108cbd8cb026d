-- What waits for the peers that a site knows is an outbox after every history.
use Rattle.std.proofs.Common.{◌≡◌, ℕ, ◌≤◌, List, [], ◌∷◌, sym, subst, arith}
use Rattle.std.specs.List.{All}
use Rattle.bac_values.specs.Address.{PeerData}
use Rattle.bac_values.specs.Moments.{IsMoment}
use Rattle.bac_values.specs.declared.note.Note.{Note}
use Rattle.notify_class.specs.Edits.{recipient_peers}
use Rattle.outbox.specs.Outboxes.{AreKnown, IsOutbox, OutboxState, new_outbox, peers_of, unfinished_in}
use Rattle.outbox.proofs.Keeping.{answer_keeps, pump_keeps}
use Rattle.outbox.proofs.Learning.{learn_keeps}
use Rattle.outbox.proofs.Making.{flushing_is, new_is}
use Rattle.outbox.proofs.QueueKeeping.{all_longer, queue_keeps}
use Rattle.alarm_core.specs.declared.event.Act.{Act}
use Rattle.alarm_core.specs.declared.event.Act.TheVariants.{Tick, Write, Ack, Pump, Answer, Edit}
use Rattle.alarm_core.specs.declared.event.Event.{Event}
use Rattle.alarm_core.specs.declared.site.Site.{Site}
use Rattle.alarm_core.specs.Allowed.{IsHistory}
use Rattle.alarm_core.specs.Classes.{classes_after, known_peers_of}
use Rattle.alarm_core.specs.CoreSteps.{outbox_with}
use Rattle.alarm_core.specs.Deliveries.{event_notes, notifications_of, outbox_after}
use Rattle.alarm_core.specs.Known.{KnowsClass}
use Rattle.alarm_core.specs.Notes.{IsShort}
use Rattle.alarm_core.specs.Sites.{IsSite}
use Rattle.alarm_core.proofs.Delivering.{are_known, first_outbox, outbox_more, peers_kept}
use Rattle.alarm_core.proofs.KnownPeers.{back_all, classes_known, front_all}
use Rattle.alarm_core.proofs.Listed.{known_ascend}
use Rattle.alarm_core.proofs.NotesGo.{notes_known}

-- what is queued fits, since no more waits afterwards than there may
queued_kept : (notes : List Note) (outbox : OutboxState) → IsOutbox outbox → AreKnown notes outbox.posts → All IsShort notes →
    unfinished_in (outbox_with 0 Tick notes outbox).posts ≤ outbox.limit → IsOutbox (outbox_with 0 Tick notes outbox)
queued_kept notes outbox is known short fits =
    let longer = all_longer notes outbox.posts is.ascending known in
    queue_keeps notes outbox is known short (omega (arith, longer, fits))

act_kept : (moment : ℕ) (act : Act) (notes : List Note) (outbox : OutboxState) → IsMoment moment → IsOutbox outbox → AreKnown notes outbox.posts → All IsShort notes →
    unfinished_in (outbox_with moment act notes outbox).posts ≤ outbox.limit → IsOutbox (outbox_with moment act notes outbox)
act_kept moment Tick notes outbox range is known short fits = queued_kept notes outbox is known short fits
act_kept moment (Write change) notes outbox range is known short fits = queued_kept notes outbox is known short fits
act_kept moment (Ack object transition named) notes outbox range is known short fits = queued_kept notes outbox is known short fits
act_kept moment Pump notes outbox range is known short fits = pump_keeps moment outbox range is
act_kept moment (Answer peer invoke kind) notes outbox range is known short fits = answer_keeps peer invoke outbox is
act_kept moment (Edit number recipients) notes outbox range is known short fits = learn_keeps (recipient_peers recipients) outbox is

pub outbox_kept : (site : Site) → IsSite site → (history : List Event) → IsHistory site history → All IsShort (notifications_of site history) → IsOutbox (outbox_after site history)
outbox_kept site is [] h short =
    subst IsOutbox (first_outbox site) (flushing_is site.device.flush_silent (new_outbox (known_peers_of site []) site.device.outbox site.device.apdu_timeout site.device.retries)
    (new_is (known_peers_of site []) site.device.outbox site.device.apdu_timeout site.device.retries (known_ascend site []) is.settings))
outbox_kept site is (event ∷ older) h short =
    let notes = event_notes site event older in
    let old = outbox_after site older in
    let more : outbox_with event.moment event.act notes old ≡ outbox_after site (event ∷ older) = outbox_more site event older in
    let fits : unfinished_in (outbox_with event.moment event.act notes old).posts ≤ old.limit = subst (λ (o : OutboxState). unfinished_in o.posts ≤ site.device.outbox) (sym more) h.3 in
    subst IsOutbox more
    (act_kept event.moment event.act notes old h.1 (outbox_kept site is older h.4 (front_all IsShort (notifications_of site older) notes short))
    (are_known site older notes (notes_known site event older)) (back_all IsShort (notifications_of site older) notes short) fits)

-- each recipient of a class has a post
pub recipients_known : (site : Site) (history : List Event) → All (KnowsClass (peers_of (outbox_after site history).posts)) (classes_after site history)
recipients_known site history =
    subst (λ (peers : List PeerData). All (KnowsClass peers) (classes_after site history)) (sym (peers_kept site history (known_peers_of site history))) (classes_known site history)
