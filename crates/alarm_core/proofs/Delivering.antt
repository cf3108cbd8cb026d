-- What waits for each recipient after one more event is what looking back gives.
use Rattle.std.proofs.Common.{◌≡◌, ℕ, List, [], ◌∷◌, map, refl, ap, ◌∙◌, subst}
use Rattle.std.proofs.Math.Path.{fun_ext}
use Rattle.std.specs.List.{All, flat_map}
use Rattle.std.proofs.lemmas.List.Elements.{All-weaker}
use Rattle.bac_values.specs.Address.{PeerData}
use Rattle.bac_values.specs.Orders.{is_among, peers_with}
use Rattle.bac_values.specs.declared.note.Note.{Note}
use Rattle.notify_class.specs.Edits.{recipient_peers}
use Rattle.outbox.specs.Delivery.{delivery_after, sent_at}
use Rattle.outbox.specs.Following.{StandsFor, no_operations}
use Rattle.outbox.specs.Outboxes.{OutboxState, AreKnown, new_outbox, peers_of, sends_of}
use Rattle.outbox.specs.Posts.{post_after, MailboxState}
use Rattle.outbox.proofs.Learning.{learn_learns, known_addresses, with_all}
use Rattle.outbox.proofs.Standing.{answer_follows, are_sent, flushing_stands, new_stands, nothing_kept, pump_follows, queue_follows}
use Rattle.alarm_core.specs.declared.event.Act.{Act}
use Rattle.alarm_core.specs.declared.event.Act.TheVariants.{Tick, Write, Ack, Pump, Answer, Edit}
use Rattle.alarm_core.specs.declared.event.Event.{Event}
use Rattle.alarm_core.specs.declared.site.Site.{Site}
use Rattle.alarm_core.specs.Classes.{known_peers_of, learned_with}
use Rattle.alarm_core.specs.Deliveries.{event_notes, event_sends, operations_of, operations_with, outbox_after, timing_at}
use Rattle.alarm_core.specs.CoreSteps.{empty_outbox, outbox_with, sends_with}
use Rattle.alarm_core.specs.Known.{Knows}
use Rattle.alarm_core.proofs.NotesGo.{notes_known}

-- what is kept of a recipient
abbrev pub kept : Site → List Event → PeerData → MailboxState
kept site history peer = post_after (timing_at site) peer (operations_of site history peer)

pub peers_kept : (site : Site) (history : List Event) (peers : List PeerData) → peers_of (map (kept site history) peers) ≡ peers
peers_kept site history [] = refl
peers_kept site history (peer ∷ peers) = ap (λ ps. peer ∷ ps) (peers_kept site history peers)

-- the outbox of a site with some posts
as_outbox : Site → List MailboxState → OutboxState
as_outbox site posts = record { posts = posts; limit = site.device.outbox; timeout = site.device.apdu_timeout; retries = site.device.retries; flush_silent = site.device.flush_silent }

pub are_known : (site : Site) (history : List Event) (notes : List Note) → All (λ (note : Note). Knows (known_peers_of site history) note.peer) notes → AreKnown notes (outbox_after site history).posts
are_known site history notes known =
    let peers = known_peers_of site history in
    All-weaker (λ (note : Note). Knows peers note.peer) _
    (λ (note : Note) h. known_addresses note.peer (map (kept site history) peers) ∙ (ap (λ ps. is_among ps note.peer) (peers_kept site history peers) ∙ h)) notes known

-- after an act the posts are those of the peers known then, and stand for what was done
record Goes (site : Site) (older : List Event) (moment : ℕ) (act : Act) (notes : List Note) : Type 0 where
  peers : peers_of (outbox_with moment act notes (outbox_after site older)).posts ≡ learned_with act (known_peers_of site older)
  stands : StandsFor (outbox_with moment act notes (outbox_after site older)) (operations_with moment act notes (operations_of site older))
  shape : outbox_with moment act notes (outbox_after site older) ≡ as_outbox site (outbox_with moment act notes (outbox_after site older)).posts

module _ (site : Site) (older : List Event) (stands : StandsFor (outbox_after site older) (operations_of site older)) where
  same_peers : peers_of (outbox_after site older).posts ≡ known_peers_of site older
  same_peers = peers_kept site older (known_peers_of site older)

  goes : (moment : ℕ) (act : Act) (notes : List Note) → AreKnown notes (outbox_after site older).posts → Goes site older moment act notes
  unfolding as_outbox
  goes moment Tick notes known = let f = queue_follows notes (outbox_after site older) known in
      record { peers = f.peers ∙ same_peers; stands = f.after (operations_of site older) stands; shape = refl }
  goes moment (Write change) notes known = let f = queue_follows notes (outbox_after site older) known in
      record { peers = f.peers ∙ same_peers; stands = f.after (operations_of site older) stands; shape = refl }
  goes moment (Ack object transition named) notes known = let f = queue_follows notes (outbox_after site older) known in
      record { peers = f.peers ∙ same_peers; stands = f.after (operations_of site older) stands; shape = refl }
  goes moment Pump notes known = let f = pump_follows moment (outbox_after site older) in
      record { peers = f.peers ∙ same_peers; stands = f.after (operations_of site older) stands; shape = refl }
  goes moment (Answer peer invoke kind) notes known = let f = answer_follows peer invoke (outbox_after site older) in
      record { peers = f.peers ∙ same_peers; stands = f.after (operations_of site older) stands; shape = refl }
  goes moment (Edit number recipients) notes known =
      record {
        peers = with_all (recipient_peers recipients) (outbox_after site older).posts ∙ ap (peers_with (recipient_peers recipients)) same_peers;
        stands = (learn_learns (recipient_peers recipients) (outbox_after site older)).after (operations_of site older) stands;
        shape = refl;
      }

  more : (event : Event) → outbox_with event.moment event.act (event_notes site event older) (outbox_after site older) ≡ outbox_after site (event ∷ older)
  unfolding as_outbox
  more event =
      let notes = event_notes site event older in
      let g = goes event.moment event.act notes (are_known site older notes (notes_known site event older)) in
      g.shape ∙ ap (as_outbox site) (g.stands.posts ∙ (ap (λ o. map (λ peer. post_after (record { timeout = o.timeout; retries = o.retries; flush_silent = o.flush_silent }) peer (operations_of site (event ∷ older) peer)) (peers_of o.posts)) g.shape ∙ ap (map (kept site (event ∷ older))) g.peers))

  still_stands : (event : Event) → StandsFor (outbox_after site (event ∷ older)) (operations_of site (event ∷ older))
  still_stands event =
      let notes = event_notes site event older in
      subst (λ o. StandsFor o (operations_of site (event ∷ older))) (more event) (goes event.moment event.act notes (are_known site older notes (notes_known site event older))).stands

-- at the start nothing waits
pub first_outbox : (site : Site) → empty_outbox site (known_peers_of site []) ≡ outbox_after site []
unfolding delivery_after as_outbox
first_outbox site = ap (as_outbox site) (ap (λ f. map f (known_peers_of site [])) (fun_ext (λ peer. nothing_kept (timing_at site) peer [] refl)))

pub outbox_stands : (site : Site) (history : List Event) → StandsFor (outbox_after site history) (operations_of site history)
outbox_stands site [] = subst (λ o. StandsFor o no_operations) (first_outbox site) (flushing_stands site.device.flush_silent (new_outbox (known_peers_of site []) site.device.outbox site.device.apdu_timeout site.device.retries) (new_stands (known_peers_of site []) site.device.outbox site.device.apdu_timeout site.device.retries))
outbox_stands site (event ∷ older) = still_stands site older (outbox_stands site older) event

pub outbox_more : (site : Site) (event : Event) (older : List Event) →
    outbox_with event.moment event.act (event_notes site event older) (outbox_after site older) ≡ outbox_after site (event ∷ older)
outbox_more site event older = more site older (outbox_stands site older) event

sends_by_act : (site : Site) (older : List Event) (moment : ℕ) (act : Act) (notes : List Note) → sends_with moment act (outbox_after site older) ≡ event_sends site (record { moment = moment; act = act }) older
sends_by_act site older moment Pump notes =
    (are_sent moment (outbox_after site older) (sends_of moment (outbox_after site older)) refl).sent (operations_of site older) (outbox_stands site older)
    ∙ ap (flat_map (λ peer. sent_at (timing_at site) moment peer (delivery_after (timing_at site) (operations_of site older peer)))) (peers_kept site older (known_peers_of site older))
sends_by_act site older moment Tick notes = refl
sends_by_act site older moment (Write change) notes = refl
sends_by_act site older moment (Ack object transition named) notes = refl
sends_by_act site older moment (Answer peer invoke kind) notes = refl
sends_by_act site older moment (Edit number recipients) notes = refl

pub sends_more : (site : Site) (event : Event) (older : List Event) → sends_with event.moment event.act (outbox_after site older) ≡ event_sends site event older
sends_more site event older = sends_by_act site older event.moment event.act []
