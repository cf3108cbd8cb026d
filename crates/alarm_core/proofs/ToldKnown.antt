-- The notes that an act queues go to peers that the outbox knows.
use Rattle.std.proofs.Common.{◌≡◌, ℕ, IsTrue, List, [], ◌++◌, ◌∙◌, sym, subst}
use Rattle.std.specs.List.{All}
use Rattle.std.proofs.lemmas.List.Elements.{All-append, All-weaker}
use Rattle.bac_values.specs.Address.{PeerData}
use Rattle.bac_values.specs.Orders.{is_among}
use Rattle.bac_values.specs.declared.note.Note.{Note}
use Rattle.notify_class.specs.declared.class.Class.{Class}
use Rattle.outbox.specs.Outboxes.{AreKnown, is_known, peers_of}
use Rattle.outbox.specs.Posts.{MailboxState}
use Rattle.outbox.proofs.Learning.{known_addresses}
use Rattle.enrollment.specs.Objects.{ObjectsState}
use Rattle.alarm_core.specs.declared.event.Act.{Act}
use Rattle.alarm_core.specs.declared.event.Act.TheVariants.{Tick}
use Rattle.alarm_core.specs.declared.site.Site.{Site}
use Rattle.alarm_core.specs.Classes.{first_classes, known_peers_of}
use Rattle.alarm_core.specs.Known.{KnowsClass}
use Rattle.alarm_core.specs.Deliveries.{notes_by}
use Rattle.alarm_core.specs.History.{StateTransition}
use Rattle.alarm_core.specs.Notes.{notes_of_transitions}
use Rattle.alarm_core.proofs.KnownPeers.{classes_known}
use Rattle.alarm_core.proofs.NotesGo.{GoesTo, notes_go_by}

-- the classes' recipients are the outbox's peers
pub record KnowsAll (peers : List PeerData) (classes : List Class) (posts : List MailboxState) : Type 0 where
  pub peers_are : peers ≡ peers_of posts
  pub knows : All (KnowsClass peers) classes

module _ (site : Site) (classes : List Class) (peers : List PeerData) (posts : List MailboxState) (known : KnowsAll peers classes posts) where
  pub told_known : (values : ObjectsState) (moment : ℕ) (act : Act) (transitions : List StateTransition) → AreKnown (notes_by site classes values moment act transitions) posts
  told_known values moment act transitions =
      All-weaker (GoesTo peers) (λ (note : Note). IsTrue (is_known note.peer posts))
      (λ (note : Note) k. known_addresses note.peer posts ∙ subst (λ ps. IsTrue (is_among ps note.peer)) known.peers_are k)
      (notes_by site classes values moment act transitions) (notes_go_by site peers classes known.knows values moment act transitions)

  pub look_known : (values : ObjectsState) (transitions : List StateTransition) → AreKnown (notes_of_transitions site classes transitions) posts
  look_known values transitions = told_known values 0 Tick transitions

  pub more_known : (values : ObjectsState) (notes : List Note) (transitions : List StateTransition) → AreKnown notes posts → AreKnown (notes ++ notes_of_transitions site classes transitions) posts
  more_known values notes transitions h =
      All-append (λ (note : Note). IsTrue (is_known note.peer posts)) notes (notes_of_transitions site classes transitions) h (look_known values transitions)

pub first_known : (site : Site) (peers : List PeerData) (classes : List Class) → peers ≡ known_peers_of site [] → classes ≡ first_classes site → All (KnowsClass peers) classes
first_known site peers classes e f =
    subst (λ ps. All (KnowsClass ps) classes) (sym e) (subst (All (KnowsClass (known_peers_of site []))) (sym f) (classes_known site []))
