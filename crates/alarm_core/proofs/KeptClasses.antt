-- The notification classes of a site keep to what it says of them, and their lists to the limits, whatever edits are allowed.
use Rattle.std.proofs.Common.{◌≡◌, ℕ, ◌≤◌, Ok, List, [], ◌∷◌, length, map, refl, sym, subst, ◌∙◌}
use Rattle.std.specs.List.{AllZip}
use Rattle.std.proofs.lemmas.List.{length-map}
use Rattle.bac_values.specs.Address.{PeerData}
use Rattle.bac_values.specs.Limits.{most_peers}
use Rattle.notify_class.specs.Edits.{edit_verdict}
use Rattle.notify_class.specs.Recipients.{DestinationData}
use Rattle.notify_class.specs.declared.class.Class.{Class}
use Rattle.outbox.specs.Outboxes.{peers_of}
use Rattle.alarm_core.specs.declared.event.Act.{Act}
use Rattle.alarm_core.specs.declared.event.Act.TheVariants.{Tick, Write, Ack, Pump, Answer, Edit}
use Rattle.alarm_core.specs.declared.event.Event.{Event}
use Rattle.alarm_core.specs.declared.site.Site.{Site}
use Rattle.alarm_core.specs.Allowed.{IsAllowed, IsHistory, room_beside}
use Rattle.alarm_core.specs.Classes.{classes_after, classes_with, known_peers_of, learned_with}
use Rattle.alarm_core.specs.Deliveries.{outbox_after}
use Rattle.alarm_core.specs.ListLimits.{KeepLists, instances}
use Rattle.alarm_core.specs.Room.{members_at}
use Rattle.alarm_core.specs.SiteStates.{IsClassOf}
use Rattle.alarm_core.specs.Sites.{IsSite, instance_of}
use Rattle.alarm_core.specs.State.{state_of}
use Rattle.alarm_core.proofs.Delivering.{kept, peers_kept}
use Rattle.alarm_core.proofs.KeptLists.{edited_all, few_recipients, first_instances, first_lists, first_zip, instances_edited, lists_edited}

-- ---- the instances

instances_with : (act : Act) (classes : List Class) → instances (classes_with act classes) ≡ instances classes
instances_with (Edit number recipients) classes = instances_edited number recipients classes
instances_with Tick classes = refl
instances_with (Write change) classes = refl
instances_with (Ack object transition named) classes = refl
instances_with Pump classes = refl
instances_with (Answer peer invoke kind) classes = refl

pub instances_after : (site : Site) (history : List Event) → instances (classes_after site history) ≡ map instance_of site.classes
instances_after site [] = first_instances site
instances_after site (event ∷ older) = instances_with event.act (classes_after site older) ∙ instances_after site older

-- ---- the lists

module _ (site : Site) where
  -- the verdict on an edit, by the peers that are known
  known_verdict : (older : List Event) (number : ℕ) (recipients : List DestinationData) →
      edit_verdict (peers_of (outbox_after site older).posts) recipients (members_at site number) (room_beside (state_of site older) number) ≡ Ok tt →
      edit_verdict (known_peers_of site older) recipients (members_at site number) (room_beside (state_of site older) number) ≡ Ok tt
  known_verdict older number recipients e =
      subst (λ (known : List PeerData). edit_verdict known recipients (members_at site number) (room_beside (state_of site older) number) ≡ Ok tt) (peers_kept site older (known_peers_of site older)) e

  lists_by : (act : Act) (older : List Event) → IsAllowed (state_of site older) act → KeepLists site (classes_after site older) (known_peers_of site older) →
      KeepLists site (classes_with act (classes_after site older)) (learned_with act (known_peers_of site older))
  lists_by (Edit number recipients) older allowed keep =
      lists_edited site (classes_after site older) (known_peers_of site older) number recipients keep (known_verdict older number recipients allowed.1)
  lists_by Tick older allowed keep = keep
  lists_by (Write change) older allowed keep = keep
  lists_by (Ack object transition named) older allowed keep = keep
  lists_by Pump older allowed keep = keep
  lists_by (Answer peer invoke kind) older allowed keep = keep

  classes_by : (act : Act) (older : List Event) → IsAllowed (state_of site older) act → AllZip IsClassOf site.classes (classes_after site older) →
      AllZip IsClassOf site.classes (classes_with act (classes_after site older))
  classes_by (Edit number recipients) older allowed zip =
      edited_all site.classes (classes_after site older) number recipients
      (few_recipients site (classes_after site older) (known_peers_of site older) number recipients (known_verdict older number recipients allowed.1)) zip
  classes_by Tick older allowed zip = zip
  classes_by (Write change) older allowed zip = zip
  classes_by (Ack object transition named) older allowed zip = zip
  classes_by Pump older allowed zip = zip
  classes_by (Answer peer invoke kind) older allowed zip = zip

  module _ (is : IsSite site) where
    pub lists_kept : (history : List Event) → IsHistory site history → KeepLists site (classes_after site history) (known_peers_of site history)
    lists_kept [] h = first_lists site is
    lists_kept (event ∷ older) h = lists_by event.act older h.2 (lists_kept older h.4)

    pub classes_kept : (history : List Event) → IsHistory site history → AllZip IsClassOf site.classes (classes_after site history)
    classes_kept [] h = first_zip site.classes is.limits.destinations
    classes_kept (event ∷ older) h = classes_by event.act older h.2 (classes_kept older h.4)

    pub peers_kept_few : (history : List Event) → IsHistory site history → length (outbox_after site history).posts ≤ most_peers
    peers_kept_few history h = subst (λ n. n ≤ most_peers) (sym (length-map (known_peers_of site history) (kept site history))) (lists_kept history h).peers
