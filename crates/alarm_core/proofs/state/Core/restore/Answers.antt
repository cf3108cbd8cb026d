use Rattle.std.proofs.Common.{◌≡◌, ◌∙◌, ◌≤◌, List, length, map, sym, ap, subst, arith, rules}
use Rattle.std.specs.List.{All}
use Rattle.std.proofs.lemmas.List.{length-map}
use Rattle.bac_values.specs.Address.{PeerData}
use Rattle.bac_values.specs.Limits.{most_peers}
use Rattle.notify_class.specs.declared.class.Class.{Class}
use Rattle.outbox.specs.Outboxes.{peers_of}
use Rattle.outbox.specs.Posts.{MailboxState}
use Rattle.property_values.specs.DeviceProperties.{object_list}
use Rattle.alarm_core.specs.Devices.{identifiers_of}
use Rattle.alarm_core.specs.Evaluations.{site_zone}
use Rattle.alarm_core.specs.Known.{KnowsClass}
use Rattle.alarm_core.specs.ListLimits.{KeepLists}
use Rattle.alarm_core.specs.Logs.{HasNoLog}
use Rattle.alarm_core.specs.Parts.{state_of_parts}
use Rattle.alarm_core.specs.Room.{members_of_class}
use Rattle.alarm_core.specs.Sites.{IsSite}
use Rattle.alarm_core.specs.declared.site.Site.{Site}
use Rattle.alarm_core.specs.DueSteps.{AscendByObject, DetectionsState}
use Rattle.alarm_core.proofs.Apart.{state_apart}
use Rattle.alarm_core.proofs.KeptLists.{lists_told}
use Rattle.alarm_core.proofs.RestoredCore.{restored_ascend, restored_shows}
use Rattle.alarm_core.proofs.state.Core.restore.Goals as goal

pub new-requires : goal.new-requires
new-requires c =
    record { ascending = subst AscendByObject (sym c.in_ok-alarms.ensures.alarms) (restored_ascend c.args.site.now c.as_slice.result.now c.requires.site) }

pub invariant_of-result : goal.invariant_of-result
invariant_of-result c =
    let site = c.args.site.now in
    let parts = c.args.parts in
    let state = c.requires.parts.state in
    let same : c.in_ok-site.site ≡ site = search rules in
    let classes : c.into_vec-classes.result.items ≡ parts.classes = c.into_vec-classes.ensures.same in
    let peers : c.in_ok-peers.peers ≡ peers_of parts.outbox.posts = search rules in
    let values = ap (λ (d : DetectionsState). d.values) c.in_ok-detections.ensures.detections ∙ c.new-objects.ensures.objects in
    let counted : c.in_ok-members.members.items ≡ map (members_of_class site) c.into_vec-classes.result.items = search rules in
    let listed : c.in_ok-identifiers.identifiers.items ≡ object_list (identifiers_of site) = search rules in
    let few : length (peers_of parts.outbox.posts) ≤ most_peers = omega (arith, length-map parts.outbox.posts (λ (post : MailboxState). post.peer), state.peers) in
    record {
      site = subst IsSite (sym same) c.requires.site;
      zone = c.site_zone-zone.ensures.zone ∙ sym (ap site_zone same);
      moment = state.moment;
      limit = state.limit ∙ sym (ap (λ (s : Site). s.device.outbox) same);
      peers = peers;
      known = subst (All (KnowsClass c.in_ok-peers.peers)) (sym classes) (subst (λ (ps : List PeerData). All (KnowsClass ps) parts.classes) (sym peers) state.known);
      lists = subst (λ (kept : Site). KeepLists kept c.into_vec-classes.result.items c.in_ok-peers.peers) (sym same)
          (subst (λ (cs : List Class). KeepLists site cs c.in_ok-peers.peers) (sym classes)
          (subst (KeepLists site parts.classes) (sym peers) (lists_told site c.requires.site parts.classes (peers_of parts.outbox.posts) state.classes state.room few)));
      members = counted ∙ sym (ap (λ (s : Site). map (members_of_class s) c.into_vec-classes.result.items) same);
      identifiers = listed ∙ sym (ap (λ (s : Site). object_list (identifiers_of s)) same);
      apart = subst HasNoLog (sym values) (state_apart site (state_of_parts site parts) c.requires.site state);
    }

pub returns : goal.returns
returns c =
    let site = c.args.site.now in
    let parts = c.args.parts in
    let same : c.in_ok-site.site ≡ site = search rules in
    let values = c.new-objects.ensures.objects in
    let told : c.as_slice.result.now ≡ parts.alarms = c.as_slice.ensures.same in
    let logs : c.into_vec.result.items ≡ parts.logs = c.into_vec.ensures.same in
    let classes : c.into_vec-classes.result.items ≡ parts.classes = c.into_vec-classes.ensures.same in
    let detections = c.in_ok-detections.ensures.detections in
    record {
      restored = restored_shows site c.in_ok-site.site parts c.in_ok-detections.detections.values c.as_slice.result.now c.in_ok-detections.detections.alarms c.into_vec-classes.result.items c.into_vec.result.items c.in_ok-logs.logs.items
          same (ap (λ (d : DetectionsState). d.values) detections ∙ values) told (ap (λ (d : DetectionsState). d.alarms) detections ∙ c.in_ok-alarms.ensures.alarms) classes logs c.in_ok-logs.ensures.logs;
    }
