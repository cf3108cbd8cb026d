use Rattle.std.proofs.Common.{◌≡◌, ◌∙◌, List, [], map, sym, ap, subst, rules}
use Rattle.bac_values.specs.Orders.{peers_with}
use Rattle.civil_stamp.specs.LocalTime.{LocalMomentData}
use Rattle.outbox.specs.Outboxes.{peers_of}
use Rattle.outbox.proofs.Making.{peers_empty}
use Rattle.notify_class.specs.declared.class.Class.{Class}
use Rattle.notify_class.specs.declared.class_site.ClassSite.{ClassSite}
use Rattle.enrollment.specs.Objects.{ObjectsState}
use Rattle.alarm_core.specs.declared.site.Site.{Site}
use Rattle.alarm_core.specs.Classes.{first_classes, known_peers_of, peers_in}
use Rattle.alarm_core.specs.CoreSteps.{empty_outbox, first_kept, first_with}
use Rattle.property_values.specs.DeviceProperties.{object_list}
use Rattle.alarm_core.specs.Devices.{identifiers_of}
use Rattle.alarm_core.specs.Evaluations.{site_moment, site_zone}
use Rattle.alarm_core.specs.ListLimits.{KeepLists}
use Rattle.alarm_core.specs.Room.{members_of_class}
use Rattle.alarm_core.specs.Sites.{IsSite}
use Rattle.alarm_core.specs.Subjects.{ack_required_of, detecting_subjects}
use Rattle.alarm_core.specs.Values.{first_values}
use Rattle.alarm_core.proofs.Acted.{started}
use Rattle.alarm_core.proofs.Apart.{first_apart}
use Rattle.alarm_core.proofs.KeptLists.{first_lists}
use Rattle.alarm_core.proofs.Standing.{represents_first}
use Rattle.alarm_core.proofs.ToldKnown.{first_known}
use Rattle.alarm_core.proofs.state.Core.start.Goals as goal

pub invariant_of-result : goal.invariant_of-result
invariant_of-result c =
    let site = c.args.site.now in
    let same : c.in_ok-kept.kept ≡ site = search rules in
    let sites : c.as_slice.result.now ≡ site.classes = c.as_slice.ensures.same in
    let classes : c.in_ok-classes.classes.items ≡ first_classes site = c.in_ok-classes.ensures.classes ∙ ap (map (λ (listed : ClassSite). listed.class)) sites in
    let lent : c.deref-2.result.now ≡ c.in_ok-classes.classes.items = search rules in
    let queue = c.in_ok-queues.queues in
    let known : queue.0 ≡ known_peers_of site [] = c.in_ok-queues.ensures.peers ∙ ap (λ cs. peers_with (peers_in cs) []) (lent ∙ classes) in
    let outbox : queue.1 ≡ empty_outbox site queue.0 = c.in_ok-queues.ensures.outbox in
    let counted : c.in_ok-members.members.items ≡ map (members_of_class site) c.in_ok-classes.classes.items = search rules in
    let listed : c.in_ok-identifiers.identifiers.items ≡ object_list (identifiers_of site) = search rules in
    record {
      site = subst IsSite (sym same) c.requires.site;
      zone = c.site_zone-zone.ensures.zone ∙ sym (ap site_zone same);
      moment = c.requires.site.start;
      limit = ap (λ o. o.limit) outbox ∙ sym (ap (λ s. s.device.outbox) same);
      peers = sym (ap (λ o. peers_of o.posts) outbox ∙ peers_empty queue.0);
      known = first_known site queue.0 c.in_ok-classes.classes.items known classes;
      lists = subst (λ (kept : Site). KeepLists kept c.in_ok-classes.classes.items queue.0) (sym same)
          (subst (λ (cs : List Class). KeepLists site cs queue.0) (sym classes) (subst (KeepLists site (first_classes site)) (sym known) (first_lists site c.requires.site)));
      members = counted ∙ sym (ap (λ (s : Site). map (members_of_class s) c.in_ok-classes.classes.items) same);
      identifiers = listed ∙ sym (ap (λ (s : Site). object_list (identifiers_of s)) same);
      apart = first_apart site c.requires.site c.in_ok-detections.detections.values c.in_ok-detections.ensures.values;
    }

pub returns-clause-starts : goal.returns-clause-starts
returns-clause-starts c =
    let site = c.args.site.now in
    let start = site.device.start in
    let detected = λ (at : LocalMomentData) (values : ObjectsState). map (λ subject. first_with at (ack_required_of site subject) values subject) (detecting_subjects site) in
    let same : c.in_ok-kept.kept ≡ site = search rules in
    let at = c.new-at.result in
    let moment : at.moment ≡ start = search rules in
    let zone : at.zone ≡ site_zone site = search rules in
    let here : at ≡ site_moment site start = λ k. record { zone = zone k; moment = moment k } in
    let shown = c.in_ok-detections.ensures.alarms ∙ ap (λ a. detected a (first_values site)) here in
    let sites : c.as_slice.result.now ≡ site.classes = c.as_slice.ensures.same in
    let classes : c.in_ok-classes.classes.items ≡ first_classes site = c.in_ok-classes.ensures.classes ∙ ap (map (λ (listed : ClassSite). listed.class)) sites in
    let lent : c.deref-2.result.now ≡ c.in_ok-classes.classes.items = search rules in
    let queue = c.in_ok-queues.queues in
    let known : queue.0 ≡ known_peers_of site [] = c.in_ok-queues.ensures.peers ∙ ap (λ cs. peers_with (peers_in cs) []) (lent ∙ classes) in
    let outbox : queue.1 ≡ empty_outbox site queue.0 = c.in_ok-queues.ensures.outbox in
    let logs : c.in_ok-logs.logs.items ≡ map first_kept site.logs = search rules in
    started site c.in_ok-kept.kept c.in_ok-detections.detections.values c.in_ok-detections.detections.alarms c.in_ok-classes.classes.items queue.1 c.in_ok-logs.logs.items
    same c.in_ok-detections.ensures.values shown classes (outbox ∙ ap (empty_outbox site) known) logs

pub returns-clause-represents : goal.returns-clause-represents
returns-clause-represents c = represents_first c.args.site.now _ (returns-clause-starts c)
