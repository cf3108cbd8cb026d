use Rattle.std.proofs.Common.{◌≡◌, ◌∙◌, List, Ok, map, sym, ap, subst, rules}
use Rattle.std.specs.List.{All}
use Rattle.bac_values.specs.Address.{PeerData}
use Rattle.bac_values.specs.Orders.{peers_with}
use Rattle.notify_class.specs.Edits.{edit_verdict, recipient_peers}
use Rattle.notify_class.specs.declared.class.Class.{Class}
use Rattle.outbox.specs.Outboxes.{peers_of as peers_of_posts, mailboxes_with_all}
use Rattle.outbox.proofs.Learning.{with_all}
use Rattle.alarm_core.specs.declared.event.Act.TheVariants.{Edit}
use Rattle.alarm_core.specs.Allowed.{members_of, room_beside}
use Rattle.alarm_core.specs.Classes.{edited}
use Rattle.alarm_core.specs.Known.{KnowsClass}
use Rattle.alarm_core.specs.ListLimits.{KeepLists}
use Rattle.alarm_core.specs.Room.{members_at, members_of_class}
use Rattle.alarm_core.specs.State.{CoreState}
use Rattle.alarm_core.proofs.KeptLists.{left_by_others, lists_edited}
use Rattle.alarm_core.proofs.KnownPeers.{known_by}
use Rattle.alarm_core.proofs.MemberCounts.{members_edited}
use Rattle.alarm_core.proofs.state.Core.edit.Goals as goal

pub invariant_of-self-2 : goal.invariant_of-self-2
invariant_of-self-2 c =
    let core = c.self.inside in
    let added = recipient_peers c.args.destinations.now in
    let now : c.in_ok-peers.peers ≡ peers_with added core.peers = search rules in
    let posts : c.learn.new.self.posts ≡ mailboxes_with_all added core.outbox.posts = search rules in
    let classes : c.put_list.new.classes.items ≡ map (edited c.args.class c.args.destinations.now) core.classes.items = search rules in
    let verdict = subst (λ (state : CoreState). edit_verdict (peers_of_posts state.outbox.posts) c.args.destinations.now (members_of state c.args.class) (room_beside state c.args.class) ≡ Ok tt) (sym c.self.view_is) c.requires.allowed.1 in
    let lists = lists_edited core.site core.classes.items core.peers c.args.class c.args.destinations.now c.self.invariant.lists
    (subst (λ (peers : List PeerData). edit_verdict peers c.args.destinations.now (members_at core.site c.args.class) (left_by_others core.site core.classes.items core.peers c.args.class c.args.destinations.now) ≡ Ok tt) (sym c.self.invariant.peers) verdict) in
    let known = known_by (Edit c.args.class c.args.destinations.now) core.peers core.classes.items c.self.invariant.known in
    record {
      site = c.self.invariant.site;
      apart = c.self.invariant.apart;
      zone = c.self.invariant.zone;
      moment = c.self.invariant.moment;
      limit = search rules;
      peers = now ∙ (ap (peers_with added) c.self.invariant.peers ∙ (sym (with_all added core.outbox.posts) ∙ ap peers_of_posts (sym posts)));
      known = subst (λ peers. All (KnowsClass peers) c.put_list.new.classes.items) (sym now) (subst (All (KnowsClass (peers_with added core.peers))) (sym classes) known);
      members = c.self.invariant.members ∙ (sym (members_edited core.site c.args.class c.args.destinations.now core.classes.items) ∙ sym (ap (map (members_of_class core.site)) classes));
      identifiers = c.self.invariant.identifiers;
      lists = subst (KeepLists core.site c.put_list.new.classes.items) (sym now) (subst (λ (changed : List Class). KeepLists core.site changed (peers_with added core.peers)) (sym classes) lists);
    }
