-- An edit that is allowed leaves the lists of a site's classes within their limits.
use Rattle.std.proofs.Common.{◌≡◌, ℕ, ◌+◌, ◌-◌, ◌*◌, ◌<◌, ◌≤◌, ◌==◌, ◌||◌, nat_lt, Bool, true, false, not, if◌then◌else◌, Result, Ok, Err, List, [], ◌∷◌, ◌++◌, length, map, refl, sym, ap, ◌∙◌, subst, arith, length-append, inl, inr}
use Rattle.std.proofs.Math.Path.{fun_ext}
use Rattle.std.specs.List.{All, AllPairs, AllZip, filter, sum_by}
use Rattle.std.proofs.lemmas.Bool.{cases_Bool, ltb-false}
use Rattle.std.proofs.lemmas.List.{length-map}
use Rattle.std.proofs.lemmas.List.Elements.{All-nil, All-cons, All-head, All-tail}
use Rattle.std.proofs.lemmas.List.Folds.{list_any-append}
use Rattle.std.proofs.lemmas.List.Sorted.{length_permutation}
use Rattle.std.proofs.lemmas.Simd.{map-map}
use Rattle.bac_values.specs.Address.{PeerData}
use Rattle.bac_values.specs.Limits.{most_classes, most_destinations, most_peers}
use Rattle.bac_values.specs.Orders.{is_among, is_same, peer_with, peers_with}
use Rattle.notify_class.specs.Edits.{edit_verdict, known_with, recipient_peers}
use Rattle.notify_class.specs.Recipients.{DestinationData}
use Rattle.notify_class.specs.declared.class.Class.{Class}
use Rattle.notify_class.specs.declared.class_site.ClassSite.{ClassSite}
use Rattle.notify_class.specs.declared.edit.EditFault.{EditFault}
use Rattle.notify_class.specs.declared.edit.EditFault.TheVariants.{TooMany, TooManyPeers, TooManyNotes}
use Rattle.outbox.specs.Outboxes.{is_known, peers_of as peers_of_posts, mailboxes_with}
use Rattle.outbox.specs.Posts.{MailboxState, empty_post}
use Rattle.outbox.proofs.Learning.{known_addresses, known_same, shuffled, with_all}
use Rattle.outbox.proofs.Making.{peers_empty}
use Rattle.alarm_core.specs.declared.site.Site.{Site}
use Rattle.alarm_core.specs.Classes.{edited, first_classes, peers_in}
use Rattle.alarm_core.specs.Limits.{HasFewDestinations}
use Rattle.alarm_core.specs.ListLimits.{HasFew, KeepLists, instances}
use Rattle.alarm_core.specs.Room.{LeaveRoom, members_at, share_at}
use Rattle.alarm_core.specs.SiteStates.{IsClassOf}
use Rattle.alarm_core.specs.Sites.{IsSite, instance_of}
use Rattle.alarm_core.proofs.KnownPeers.{known_more}
use Rattle.alarm_core.proofs.Shares.{IsBelow, edit_within, sum_of_some}

-- ---- what is so of an edit that is allowed

verdict_by : Bool → Bool → Bool → ℕ → ℕ → ℕ → Result (Unit {0}) EditFault
verdict_by many peers notes count known all = if many then Err (TooMany count) else (if peers then Err (TooManyPeers known) else (if notes then Err (TooManyNotes all) else Ok tt))

none_by : (many peers notes : Bool) (count known all : ℕ) → verdict_by many peers notes count known all ≡ Ok tt → (many ≡ false) × (peers ≡ false) × (notes ≡ false)
unfolding verdict_by
none_by true peers notes count known all e = absurd cc
none_by false true notes count known all e = absurd cc
none_by false false true count known all e = absurd cc
none_by false false false count known all e = (refl, refl, refl)

-- the list, the peers that are known then, and the notifications are no more than they may be
record IsWithin (known : List PeerData) (recipients : List DestinationData) (members room : ℕ) : Type 0 where
  few : length recipients ≤ most_destinations
  peers : length (known_with known (recipient_peers recipients)) ≤ most_peers
  notes : members * length recipients ≤ room

is_within : (known : List PeerData) (recipients : List DestinationData) (members room : ℕ) → edit_verdict known recipients members room ≡ Ok tt → IsWithin known recipients members room
unfolding verdict_by
is_within known recipients members room e =
    let count = length recipients in
    let peers = length (known_with known (recipient_peers recipients)) in
    let notes = members * count in
    let tests = none_by (nat_lt most_destinations count) (nat_lt most_peers peers) (nat_lt room notes) count peers notes e in
    record { few = ltb-false most_destinations count tests.0; peers = ltb-false most_peers peers tests.1; notes = ltb-false room notes tests.2 }

-- ---- the classes

edited_kept : (listed : ClassSite) (b : Bool) (recipients : List DestinationData) (class : Class) → length recipients ≤ most_destinations → IsClassOf listed class →
    IsClassOf listed (if b then record class { destinations = recipients } else class)
edited_kept listed true recipients class few is = record { same = ap (λ (c : Class). record c { destinations = recipients }) is.same; few = few }
edited_kept listed false recipients class few is = is

pub edited_all : (sites : List ClassSite) (classes : List Class) (number : ℕ) (recipients : List DestinationData) → length recipients ≤ most_destinations → AllZip IsClassOf sites classes →
    AllZip IsClassOf sites (map (edited number recipients) classes)
edited_all [] [] number recipients few zip = tt
edited_all [] (class ∷ classes) number recipients few zip = absurd zip
edited_all (listed ∷ sites) [] number recipients few zip = absurd zip
edited_all (listed ∷ sites) (class ∷ classes) number recipients few zip =
    (edited_kept listed (class.instance == number) recipients class few zip.0, edited_all sites classes number recipients few zip.1)

pub first_zip : (sites : List ClassSite) → All HasFewDestinations sites → AllZip IsClassOf sites (map (λ (listed : ClassSite). listed.class) sites)
first_zip [] few = tt
first_zip (listed ∷ sites) few = (record { same = refl; few = All-head HasFewDestinations listed sites few }, first_zip sites (All-tail HasFewDestinations listed sites few))

few_by : (b : Bool) (recipients : List DestinationData) (class : Class) → length recipients ≤ most_destinations → HasFew class → HasFew (if b then record class { destinations = recipients } else class)
few_by true recipients class few has = few
few_by false recipients class few has = has

few_edited : (number : ℕ) (recipients : List DestinationData) (classes : List Class) → length recipients ≤ most_destinations → All HasFew classes → All HasFew (map (edited number recipients) classes)
few_edited number recipients [] few all = All-nil HasFew
few_edited number recipients (class ∷ classes) few all =
    All-cons HasFew (edited number recipients class) (map (edited number recipients) classes) (few_by (class.instance == number) recipients class few (All-head HasFew class classes all))
    (few_edited number recipients classes few (All-tail HasFew class classes all))

edited_instance : (same : Bool) (recipients : List DestinationData) (class : Class) → (if same then record class { destinations = recipients } else class).instance ≡ class.instance
edited_instance true recipients class = refl
edited_instance false recipients class = refl

pub instances_edited : (number : ℕ) (recipients : List DestinationData) (classes : List Class) → instances (map (edited number recipients) classes) ≡ instances classes
instances_edited number recipients classes =
    map-map (λ (class : Class). class.instance) (edited number recipients) classes
    ∙ ap (λ f. map f classes) (fun_ext (λ (class : Class). edited_instance (class.instance == number) recipients class))

pub first_instances : (site : Site) → instances (first_classes site) ≡ map instance_of site.classes
first_instances site = map-map (λ (class : Class). class.instance) (λ (listed : ClassSite). listed.class) site.classes

-- classes with lists of their own have the instances of the site's, and few recipients each
pub instances_told : (sites : List ClassSite) (classes : List Class) → AllZip IsClassOf sites classes → instances classes ≡ map instance_of sites
instances_told [] [] zip = refl
instances_told [] (class ∷ classes) zip = absurd zip
instances_told (listed ∷ sites) [] zip = absurd zip
instances_told (listed ∷ sites) (class ∷ classes) zip =
    ap (λ (c : Class). c.instance ∷ instances classes) zip.0.same ∙ ap (λ (ns : List ℕ). listed.class.instance ∷ ns) (instances_told sites classes zip.1)

few_told : (sites : List ClassSite) (classes : List Class) → AllZip IsClassOf sites classes → All HasFew classes
few_told [] [] zip = All-nil HasFew
few_told [] (class ∷ classes) zip = absurd zip
few_told (listed ∷ sites) [] zip = absurd zip
few_told (listed ∷ sites) (class ∷ classes) zip = All-cons HasFew class classes zip.0.few (few_told sites classes zip.1)

-- ---- how many peers are known

-- a peer that is new is one more
with_longer : (peer : PeerData) (posts : List MailboxState) → length (mailboxes_with peer posts) ≡ (if is_known peer posts then length posts else length posts + 1)
with_longer peer posts = elim (cases_Bool (is_known peer posts)) [
  | inl known ↦ ap length (known_same peer posts known) ∙ ap (λ b. if b then length posts else length posts + 1) (sym known)
  | inr unknown ↦
      let longer = length_permutation (empty_post peer ∷ posts) (mailboxes_with peer posts) (shuffled peer posts unknown) in
      let more : length (mailboxes_with peer posts) ≡ length posts + 1 = omega (arith, longer) in
      more ∙ ap (λ b. if b then length posts else length posts + 1) (sym unknown)
]

one_longer : (peer : PeerData) (known : List PeerData) → length (peer_with peer known) ≡ (if is_among known peer then length known else length known + 1)
one_longer peer known =
    let posts = map empty_post known in
    let same : peers_of_posts posts ≡ known = peers_empty known in
    let size : length posts ≡ length known = length-map known empty_post in
    ap (λ ps. length (peer_with peer ps)) (sym same)
    ∙ (ap length (sym (with_all (peer ∷ []) posts))
    ∙ (length-map (mailboxes_with peer posts) (λ (post : MailboxState). post.peer)
    ∙ (with_longer peer posts
    ∙ (ap (λ n. if is_known peer posts then n else n + 1) size
    ∙ ap (λ b. if b then length known else length known + 1) (known_addresses peer posts ∙ ap (λ ps. is_among ps peer) same)))))

-- as many are known where each new one is put in its place as where it is put at the end
among_end : (known : List PeerData) (peer other : PeerData) → is_among (known ++ peer ∷ []) other ≡ (is_among known other || is_among (peer ∷ []) other)
among_end known peer other = list_any-append (λ p. is_same p other) known (peer ∷ [])

-- two lists are alike: as long as one another, and the same peers are among them
record Alike (placed appended : List PeerData) : Type 0 where
  size : length placed ≡ length appended
  same : (other : PeerData) → is_among placed other ≡ is_among appended other

abbrev CountsAlike : List PeerData → Type 0
CountsAlike others = (placed appended : List PeerData) → Alike placed appended → length (peers_with others placed) ≡ length (known_with appended others)

stays : (peer : PeerData) (placed : List PeerData) → is_among placed peer ≡ true → peer_with peer placed ≡ placed
stays peer placed known = rw known refl

count_by : (peer : PeerData) (others placed appended : List PeerData) → CountsAlike others → Alike placed appended → (b : Bool) → is_among appended peer ≡ b →
    length (peers_with others (peer_with peer placed)) ≡ length (if b then known_with appended others else known_with (appended ++ peer ∷ []) others)
count_by peer others placed appended later alike true e = ap (λ ps. length (peers_with others ps)) (stays peer placed (alike.same peer ∙ e)) ∙ later placed appended alike
count_by peer others placed appended later alike false e =
    let longer = one_longer peer placed ∙ ap (λ b. if b then length placed else length placed + 1) (alike.same peer ∙ e) in
    let end = length-append appended (peer ∷ []) in
    let size = alike.size in
    later (peer_with peer placed) (appended ++ peer ∷ []) (record {
      size = omega (arith, longer, end, size);
      same = λ other. known_more (peer ∷ []) placed other ∙ (ap (λ b. b || is_among (peer ∷ []) other) (alike.same other) ∙ sym (among_end appended peer other));
    })

same_count : (others : List PeerData) → CountsAlike others
same_count [] placed appended alike = alike.size
same_count (peer ∷ others) placed appended alike = count_by peer others placed appended (same_count others) alike (is_among appended peer) refl

-- and no more than there were before and those that are added
one_at_most : (b : Bool) (n : ℕ) → (if b then n else n + 1) ≤ n + 1
one_at_most true n = omega arith
one_at_most false n = omega arith

at_most : (others known : List PeerData) → length (peers_with others known) ≤ length known + length others
at_most [] known = omega arith
at_most (peer ∷ others) known = omega (arith, at_most others (peer_with peer known), one_longer peer known, one_at_most (is_among known peer) (length known))

listed_few : (sites : List ClassSite) → All HasFewDestinations sites → length (peers_in (map (λ (listed : ClassSite). listed.class) sites)) ≤ most_destinations * length sites
listed_few [] few = omega arith
listed_few (listed ∷ sites) few =
    let later = peers_in (map (λ (one : ClassSite). one.class) sites) in
    omega (
      arith,
      length-append (recipient_peers listed.class.destinations) later,
      length-map listed.class.destinations (λ (recipient : DestinationData). recipient.peer),
      All-head HasFewDestinations listed sites few,
      listed_few sites (All-tail HasFewDestinations listed sites few),
    )

-- ---- all of it

module _ (site : Site) (classes : List Class) (known : List PeerData) (number : ℕ) (recipients : List DestinationData) where
  -- what the other classes leave of the outbox
  abbrev pub left_by_others : ℕ
  left_by_others = site.device.outbox - sum_by (share_at site) (filter (λ (class : Class). not (class.instance == number)) classes)

  pub few_recipients : edit_verdict known recipients (members_at site number) left_by_others ≡ Ok tt → length recipients ≤ most_destinations
  few_recipients verdict = (is_within known recipients (members_at site number) left_by_others verdict).few

  -- after an edit
  pub lists_edited : KeepLists site classes known → edit_verdict known recipients (members_at site number) left_by_others ≡ Ok tt → KeepLists site (map (edited number recipients) classes) (peers_with (recipient_peers recipients) known)
  lists_edited keep verdict =
      let is = is_within known recipients (members_at site number) left_by_others verdict in
      let within = edit_within (members_at site) number recipients classes keep.ascending in
      record {
        few = few_edited number recipients classes is.few keep.few;
        ascending = subst (AllPairs IsBelow) (sym (instances_edited number recipients classes)) keep.ascending;
        peers = subst (λ n. n ≤ most_peers) (sym (same_count (recipient_peers recipients) known known (record { size = refl; same = λ other. refl }))) is.peers;
        room = omega (arith, is.notes, within, keep.room, sum_of_some (share_at site) (λ (class : Class). not (class.instance == number)) classes);
      }

module _ (site : Site) (is : IsSite site) where
  -- at the start
  pub first_lists : KeepLists site (first_classes site) (peers_with (peers_in (first_classes site)) [])
  first_lists = record {
    few = few_told site.classes (first_classes site) (first_zip site.classes is.limits.destinations);
    ascending = subst (AllPairs IsBelow) (sym (first_instances site)) is.classes_ascend;
    peers = omega (arith, at_most (peers_in (first_classes site)) [], listed_few site.classes is.limits.destinations, is.limits.classes);
    room = is.room;
  }

  -- as a state of the site tells them
  pub lists_told : (classes : List Class) (known : List PeerData) → AllZip IsClassOf site.classes classes → LeaveRoom site classes → length known ≤ most_peers → KeepLists site classes known
  lists_told classes known are room peers = record {
    few = few_told site.classes classes are;
    ascending = subst (AllPairs IsBelow) (sym (instances_told site.classes classes are)) is.classes_ascend;
    peers = peers;
    room = room;
  }
