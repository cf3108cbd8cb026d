-- The peers of a site's notification classes are known.
use Rattle.std.proofs.Common.{◌≡◌, Bool, true, false, ◌||◌, ◌==◌, IsTrue, if◌then◌else◌, List, [], ◌∷◌, ◌++◌, map, refl, sym, ap, ◌∙◌}
use Rattle.std.specs.List.{All, flat_map}
use Rattle.std.proofs.lemmas.List.Elements.{All-nil, All-cons, All-head, All-tail, All-map, All-weaker}
use Rattle.bac_values.specs.Address.{PeerData}
use Rattle.bac_values.specs.Orders.{is_among, is_same, peers_with}
use Rattle.bac_values.proofs.OrderLemmas.{same_is_equivalence}
use Rattle.notify_class.specs.declared.class.Class.{Class}
use Rattle.notify_class.specs.Edits.{recipient_peers}
use Rattle.notify_class.specs.Recipients.{DestinationData}
use Rattle.outbox.specs.Outboxes.{mailboxes_with_all}
use Rattle.outbox.specs.Posts.{empty_post}
use Rattle.outbox.proofs.Learning.{known_addresses, known_with_all, with_all}
use Rattle.outbox.proofs.Making.{peers_empty}
use Rattle.alarm_core.specs.declared.event.Act.{Act}
use Rattle.alarm_core.specs.declared.event.Act.TheVariants.{Tick, Write, Ack, Pump, Answer, Edit}
use Rattle.alarm_core.specs.declared.event.Event.{Event}
use Rattle.alarm_core.specs.declared.site.Site.{Site}
use Rattle.alarm_core.specs.Known.{Knows, KnowsClass}
use Rattle.alarm_core.specs.Classes.{classes_after, classes_with, edited, first_classes, known_peers_of, learned_with, peers_in}

-- ---- known peers

pub known_more : (others known : List PeerData) (peer : PeerData) → is_among (peers_with others known) peer ≡ (is_among known peer || is_among others peer)
known_more others known peer =
    let posts = map empty_post known in
    ap (λ ps. is_among (peers_with others ps) peer) (sym (peers_empty known))
    ∙ (ap (λ ps. is_among ps peer) (sym (with_all others posts))
    ∙ (sym (known_addresses peer (mailboxes_with_all others posts))
    ∙ (known_with_all others posts peer
    ∙ ap (λ b. b || is_among others peer) (known_addresses peer posts ∙ ap (λ ps. is_among ps peer) (peers_empty known)))))

or_right : (a b : Bool) → b ≡ true → (a || b) ≡ true
or_right true b h = refl
or_right false b h = h

knows_still : (others known : List PeerData) (peer : PeerData) → Knows known peer → Knows (peers_with others known) peer
knows_still others known peer h = known_more others known peer ∙ ap (λ b. b || is_among others peer) h

among_themselves : (peers : List PeerData) → All (λ peer. IsTrue (is_among peers peer)) peers
among_themselves [] = All-nil (λ peer. IsTrue (is_among [] peer))
among_themselves (peer ∷ peers) =
    All-cons (λ other. IsTrue (is_among (peer ∷ peers) other)) peer peers (ap (λ b. b || is_among peers peer) (same_is_equivalence.refl peer))
    (All-weaker (λ other. IsTrue (is_among peers other)) (λ other. IsTrue (is_among (peer ∷ peers) other)) (λ other h. or_right (is_same peer other) (is_among peers other) h) peers (among_themselves peers))

knows_new : (others known : List PeerData) → All (Knows (peers_with others known)) others
knows_new others known =
    All-weaker (λ peer. IsTrue (is_among others peer)) (Knows (peers_with others known)) (λ peer h. known_more others known peer ∙ or_right (is_among known peer) (is_among others peer) h) others (among_themselves others)

-- ---- the peers of the classes are known

pub front_all : {X : Type 0} (P : X → Type 0) (xs ys : List X) → All P (xs ++ ys) → All P xs
front_all P [] ys h = All-nil P
front_all P (x ∷ xs) ys h = All-cons P x xs (All-head P x (xs ++ ys) h) (front_all P xs ys (All-tail P x (xs ++ ys) h))

pub back_all : {X : Type 0} (P : X → Type 0) (xs ys : List X) → All P (xs ++ ys) → All P ys
back_all P [] ys h = h
back_all P (x ∷ xs) ys h = back_all P xs ys (All-tail P x (xs ++ ys) h)

all_parts : {X Y : Type 0} (P : Y → Type 0) (f : X → List Y) (xs : List X) → All P (flat_map f xs) → All (λ x. All P (f x)) xs
all_parts P f [] h = All-nil (λ x. All P (f x))
all_parts P f (x ∷ xs) h = All-cons (λ x. All P (f x)) x xs (front_all P (f x) (flat_map f xs) h) (all_parts P f xs (back_all P (f x) (flat_map f xs) h))

edited_known : (b : Bool) (recipients : List DestinationData) (known : List PeerData) (class : Class) → KnowsClass known class →
    KnowsClass (peers_with (recipient_peers recipients) known) (if b then record class { destinations = recipients } else class)
edited_known true recipients known class h = knows_new (recipient_peers recipients) known
edited_known false recipients known class h = All-weaker (Knows known) (Knows (peers_with (recipient_peers recipients) known)) (knows_still (recipient_peers recipients) known) (recipient_peers class.destinations) h

pub known_by : (act : Act) (known : List PeerData) (classes : List Class) → All (KnowsClass known) classes → All (KnowsClass (learned_with act known)) (classes_with act classes)
known_by (Edit number recipients) known classes h =
    let now = peers_with (recipient_peers recipients) known in
    All-map (KnowsClass now) (edited number recipients) classes
    (All-weaker (KnowsClass known) (λ class. KnowsClass now (edited number recipients class)) (λ (class : Class) k. edited_known (class.instance == number) recipients known class k) classes h)
known_by Tick known classes h = h
known_by (Write change) known classes h = h
known_by (Ack object transition named) known classes h = h
known_by Pump known classes h = h
known_by (Answer peer invoke kind) known classes h = h

pub classes_known : (site : Site) (history : List Event) → All (KnowsClass (known_peers_of site history)) (classes_after site history)
classes_known site [] = all_parts (Knows (known_peers_of site [])) (λ (class : Class). recipient_peers class.destinations) (first_classes site) (knows_new (peers_in (first_classes site)) [])
classes_known site (event ∷ older) = known_by event.act (known_peers_of site older) (classes_after site older) (classes_known site older)
