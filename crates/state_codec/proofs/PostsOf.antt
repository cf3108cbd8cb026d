-- The posts of a site's outbox: the test of what was read tells what is so of every outbox.
use Rattle.std.proofs.Common.{◌≡◌, ◌↔◌, IsTrue, ℕ, zero, suc, ◌≤◌, ◌&&◌, leb, Bool, true, false, true≢false, List, [], ◌∷◌, length, map, drop, refl, sym, ◌∙◌, ap, subst, arith}
use Rattle.std.specs.List.{All, AllPairs, list_all}
use Rattle.std.specs.Ordering.{is_lt}
use Rattle.std.specs.declared.cmp.Ordering.{Ordering}
use Rattle.std.specs.declared.cmp.Ordering.TheVariants.{Less, Equal, Greater}
use Rattle.std.proofs.lemmas.Bool.{leb-true, le-leb}
use Rattle.std.proofs.lemmas.List.Elements.{All-nil, All-cons, All-head, All-tail}
use Rattle.bac_values.specs.Address.{PeerData}
use Rattle.bac_values.specs.Orders.{is_among, peer_order, IsAscending}
use Rattle.bac_values.specs.declared.note.Note.{Note}
use Rattle.notify_class.specs.Edits.{recipient_peers}
use Rattle.notify_class.specs.Recipients.{DestinationData}
use Rattle.notify_class.specs.declared.class.Class.{Class}
use Rattle.outbox.specs.declared.post.Post.{Post}
use Rattle.outbox.specs.Outboxes.{AreParts, AreSettings, IsOutbox, notes_told, peers_of, restored, restored_posts, unfinished_in}
use Rattle.outbox.proofs.Making.{flushing_is}
use Rattle.outbox.specs.Posts.{IsPost, TestsPosts, is_post, MailboxState}
use Rattle.alarm_core.specs.Known.{Knows, KnowsClass}
use Rattle.alarm_core.specs.Room.{LeaveRoom}
use Rattle.alarm_core.specs.declared.site.Site.{Site}
use Rattle.bac_values.specs.Limits.{most_peers}
use Rattle.state_codec.specs.SnapshotSteps.{are_posts_of, ascends, knows_class, knows_classes, leave_room, may_have_posts, outbox_with}
use Rattle.state_codec.proofs.Behind.{both_true}

both_are : (a b : Bool) → a ≡ true → b ≡ true → (a && b) ≡ true
both_are true b e f = f
both_are false b e f = absurd (true≢false (sym e))

-- a test of each of a list
module _ {X : Type 0} (test : X → Bool) (P : X → Type 0) where
  pub all_told : ((x : X) → test x ≡ true → P x) → (xs : List X) → list_all test xs ≡ true → All P xs
  all_told tells [] e = All-nil P
  all_told tells (x ∷ xs) e = let t = both_true (test x) (list_all test xs) e in All-cons P x xs (tells x t.0) (all_told tells xs t.1)

  pub told_all : ((x : X) → P x → test x ≡ true) → (xs : List X) → All P xs → list_all test xs ≡ true
  told_all tells [] all = refl
  told_all tells (x ∷ xs) all = both_are (test x) (list_all test xs) (tells x (All-head P x xs all)) (told_all tells xs (All-tail P x xs all))

-- ---- peers that ascend

is_less : (o : Ordering) → is_lt o ≡ true → o ≡ Less
is_less Less e = refl
is_less Equal e = absurd (true≢false (sym e))
is_less Greater e = absurd (true≢false (sym e))

abbrev Below : PeerData → PeerData → Type 0
Below earlier later = peer_order earlier later ≡ Less

abbrev below : PeerData → PeerData → Bool
below earlier later = is_lt (peer_order earlier later)

pairs_more : (peer : PeerData) (peers : List PeerData) → All (Below peer) peers → AllPairs Below peers → AllPairs Below (peer ∷ peers)
pairs_more peer peers here later zero zero d before within = absurd (omega (arith, before))
pairs_more peer peers here later zero (suc j) d before within = here j d (omega (arith, within))
pairs_more peer peers here later (suc i) zero d before within = absurd (omega (arith, before))
pairs_more peer peers here later (suc i) (suc j) d before within = later i j d (omega (arith, before)) (omega (arith, within))

pairs_head : (peer : PeerData) (peers : List PeerData) → IsAscending (peer ∷ peers) → All (Below peer) peers
pairs_head peer peers is k d within = is 0 (suc k) d (omega arith) (omega (arith, within))

pairs_tail : (peer : PeerData) (peers : List PeerData) → IsAscending (peer ∷ peers) → IsAscending peers
pairs_tail peer peers is i j d before within = is (suc i) (suc j) d (omega (arith, before)) (omega (arith, within))

pub ascends_told : (peers : List PeerData) → ascends peers ≡ true → IsAscending peers
ascends_told [] e = λ i j d before within. absurd (omega (arith, within))
ascends_told (peer ∷ peers) e =
    let t = both_true (list_all (below peer) peers) (ascends peers) e in
    pairs_more peer peers (all_told (below peer) (Below peer) (λ other. is_less (peer_order peer other)) peers t.0) (ascends_told peers t.1)

pub told_ascends : (peers : List PeerData) → IsAscending peers → ascends peers ≡ true
told_ascends [] is = refl
told_ascends (peer ∷ peers) is =
    both_are (list_all (below peer) peers) (ascends peers)
    (told_all (below peer) (Below peer) (λ other e. ap is_lt e) peers (pairs_head peer peers is))
    (told_ascends peers (pairs_tail peer peers is))

-- ---- posts

pub record AreSitePosts (site : Site) (posts : List MailboxState) : Type 0 where
  pub few : length posts ≤ most_peers
  pub outbox : IsOutbox (outbox_with site posts)

pub posts_told : TestsPosts → (site : Site) → AreSettings site.device.outbox site.device.apdu_timeout site.device.retries → (posts : List MailboxState) → may_have_posts site posts ≡ true → AreSitePosts site posts
posts_told tests site settings posts e =
    let a = both_true (leb (length posts) most_peers) (ascends (peers_of posts) && (leb (unfinished_in posts) site.device.outbox && list_all (is_post site.device.retries) posts)) e in
    let b = both_true (ascends (peers_of posts)) (leb (unfinished_in posts) site.device.outbox && list_all (is_post site.device.retries) posts) a.1 in
    let c = both_true (leb (unfinished_in posts) site.device.outbox) (list_all (is_post site.device.retries) posts) b.1 in
    record {
      few = leb-true _ _ a.0;
      outbox = record {
        settings = settings;
        ascending = ascends_told (peers_of posts) b.0;
        posts = all_told (is_post site.device.retries) (IsPost site.device.retries) (λ post. (tests site.device.retries post).0) posts c.1;
        room = leb-true _ _ c.0;
      };
    }

pub told_posts : TestsPosts → (site : Site) (posts : List MailboxState) → AreSitePosts site posts → may_have_posts site posts ≡ true
told_posts tests site posts are =
    both_are (leb (length posts) most_peers) (ascends (peers_of posts) && (leb (unfinished_in posts) site.device.outbox && list_all (is_post site.device.retries) posts)) (le-leb _ _ are.few)
    (both_are (ascends (peers_of posts)) (leb (unfinished_in posts) site.device.outbox && list_all (is_post site.device.retries) posts) (told_ascends (peers_of posts) are.outbox.ascending)
    (both_are (leb (unfinished_in posts) site.device.outbox) (list_all (is_post site.device.retries) posts) (le-leb _ _ are.outbox.room)
    (told_all (is_post site.device.retries) (IsPost site.device.retries) (λ post. (tests site.device.retries post).1) posts are.outbox.posts)))

-- two tests of the same
pub same_test : (a b : Bool) (P : Type 0) → IsTrue a ↔ P → (b ≡ true → P) → (P → b ≡ true) → a ≡ b
same_test true true P tells forth back = refl
same_test true false P tells forth back = sym (back (tells.0 refl))
same_test false true P tells forth back = tells.1 (forth refl)
same_test false false P tells forth back = refl

-- whether lists leave room
pub room_same : (site : Site) (classes : List Class) (b : Bool) → IsTrue b ↔ LeaveRoom site classes → b ≡ leave_room site classes
room_same site classes b tells = same_test b (leave_room site classes) (LeaveRoom site classes) tells (λ e. leb-true _ _ e) (λ room. le-leb _ _ room)

-- whether an outbox can be made of what was told, where the notes are as many
pub tested : TestsPosts → (site : Site) (posts : List Post) (notes : List Note) (few can : Bool) → AreSettings site.device.outbox site.device.apdu_timeout site.device.retries → notes_told posts ≡ length notes
    → few ≡ leb (length (restored_posts posts notes)) most_peers → IsTrue can ↔ AreParts posts notes site.device.outbox site.device.apdu_timeout site.device.retries
    → (few && can) ≡ may_have_posts site (restored_posts posts notes)
tested tests site posts notes few can settings told is tells =
    let all = restored_posts posts notes in
    same_test (few && can) (may_have_posts site all) (AreSitePosts site all) (
      λ e. let t = both_true few can e in record { few = leb-true _ _ (sym is ∙ t.0); outbox = flushing_is site.device.flush_silent (restored posts notes site.device.outbox site.device.apdu_timeout site.device.retries) (tells.0 t.1).1 },
      λ are. both_are few can (is ∙ le-leb _ _ are.few) (tells.1 (told, flushing_is false (outbox_with site all) are.outbox)),
    )
    (posts_told tests site settings all) (told_posts tests site all)

pub long_restored : (posts : List Post) (notes : List Note) → length (restored_posts posts notes) ≡ length posts
long_restored [] notes = refl
long_restored (post ∷ posts) notes = ap suc (long_restored posts (drop post.notes notes))

-- where there are few, all hangs on whether an outbox can be made
pub passes : TestsPosts → (site : Site) (posts : List Post) (notes : List Note) (can : Bool) → AreSettings site.device.outbox site.device.apdu_timeout site.device.retries → notes_told posts ≡ length notes
    → length posts ≤ most_peers → IsTrue can ↔ AreParts posts notes site.device.outbox site.device.apdu_timeout site.device.retries
    → can ≡ may_have_posts site (restored_posts posts notes)
passes tests site posts notes can settings told few tells =
    tested tests site posts notes true can settings told (sym (ap (λ (n : ℕ). leb n most_peers) (long_restored posts notes) ∙ le-leb _ _ few)) tells

-- where there are many, the first test tells it
pub refused : (site : Site) (posts : List Post) (notes : List Note) → leb (length posts) most_peers ≡ false → leb (length posts) most_peers ≡ may_have_posts site (restored_posts posts notes)
refused site posts notes many =
    let all = restored_posts posts notes in
    many ∙ sym (ap (λ (b : Bool). b && (ascends (peers_of all) && (leb (unfinished_in all) site.device.outbox && list_all (is_post site.device.retries) all))) (ap (λ (n : ℕ). leb n most_peers) (long_restored posts notes) ∙ many))

pub peers_restored : (posts : List Post) (notes : List Note) → peers_of (restored_posts posts notes) ≡ map (λ (post : Post). post.peer) posts
peers_restored [] notes = refl
peers_restored (post ∷ posts) notes = ap (λ (ps : List PeerData). post.peer ∷ ps) (peers_restored posts (drop post.notes notes))

-- ---- recipients

pub all_recipients : (known : List PeerData) (destinations : List DestinationData) → list_all (λ (it : DestinationData). is_among known it.peer) destinations ≡ list_all (is_among known) (recipient_peers destinations)
all_recipients known [] = refl
all_recipients known (it ∷ others) = ap (λ (b : Bool). is_among known it.peer && b) (all_recipients known others)

pub classes_told : (known : List PeerData) (classes : List Class) → knows_classes known classes ≡ true → All (KnowsClass known) classes
classes_told known = all_told (knows_class known) (KnowsClass known) (λ class. all_told (is_among known) (Knows known) (λ peer e. e) (recipient_peers class.destinations))

pub told_classes : (known : List PeerData) (classes : List Class) → All (KnowsClass known) classes → knows_classes known classes ≡ true
told_classes known = told_all (knows_class known) (KnowsClass known) (λ class. told_all (is_among known) (Knows known) (λ peer e. e) (recipient_peers class.destinations))

-- ---- the posts of a site with some classes

abbrev pub peers_told : List Post → List PeerData
peers_told posts = map (λ (post : Post). post.peer) posts

known_same : (posts : List Post) (notes : List Note) (known : List PeerData) → known ≡ peers_told posts → known ≡ peers_of (restored_posts posts notes)
known_same posts notes known is = is ∙ sym (peers_restored posts notes)

-- the peers of posts that passed the test ascend
pub known_ascend : (site : Site) (posts : List Post) (notes : List Note) (known : List PeerData) → may_have_posts site (restored_posts posts notes) ≡ true → known ≡ peers_told posts → IsAscending known
known_ascend site posts notes known e is =
    let all = restored_posts posts notes in
    let a = both_true (leb (length all) most_peers) (ascends (peers_of all) && (leb (unfinished_in all) site.device.outbox && list_all (is_post site.device.retries) all)) e in
    let b = both_true (ascends (peers_of all)) (leb (unfinished_in all) site.device.outbox && list_all (is_post site.device.retries) all) a.1 in
    subst IsAscending (sym (known_same posts notes known is)) (ascends_told (peers_of all) b.0)

-- where they passed it, all hangs on whether each recipient is known
pub all_hangs : (site : Site) (classes : List Class) (posts : List Post) (notes : List Note) (known : List PeerData) → may_have_posts site (restored_posts posts notes) ≡ true → known ≡ peers_told posts
    → knows_classes known classes ≡ are_posts_of site classes (restored_posts posts notes)
all_hangs site classes posts notes known e is =
    ap (λ (peers : List PeerData). knows_classes peers classes) (known_same posts notes known is)
    ∙ sym (ap (λ (b : Bool). b && knows_classes (peers_of (restored_posts posts notes)) classes) e)

-- of posts that passed all tests an outbox may be made
pub outbox_told : TestsPosts → (site : Site) → AreSettings site.device.outbox site.device.apdu_timeout site.device.retries → (classes : List Class) (posts : List MailboxState) → are_posts_of site classes posts ≡ true → IsOutbox (outbox_with site posts)
outbox_told tests site settings classes posts e =
    (posts_told tests site settings posts (both_true (may_have_posts site posts) (knows_classes (peers_of posts) classes) e).0).outbox
