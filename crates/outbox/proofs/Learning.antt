-- Peers that are learned get their places.
use Rattle.std.proofs.Common.{◌≡◌, ℕ, Bool, true, false, true≢false, not, cond, ◌||◌, List, [], ◌∷◌, ◌++◌, length, filter, refl, sym, ◌∙◌, ap, subst, inl, inr, arith, if◌then◌else◌}
use Rattle.std.specs.List.{All, list_any, insert}
use Rattle.std.specs.List.Sorted.{IsPermutation}
use Rattle.std.specs.Ordering.{is_lt, is_eq}
use Rattle.std.specs.declared.cmp.Ordering.{Ordering}
use Rattle.std.specs.declared.cmp.Ordering.TheVariants.{Less, Equal, Greater}
use Rattle.std.proofs.lemmas.Bool.{cases_Bool, or_parts}
use Rattle.std.proofs.lemmas.List.Elements.{All-cons}
use Rattle.std.proofs.lemmas.List.Folds.{list_any_none, list_any_at}
use Rattle.std.proofs.lemmas.List.Sorted.{IsPermutation-trans, IsPermutation-middle, IsPermutation-sym, IsPermutation-cons, IsPermutation-filter_both, All-permutation, sum_by-IsPermutation, list_any-IsPermutation}
use Rattle.std.proofs.lemmas.List.Sums.{sum_by-cons}
use Rattle.bac_values.specs.Address.{PeerData}
use Rattle.bac_values.specs.Orders.{peer_with, peers_with, peer_order, is_same, IsAscending}
use Rattle.bac_values.proofs.OrderLemmas.{same_by_order, tied}
use Rattle.bac_values.proofs.Placing.{inserted, turned, is_above as above, is_below as below}
use Rattle.bac_values.proofs.Inserting.{ascends_with as peers_ascend}
use Rattle.outbox.specs.Posts.{IsPost, empty_post, post_after, MailboxState}
use Rattle.outbox.specs.Outboxes.{OutboxState, IsOutbox, timing_of, peers_of, unfinished_in, is_known, mailboxes_with, mailboxes_with_all, learned}
use Rattle.outbox.specs.Places.{IsPlaceOf, IsGapFor}
use Rattle.outbox.proofs.PlaceLemmas.{peer_of, here, nowhere}
use Rattle.outbox.proofs.Making.{empty_is}
use Rattle.outbox.specs.Following.{Learns}
use Rattle.outbox.proofs.Standing.{Fits, fits_from, fits_to, nothing_kept}

-- a peer that is known stays as it was
pub known_same : (peer : PeerData) (posts : List MailboxState) → is_known peer posts ≡ true → mailboxes_with peer posts ≡ posts
known_same peer posts known = rw known refl

pub at_place : (peer : PeerData) (posts : List MailboxState) (place : ℕ) → IsPlaceOf peer posts place → (d : MailboxState) → posts ≡ mailboxes_with peer posts
at_place peer posts place there d = sym (known_same peer posts (list_any_at (λ (post : MailboxState). is_same post.peer peer) posts place d there.0 (here posts peer place there d)))

pub at_gap : (peer : PeerData) (posts : List MailboxState) (place : ℕ) → IsGapFor peer posts place → insert posts place (empty_post peer) ≡ mailboxes_with peer posts
at_gap peer posts place gap =
    let unknown : is_known peer posts ≡ false = list_any_none (λ (post : MailboxState). is_same post.peer peer) posts (λ j d within. nowhere posts peer place gap j d within) in
    rw unknown (inserted peer_of peer posts place (empty_post peer) gap)

abbrev is_below : PeerData → MailboxState → Bool
is_below = below peer_of

abbrev is_above : PeerData → MailboxState → Bool
is_above = above peer_of

-- a peer that is unknown: each post is either below it or above
module _ (peer : PeerData) where
  other_side : (post : MailboxState) → is_same post.peer peer ≡ false → is_above peer post ≡ not (is_below peer post)
  other_side post other = by_order (peer_order post.peer peer) refl
    where
      by_order : (o : Ordering) → peer_order post.peer peer ≡ o → is_above peer post ≡ not (is_below peer post)
      by_order Less e = ap is_lt (turned post.peer peer Less e) ∙ sym (ap (λ o. not (is_lt o)) e)
      by_order Equal e = absurd (true≢false (sym (same_by_order post.peer peer ∙ ap is_eq e) ∙ other))
      by_order Greater e = ap is_lt (turned post.peer peer Greater e) ∙ sym (ap (λ o. not (is_lt o)) e)

  above_by_not : (posts : List MailboxState) → is_known peer posts ≡ false → filter (is_above peer) posts ≡ filter (λ post. not (is_below peer post)) posts
  above_by_not [] none = refl
  above_by_not (post ∷ posts) none =
      let apart = or_parts (is_same post.peer peer) (is_known peer posts) none in
      let rest = above_by_not posts apart.1 in
      λ k. if other_side post apart.0 k then post ∷ rest k else rest k

  -- the posts with the peer's, in another order
  pub shuffled : (posts : List MailboxState) → is_known peer posts ≡ false → IsPermutation (empty_post peer ∷ posts) (mailboxes_with peer posts)
  shuffled posts none =
      let low = filter (is_below peer) posts in
      let high = filter (λ post. not (is_below peer post)) posts in
      let parts = IsPermutation-filter_both (is_below peer) (λ post. not (is_below peer post)) (λ post. refl) posts in
      let middle = IsPermutation-sym _ _ (IsPermutation-middle low (empty_post peer) high) in
      let whole = IsPermutation-trans _ _ _ (IsPermutation-cons (empty_post peer) posts (low ++ high) parts) middle in
      let same : low ++ empty_post peer ∷ high ≡ mailboxes_with peer posts = rw none (ap (λ ps. low ++ empty_post peer ∷ ps) (sym (above_by_not posts none))) in
      subst (IsPermutation (empty_post peer ∷ posts)) same whole

-- the peers of the posts are those that were there with the others
pub known_addresses : (peer : PeerData) (posts : List MailboxState) → is_known peer posts ≡ list_any (λ other. is_same other peer) (peers_of posts)
known_addresses peer [] = refl
known_addresses peer (post ∷ posts) = ap (λ b. is_same post.peer peer || b) (known_addresses peer posts)

peers_join : (xs : List MailboxState) (post : MailboxState) (ys : List MailboxState) → peers_of (xs ++ post ∷ ys) ≡ peers_of xs ++ post.peer ∷ peers_of ys
peers_join [] post ys = refl
peers_join (x ∷ xs) post ys = ap (λ ps. x.peer ∷ ps) (peers_join xs post ys)

filtered_by : (b : Bool) (post : MailboxState) (posts : List MailboxState) (peers : List PeerData) → peers_of posts ≡ peers → peers_of (cond b (post ∷ posts) posts) ≡ cond b (post.peer ∷ peers) peers
filtered_by true post posts peers e = ap (λ ps. post.peer ∷ ps) e
filtered_by false post posts peers e = e

filtered : (test : PeerData → Bool) (posts : List MailboxState) → peers_of (filter (λ (post : MailboxState). test post.peer) posts) ≡ filter test (peers_of posts)
filtered test [] = refl
filtered test (post ∷ posts) = filtered_by (test post.peer) post (filter (λ (post : MailboxState). test post.peer) posts) (filter test (peers_of posts)) (filtered test posts)

either : (b : Bool) (xs ys : List MailboxState) (us vs : List PeerData) → peers_of xs ≡ us → peers_of ys ≡ vs → peers_of (if b then xs else ys) ≡ (if b then us else vs)
either true xs ys us vs e f = e
either false xs ys us vs e f = f

is_lower : PeerData → PeerData → Bool
is_lower peer other = is_lt (peer_order other peer)

is_higher : PeerData → PeerData → Bool
is_higher peer other = is_lt (peer_order peer other)

with_one : (peer : PeerData) (posts : List MailboxState) → peers_of (mailboxes_with peer posts) ≡ peer_with peer (peers_of posts)
unfolding is_lower is_higher
with_one peer posts =
    let peers = peers_of posts in
    let below = filter (λ (post : MailboxState). is_lower peer post.peer) posts in
    let above = filter (λ (post : MailboxState). is_higher peer post.peer) posts in
    let placed : peers_of (below ++ empty_post peer ∷ above) ≡ filter (is_lower peer) peers ++ peer ∷ filter (is_higher peer) peers =
    peers_join below (empty_post peer) above
    ∙ (ap (λ ps. ps ++ peer ∷ peers_of above) (filtered (is_lower peer) posts)
    ∙ ap (λ ps. filter (is_lower peer) peers ++ peer ∷ ps) (filtered (is_higher peer) posts)) in
    either (is_known peer posts) posts (below ++ empty_post peer ∷ above) peers (filter (is_lower peer) peers ++ peer ∷ filter (is_higher peer) peers) refl placed
    ∙ ap (λ b. if b then peers else filter (is_lower peer) peers ++ peer ∷ filter (is_higher peer) peers) (known_addresses peer posts)

pub with_all : (others : List PeerData) (posts : List MailboxState) → peers_of (mailboxes_with_all others posts) ≡ peers_with others (peers_of posts)
with_all [] posts = refl
with_all (peer ∷ others) posts = with_all others (mailboxes_with peer posts) ∙ ap (peers_with others) (with_one peer posts)

pub ascends_with : (peer : PeerData) (posts : List MailboxState) → IsAscending (peers_of posts) → IsAscending (peers_of (mailboxes_with peer posts))
ascends_with peer posts ascending = subst IsAscending (sym (with_one peer posts)) (peers_ascend peer (peers_of posts) ascending)

pub ascends_still : (peer : PeerData) (posts now : List MailboxState) → now ≡ mailboxes_with peer posts → IsAscending (peers_of posts) → IsAscending (peers_of now)
ascends_still peer posts now same ascending = subst (λ ps. IsAscending (peers_of ps)) (sym same) (ascends_with peer posts ascending)

unfinished_with : (peer : PeerData) (posts : List MailboxState) → unfinished_in (mailboxes_with peer posts) ≡ unfinished_in posts
unfinished_with peer posts = elim (cases_Bool (is_known peer posts)) [
  | inl known ↦ ap unfinished_in (known_same peer posts known)
  | inr unknown ↦
      let sums = sum_by-IsPermutation (λ (p : MailboxState). length p.notes) (empty_post peer ∷ posts) (mailboxes_with peer posts) (shuffled peer posts unknown) in
      let first = sum_by-cons (λ (p : MailboxState). length p.notes) (empty_post peer) posts in
      omega (arith, sums, first)
]

all_with : (P : MailboxState → Type 0) (peer : PeerData) (posts : List MailboxState) → (is_known peer posts ≡ false → P (empty_post peer)) → All P posts → All P (mailboxes_with peer posts)
all_with P peer posts first all = elim (cases_Bool (is_known peer posts)) [
  | inl known ↦ subst (All P) (sym (known_same peer posts known)) all
  | inr unknown ↦ All-permutation P (empty_post peer ∷ posts) (mailboxes_with peer posts) (shuffled peer posts unknown) (All-cons P (empty_post peer) posts (first unknown) all)
]

known_with : (peer : PeerData) (posts : List MailboxState) (other : PeerData) → is_known other (mailboxes_with peer posts) ≡ (is_known other posts || is_same peer other)
known_with peer posts other = elim (cases_Bool (is_known peer posts)) [
  | inl known ↦ ap (is_known other) (known_same peer posts known) ∙ already (is_same peer other) refl known
  | inr unknown ↦ sym (list_any-IsPermutation (λ (post : MailboxState). is_same post.peer other) (empty_post peer ∷ posts) (mailboxes_with peer posts) (shuffled peer posts unknown)) ∙ swapped (is_same peer other) (is_known other posts)
]
  where
    swapped : (a b : Bool) → (a || b) ≡ (b || a)
    swapped true true = refl
    swapped true false = refl
    swapped false true = refl
    swapped false false = refl

    already : (b : Bool) → is_same peer other ≡ b → is_known peer posts ≡ true → is_known other posts ≡ (is_known other posts || b)
    already false e known = sym (or_false (is_known other posts))
      where
        or_false : (a : Bool) → (a || false) ≡ a
        or_false true = refl
        or_false false = refl
    already true e known =
        let same : peer ≡ other = tied peer other e in
        let there : is_known other posts ≡ true = ap (λ p. is_known p posts) (sym same) ∙ known in
        rw there refl

-- all of them, one after the other
pub ascends_with_all : (peers : List PeerData) (posts : List MailboxState) → IsAscending (peers_of posts) → IsAscending (peers_of (mailboxes_with_all peers posts))
ascends_with_all [] posts ascending = ascending
ascends_with_all (peer ∷ peers) posts ascending = ascends_with_all peers (mailboxes_with peer posts) (ascends_with peer posts ascending)

pub unfinished_with_all : (peers : List PeerData) (posts : List MailboxState) → unfinished_in (mailboxes_with_all peers posts) ≡ unfinished_in posts
unfinished_with_all [] posts = refl
unfinished_with_all (peer ∷ peers) posts = unfinished_with_all peers (mailboxes_with peer posts) ∙ unfinished_with peer posts

pub all_with_all : (P : MailboxState → Type 0) (peers : List PeerData) (posts : List MailboxState) → ((peer : PeerData) → is_known peer posts ≡ false → P (empty_post peer)) → All P posts → All P (mailboxes_with_all peers posts)
all_with_all P [] posts first all = all
all_with_all P (peer ∷ peers) posts first all = all_with_all P peers (mailboxes_with peer posts)
    (λ other unknown. first other (or_parts (is_known other posts) (is_same peer other) (sym (known_with peer posts other) ∙ unknown)).0)
    (all_with P peer posts (first peer) all)

pub known_with_all : (peers : List PeerData) (posts : List MailboxState) (other : PeerData) → is_known other (mailboxes_with_all peers posts) ≡ (is_known other posts || list_any (λ peer. is_same peer other) peers)
known_with_all [] posts other = sym (or_false (is_known other posts))
  where
    or_false : (a : Bool) → (a || false) ≡ a
    or_false true = refl
    or_false false = refl
known_with_all (peer ∷ peers) posts other =
    known_with_all peers (mailboxes_with peer posts) other ∙ ap (λ b. b || list_any (λ p. is_same p other) peers) (known_with peer posts other)
    ∙ grouped (is_known other posts) (is_same peer other) (list_any (λ p. is_same p other) peers)
  where
    grouped : (a b c : Bool) → ((a || b) || c) ≡ (a || (b || c))
    grouped true b c = refl
    grouped false b c = refl

pub learn_keeps : (peers : List PeerData) (outbox : OutboxState) → IsOutbox outbox → IsOutbox (learned peers outbox)
learn_keeps peers outbox is =
    let same = unfinished_with_all peers outbox.posts in
    record {
      settings = is.settings;
      ascending = ascends_with_all peers outbox.posts is.ascending;
      posts = all_with_all (IsPost outbox.retries) peers outbox.posts (λ peer unknown. empty_is outbox.retries peer) is.posts;
      room = omega (arith, same, is.room);
    }

pub learn_learns : (peers : List PeerData) (old : OutboxState) → Learns peers old (learned peers old)
learn_learns peers old = record {
  known = known_with_all peers old.posts;
  after = λ operations stands.
      let kept : PeerData → MailboxState = λ peer. post_after (timing_of old) peer (operations peer) in
      let fits = all_with_all (Fits kept) peers old.posts (λ peer unknown. nothing_kept (timing_of old) peer (operations peer) (stands.strangers peer unknown)) (fits_from kept old.posts stands.posts) in
      record {
        posts = fits_to kept (mailboxes_with_all peers old.posts) fits;
        strangers = λ peer unknown. stands.strangers peer (or_parts (is_known peer old.posts) (list_any (λ learned. is_same learned peer) peers) (sym (known_with_all peers old.posts peer) ∙ unknown)).0;
      };
}
