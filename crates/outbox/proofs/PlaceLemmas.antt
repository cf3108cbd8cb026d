-- Posts whose peers ascend: at most one is that of a peer.
use Rattle.std.proofs.Common.{◌≡◌, ◌≢◌, ◌⊎◌, ℕ, ◌<◌, Bool, true, false, true≢false, ◌&&◌, List, length, map, get_or, set, Result, refl, sym, ◌∙◌, ap, inl, inr, arith}
use Rattle.std.specs.List.{list_any}
use Rattle.std.specs.List.Sorted.{IsSearchInRange, IsBinarySearchResult}
use Rattle.std.specs.declared.cmp.Ordering.TheVariants.{Less}
use Rattle.std.proofs.lemmas.Bool.{cases_Bool, cases_lt, cases_eq}
use Rattle.std.proofs.lemmas.List.{get_or-map, length-map, length-set, get_or-set_same, get_or-set_other, get_or_default, same_lists}
use Rattle.std.proofs.lemmas.List.Folds.{list_any_at, list_any_none}
use Rattle.bac_values.specs.Address.{PeerData}
use Rattle.bac_values.specs.Orders.{peer_order, is_same, IsAscending}
use Rattle.bac_values.specs.contracts.peer.PeerOrd.TheImpl as peer_ord
use Rattle.bac_values.proofs.OrderLemmas.{below_is_other, peers_are_total, tied}
use Rattle.bac_values.proofs.Placing.{searched as searched_for, here as stands_here, nowhere as stands_nowhere}
use Rattle.outbox.specs.Posts.{MailboxState}
use Rattle.outbox.specs.Outboxes.{peers_of}
use Rattle.outbox.specs.Places.{IsPlaceOf, IsGapFor, IsSearched}

abbrev pub peer_of : MailboxState → PeerData
peer_of post = post.peer

pub in_order : (posts : List MailboxState) → IsAscending (peers_of posts) → (i j : ℕ) (d : MailboxState) → i < j → j < length posts → peer_order (get_or posts i d).peer (get_or posts j d).peer ≡ Less
in_order posts ascending i j d before within =
    let size : length (peers_of posts) ≡ length posts = length-map posts peer_of in
    let first = get_or-map peer_of posts i d d.peer (omega (arith, before, within)) in
    let second = get_or-map peer_of posts j d d.peer within in
    (λ k. peer_order (sym first k) (sym second k)) ∙ ascending i j d.peer before (omega (arith, size, within))

pub searched : (posts : List MailboxState) (peer : PeerData) (answer : Result ℕ ℕ) → IsAscending (peers_of posts) → IsSearchInRange answer (length posts) →
    IsBinarySearchResult (λ (post : MailboxState). (peer_ord.ghosts).cmp post.peer peer) posts answer → IsSearched peer posts answer
searched posts peer answer ascending within found = searched_for peer_of peer posts answer (in_order posts ascending) within found

-- no post but the one at its place is the peer's
pub others : (posts : List MailboxState) (peer : PeerData) (k : ℕ) → IsAscending (peers_of posts) → IsPlaceOf peer posts k →
    (j : ℕ) (d : MailboxState) → j < length posts → j ≢ k → is_same (get_or posts j d).peer peer ≡ false
others posts peer k ascending place j d within other = elim (cases_Bool (is_same (get_or posts j d).peer peer)) [
  | inl same ↦
      let e : (get_or posts j d).peer ≡ (get_or posts k d).peer = tied (get_or posts j d).peer peer same ∙ sym (place.1 d) in
      elim (cases_lt j k) [
        | inl before ↦ absurd (below_is_other peers_are_total _ _ (in_order posts ascending j k d before place.0) e)
        | inr after ↦ absurd (below_is_other peers_are_total _ _ (in_order posts ascending k j d (omega (arith, after, other)) within) (sym e))
      ]
  | inr different ↦ different
]

pub here : (posts : List MailboxState) (peer : PeerData) (k : ℕ) → IsPlaceOf peer posts k → (d : MailboxState) → is_same (get_or posts k d).peer peer ≡ true
here posts peer = stands_here peer_of peer posts

-- no post is the peer's
pub nowhere : (posts : List MailboxState) (peer : PeerData) (k : ℕ) → IsGapFor peer posts k → (j : ℕ) (d : MailboxState) → j < length posts → is_same (get_or posts j d).peer peer ≡ false
nowhere posts peer = stands_nowhere peer_of peer posts

-- a change of this post alone
module _ (change : MailboxState → MailboxState) (peer : PeerData) (does : (post : MailboxState) → is_same post.peer peer ≡ false → change post ≡ post) where
  pub changed_one : (posts : List MailboxState) (k : ℕ) (new : MailboxState) → IsAscending (peers_of posts) → IsPlaceOf peer posts k → ((d : MailboxState) → new ≡ change (get_or posts k d)) → set posts k new ≡ map change posts
  changed_one posts k new ascending place is =
      let size : length (set posts k new) ≡ length posts = length-set posts k new in
      let mapped : length (map change posts) ≡ length posts = length-map posts change in
      same_lists (set posts k new) (map change posts) (size ∙ sym mapped) (λ j d within.
      let inside : j < length posts = omega (arith, size, within) in
      at j d inside (cases_eq j k) ∙ sym (get_or-map change posts j d d inside))
    where
      at : (j : ℕ) (d : MailboxState) → j < length posts → (j ≡ k) ⊎ (j ≢ k) → get_or (set posts k new) j d ≡ change (get_or posts j d)
      at j d inside (inl same) = ap (λ n. get_or (set posts k new) n d) same ∙ get_or-set_same posts k new d place.0 ∙ is d ∙ ap (λ n. change (get_or posts n d)) (sym same)
      at j d inside (inr other) = get_or-set_other posts k j new d other ∙ sym (does (get_or posts j d) (others posts peer k ascending place j d inside other))

  pub changed_none : (posts : List MailboxState) (k : ℕ) → IsGapFor peer posts k → posts ≡ map change posts
  changed_none posts k gap =
      let mapped : length (map change posts) ≡ length posts = length-map posts change in
      same_lists posts (map change posts) (sym mapped) (λ j d within.
      sym (does (get_or posts j d) (nowhere posts peer k gap j d within)) ∙ sym (get_or-map change posts j d d within))

both_by : {v : Bool} (a b : Bool) → a ≡ true → b ≡ v → (a && b) ≡ v
both_by true b e f = f
both_by false b e f = absurd (true≢false (sym e))

none_by : (a b : Bool) → a ≡ false → (a && b) ≡ false
none_by true b e = absurd (true≢false e)
none_by false b e = refl

-- a test of this post alone
module _ (test : MailboxState → Bool) (peer : PeerData) where
  pub tested_one : (posts : List MailboxState) (k : ℕ) (d : MailboxState) → IsAscending (peers_of posts) → IsPlaceOf peer posts k → test (get_or posts k d) ≡ list_any (λ post. is_same post.peer peer && test post) posts
  tested_one posts k d ascending place = by_test (test (get_or posts k d)) refl
    where
      by_test : (b : Bool) → test (get_or posts k d) ≡ b → b ≡ list_any (λ post. is_same post.peer peer && test post) posts
      by_test true e =
          let both : (is_same (get_or posts k d).peer peer && test (get_or posts k d)) ≡ true = both_by (is_same (get_or posts k d).peer peer) (test (get_or posts k d)) (here posts peer k place d) e in
          sym (list_any_at (λ post. is_same post.peer peer && test post) posts k d place.0 both)
      by_test false e = sym (list_any_none (λ post. is_same post.peer peer && test post) posts (λ j d' within. at j d' within (cases_eq j k)))
        where
          at : (j : ℕ) (d' : MailboxState) → j < length posts → (j ≡ k) ⊎ (j ≢ k) → (is_same (get_or posts j d').peer peer && test (get_or posts j d')) ≡ false
          at j d' within (inr other) = none_by (is_same (get_or posts j d').peer peer) (test (get_or posts j d')) (others posts peer k ascending place j d' within other)
          at j d' within (inl same) =
              let fails : test (get_or posts k d') ≡ false = ap test (get_or_default posts k d' d place.0) ∙ e in
              ap (λ n. is_same (get_or posts n d').peer peer && test (get_or posts n d')) same ∙ both_by (is_same (get_or posts k d').peer peer) (test (get_or posts k d')) (here posts peer k place d') fails

  pub tested_none : (posts : List MailboxState) (k : ℕ) → IsGapFor peer posts k → false ≡ list_any (λ post. is_same post.peer peer && test post) posts
  tested_none posts k gap = sym (list_any_none (λ post. is_same post.peer peer && test post) posts (λ j d within. none_by (is_same (get_or posts j d).peer peer) (test (get_or posts j d)) (nowhere posts peer k gap j d within)))
