-- The known peers together with others.
use Rattle.std.proofs.Common.{◌≡◌, ◌⊎◌, ℕ, ◌+◌, ◌<◌, Bool, true, false, true≢false, not, ◌||◌, List, [], ◌∷◌, ◌++◌, length, length-append, get_or, take, refl, sym, ap, ◌∙◌, inl, inr, subst, if◌then◌else◌}
use Rattle.std.specs.List.{AllPairs, Contains}
use Rattle.std.proofs.Math.Bool.{or-false, or-true, or_assoc}
use Rattle.std.proofs.lemmas.Bool.{cases_Bool}
use Rattle.std.proofs.lemmas.List.Folds.{list_any-append, list_any_at, Any-from_list_any}
use Rattle.std.proofs.lemmas.List.Quantifiers.{all_pairs_push}
use Rattle.std.proofs.lemmas.List.{map-append, take_more}
use Rattle.bac_values.specs.Address.{PeerData}
use Rattle.bac_values.specs.Orders.{IsAscending, is_among, is_same}
use Rattle.bac_values.proofs.OrderLemmas.{below_is_other, peers_are_total, same_is_equivalence, tied}
use Rattle.notify_class.specs.Edits.{known_with, recipient_peers, IsUnion}
use Rattle.notify_class.specs.Recipients.{DestinationData}

-- what is among a list, and what is one of its elements
pub among_contained : (peers : List PeerData) (peer : PeerData) → Contains peers peer → is_among peers peer ≡ true
among_contained peers peer h = list_any_at (λ other. is_same other peer) peers h.0 peer h.1 (ap (λ other. is_same other peer) h.2 ∙ same_is_equivalence.refl peer)

pub contained_among : (peers : List PeerData) (peer : PeerData) → is_among peers peer ≡ true → Contains peers peer
contained_among peers peer h =
    let found = Any-from_list_any (λ other. is_same other peer) peers h in
    let same : found.1 ≡ peer = tied found.1 peer found.4 in
    subst (Contains peers) same (found.0, found.2, found.3)

module _ (known : List PeerData) (peer : PeerData) (peers : List PeerData) where
  passed : is_among known peer ≡ true → known_with known (peer ∷ peers) ≡ known_with known peers
  passed h = rw h refl

  added : is_among known peer ≡ false → known_with known (peer ∷ peers) ≡ known_with (known ++ peer ∷ []) peers
  added h = rw h refl

one_more : (known : List PeerData) (peer other : PeerData) → is_among (known ++ peer ∷ []) other ≡ (is_among known other || is_same peer other)
one_more known peer other = list_any-append (λ it. is_same it other) known (peer ∷ []) ∙ ap (λ b. is_among known other || b) (or-false (is_same peer other))

absorb : (a b c : Bool) → (b ≡ true → a ≡ true) → (a || c) ≡ (a || (b || c))
absorb true b c h = refl
absorb false false c h = refl
absorb false true c h = absurd (true≢false (sym (h refl)))

-- one of them is known or among the others
pub among_both : (known peers : List PeerData) (other : PeerData) → is_among (known_with known peers) other ≡ (is_among known other || is_among peers other)
among_both known [] other = sym (or-false (is_among known other))
among_both known (peer ∷ peers) other = elim (cases_Bool (is_among known peer)) [
  | inl there ↦
      ap (λ together. is_among together other) (passed known peer peers there)
      ∙ (among_both known peers other
      ∙ absorb (is_among known other) (is_same peer other) (is_among peers other) (λ same. ap (is_among known) (sym (tied peer other same)) ∙ there))
  | inr new ↦
      ap (λ together. is_among together other) (added known peer peers new)
      ∙ (among_both (known ++ peer ∷ []) peers other
      ∙ (ap (λ b. b || is_among peers other) (one_more known peer other)
      ∙ or_assoc (is_among known other) (is_same peer other) (is_among peers other)))
]

-- the peers with one more, unless it is there
abbrev pub with_one : List PeerData → PeerData → List PeerData
with_one peers peer = if is_among peers peer then peers else peers ++ peer ∷ []

with_last : (known peers : List PeerData) (peer : PeerData) → known_with known (peers ++ peer ∷ []) ≡ with_one (known_with known peers) peer
with_last known [] peer = refl
with_last known (first ∷ peers) peer = elim (cases_Bool (is_among known first)) [
  | inl there ↦ passed known first (peers ++ peer ∷ []) there ∙ (with_last known peers peer ∙ ap (λ together. with_one together peer) (sym (passed known first peers there)))
  | inr new ↦ added known first (peers ++ peer ∷ []) new ∙ (with_last (known ++ first ∷ []) peers peer ∙ ap (λ together. with_one together peer) (sym (added known first peers new)))
]

-- the peers of one more recipient
grown : (known : List PeerData) (recipients : List DestinationData) (place : ℕ) (recipient : DestinationData) → place < length recipients → recipient ≡ get_or recipients place recipient → known_with known (recipient_peers (take (place + 1) recipients)) ≡ with_one (known_with known (recipient_peers (take place recipients))) recipient.peer
grown known recipients place recipient within is =
    let longer : take (place + 1) recipients ≡ take place recipients ++ recipient ∷ [] = take_more recipients place recipient within ∙ ap (λ it. take place recipients ++ it ∷ []) (sym is) in
    let peers : recipient_peers (take (place + 1) recipients) ≡ recipient_peers (take place recipients) ++ recipient.peer ∷ [] = ap recipient_peers longer ∙ map-append (λ (it : DestinationData). it.peer) (take place recipients) (recipient ∷ []) in
    ap (known_with known) peers ∙ with_last known (recipient_peers (take place recipients)) recipient.peer

module _ (known : List PeerData) (recipients : List DestinationData) (place : ℕ) (recipient : DestinationData) (within : place < length recipients) (is : recipient ≡ get_or recipients place recipient) where
  abbrev so_far : List PeerData
  so_far = known_with known (recipient_peers (take place recipients))

  pub length-new : true ≡ not (is_among so_far recipient.peer) → length (known_with known (recipient_peers (take (place + 1) recipients))) ≡ length so_far + 1
  length-new new =
      let none : is_among so_far recipient.peer ≡ false = opposite (is_among so_far recipient.peer) new in
      ap length (grown known recipients place recipient within is ∙ rw none refl) ∙ length-append so_far (recipient.peer ∷ [])
    where
      opposite : (b : Bool) → true ≡ not b → b ≡ false
      opposite true h = h
      opposite false h = refl

  pub length-known : false ≡ not (is_among so_far recipient.peer) → length (known_with known (recipient_peers (take (place + 1) recipients))) ≡ length so_far
  length-known there =
      let one : is_among so_far recipient.peer ≡ true = opposite (is_among so_far recipient.peer) there in
      ap length (grown known recipients place recipient within is ∙ rw one refl)
    where
      opposite : (b : Bool) → false ≡ not b → b ≡ true
      opposite true h = refl
      opposite false h = h

-- no peer stands twice
distinct_with : (known peers : List PeerData) → AllPairs (λ earlier later. earlier ≡ later → ⊥) known → AllPairs (λ earlier later. earlier ≡ later → ⊥) (known_with known peers)
distinct_with known [] h = h
distinct_with known (peer ∷ peers) h = elim (cases_Bool (is_among known peer)) [
  | inl there ↦ rw (passed known peer peers there) (distinct_with known peers h)
  | inr new ↦
      let others : (k : ℕ) (d : PeerData) → k < length known → get_or known k d ≡ peer → ⊥ = λ k d within same.
      true≢false (sym (list_any_at (λ other. is_same other peer) known k d within (ap (λ other. is_same other peer) same ∙ same_is_equivalence.refl peer)) ∙ new) in
      rw (added known peer peers new) (distinct_with (known ++ peer ∷ []) peers (all_pairs_push (λ (earlier later : PeerData). earlier ≡ later → ⊥) known peer h others))
]

one_of_both : (a b : Bool) → (a || b) ≡ true → (a ≡ true) ⊎ (b ≡ true)
one_of_both true b h = inl refl
one_of_both false b h = inr h

-- the known peers with the others are the union of both
pub union_of : (known peers : List PeerData) → IsAscending known → IsUnion known peers (known_with known peers)
union_of known peers ascending = record {
  distinct = distinct_with known peers (λ i j d before within. below_is_other peers_are_total (get_or known i d) (get_or known j d) (ascending i j d before within));
  members = λ peer. (
    λ in_union. elim (one_of_both _ _ (sym (among_both known peers peer) ∙ among_contained (known_with known peers) peer in_union)) [
      | inl in_known ↦ inl (contained_among known peer in_known)
      | inr in_others ↦ inr (contained_among peers peer in_others)
    ],
    λ in_either. contained_among (known_with known peers) peer (among_both known peers peer ∙ elim in_either [
      | inl in_known ↦ rw (among_contained known peer in_known) refl
      | inr in_others ↦ rw (among_contained peers peer in_others) (or-true (is_among known peer))
    ]),
  );
}
