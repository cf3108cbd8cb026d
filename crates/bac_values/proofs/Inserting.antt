-- Peers that ascend, with others put in at their places: they still ascend.
use Rattle.std.specs.Prelude.{MatchResult}
use Rattle.std.specs.Result.{IsOk, is_ok}
use Rattle.std.proofs.Common.{arith, ◌≡◌, ℕ, suc, Result, Ok, Err, if◌then◌else◌, Bool, true, false, true≢false, List, [], ◌∷◌, ◌++◌, filter, get_or, refl, sym, subst, inl, inr}
use Rattle.std.specs.List.{All, AllPairs, insert}
use Rattle.std.specs.Ordering.{is_lt}
use Rattle.std.specs.declared.cmp.Ordering.{Ordering}
use Rattle.std.specs.declared.cmp.Ordering.TheVariants.{Less, Equal, Greater}
use Rattle.std.proofs.lemmas.Bool.{cases_Bool}
use Rattle.std.proofs.lemmas.List.Elements.{All-append, All-cons, filter_passes, All-weaker}
use Rattle.std.proofs.lemmas.List.Kept.{AllPairs-cons, AllPairs-filter}
use Rattle.std.proofs.lemmas.List.Folds.{list_any_none, list_any_at}
use Rattle.bac_values.specs.Address.{PeerData}
use Rattle.bac_values.specs.Orders.{peer_order, is_same, is_among, IsAscending, peer_with, peers_with}
use Rattle.bac_values.proofs.OrderLemmas.{peers_are_total}
use Rattle.bac_values.proofs.Placing.{StandsAt, IsGap, here, nowhere, inserted}

abbrev pub itself : PeerData → PeerData
itself peer = peer

abbrev is_below : PeerData → PeerData → Bool
is_below peer other = is_lt (peer_order other peer)

abbrev is_above : PeerData → PeerData → Bool
is_above peer other = is_lt (peer_order peer other)

abbrev Rises : PeerData → PeerData → Type 0
Rises a b = peer_order a b ≡ Less

-- a peer that is among them changes nothing
pub known_same : (peer : PeerData) (known : List PeerData) → is_among known peer ≡ true → peer_with peer known ≡ known
known_same peer known h = rw h refl

pub at_place : (peer : PeerData) (known : List PeerData) (place : ℕ) → StandsAt itself peer known place → known ≡ peer_with peer known
at_place peer known place there = sym (known_same peer known (list_any_at (λ other. is_same other peer) known place peer there.0 (here itself peer known place there peer)))

pub at_gap : (peer : PeerData) (known : List PeerData) (place : ℕ) → IsGap itself peer known place → insert known place peer ≡ peer_with peer known
at_gap peer known place gap =
    let unknown : is_among known peer ≡ false = list_any_none (λ other. is_same other peer) known (λ j d within. nowhere itself peer known place gap j d within) in
    rw unknown (inserted itself peer known place peer gap)

is_less : (o : Ordering) → is_lt o ≡ true → o ≡ Less
is_less Less e = refl
is_less Equal e = absurd (true≢false (sym e))
is_less Greater e = absurd (true≢false (sym e))

all_pairs_append : {X : Type 0} (R : X → X → Type 0) (xs ys : List X) → AllPairs R xs → AllPairs R ys → All (λ x. All (R x) ys) xs → AllPairs R (xs ++ ys)
all_pairs_append R [] ys front back cross = back
all_pairs_append R (x ∷ xs) ys front back cross =
    AllPairs-cons R x (xs ++ ys) (All-append (R x) xs ys (λ k d within. front 0 (suc k) d (omega arith) (omega (arith, within))) (cross 0 x (omega arith)))
    (all_pairs_append R xs ys (λ i j d low within. front (suc i) (suc j) d (omega (arith, low)) (omega (arith, within))) back (λ k d within. cross (suc k) d (omega (arith, within))))

pub ascends_with : (peer : PeerData) (known : List PeerData) → IsAscending known → IsAscending (peer_with peer known)
ascends_with peer known ascending = elim (cases_Bool (is_among known peer)) [
  | inl there ↦ subst IsAscending (sym (known_same peer known there)) ascending
  | inr unknown ↦
      let low = filter (is_below peer) known in
      let high = filter (is_above peer) known in
      let under : All (λ other. is_below peer other ≡ true) low = filter_passes (is_below peer) known in
      let over : All (λ other. is_above peer other ≡ true) high = filter_passes (is_above peer) known in
      let up : All (Rises peer) high = All-weaker (λ other. is_above peer other ≡ true) (Rises peer) (λ other e. is_less (peer_order peer other) e) high over in
      let back : AllPairs Rises (peer ∷ high) = AllPairs-cons Rises peer high up (AllPairs-filter Rises (is_above peer) known ascending) in
      let cross : All (λ other. All (Rises other) (peer ∷ high)) low = All-weaker (λ other. is_below peer other ≡ true) (λ other. All (Rises other) (peer ∷ high))
      (λ other e. let down = is_less (peer_order other peer) e in All-cons (Rises other) peer high down (λ k d within. peers_are_total.trans other peer (get_or high k d) down (up k d within))) low under in
      let whole : AllPairs Rises (low ++ peer ∷ high) = all_pairs_append Rises low (peer ∷ high) (AllPairs-filter Rises (is_below peer) known ascending) back cross in
      rw unknown whole
]

pub ascends_with_all : (others known : List PeerData) → IsAscending known → IsAscending (peers_with others known)
ascends_with_all [] known ascending = ascending
ascends_with_all (peer ∷ others) known ascending = ascends_with_all others (peer_with peer known) (ascends_with peer known ascending)

-- what a binary search finds is among them
pub found_by_search : (known : List PeerData) (peer : PeerData) (answer : Result ℕ ℕ) → MatchResult answer (StandsAt itself peer known) (IsGap itself peer known) → is_ok answer ≡ is_among known peer
found_by_search known peer (Ok k) there = sym (list_any_at (λ other. is_same other peer) known k peer there.0 (here itself peer known k there peer))
found_by_search known peer (Err k) gap = sym (list_any_none (λ other. is_same other peer) known (λ j d within. nowhere itself peer known k gap j d within))

-- what succeeds is made
pub made_sure : {T E X : Type 0} (r : Result T E) (a b : X) → IsOk r → (if is_ok r then a else b) ≡ a
made_sure (Ok x) a b sure = refl
made_sure (Err x) a b sure = absurd (true≢false (sym sure))
