-- Elements whose peers ascend: where the one of a peer stands, or would stand.
use Rattle.std.proofs.Common.{arith, ◌≡◌, ℕ, zero, suc, ◌<◌, ◌≤◌, Bool, true, false, List, [], ◌∷◌, ◌++◌, length, take, drop, filter, get_or, Result, Ok, Err, refl, sym, ap, ◌∙◌, inl, inr, subst}
use Rattle.std.specs.Prelude.{MatchResult}
use Rattle.std.specs.List.{AllPairs, AllWithin, insert}
use Rattle.std.specs.List.Sorted.{IsBinarySearchResult, IsSearchInRange}
use Rattle.std.specs.Ordering.{is_eq, is_lt, ordering_index, ordering_reverse}
use Rattle.std.specs.declared.cmp.Ordering.{Ordering}
use Rattle.std.specs.declared.cmp.Ordering.TheVariants.{Less, Greater}
use Rattle.std.proofs.lemmas.Bool.{cases_lt}
use Rattle.std.proofs.lemmas.Bool.Decides.{leb_tells}
use Rattle.bac_values.specs.Address.{PeerData}
use Rattle.bac_values.specs.Orders.{peer_order, is_same}
use Rattle.bac_values.specs.contracts.peer.PeerOrd.TheImpl as peer_ord
use Rattle.bac_values.proofs.Orders.{peers}
use Rattle.bac_values.proofs.OrderLemmas.{peers_are_total, same_by_order, tied, rises, same_is_equivalence}

no_more : (m n : ℕ) → m ≡ n → m ≤ n
no_more m n e = omega arith

pub turned : (a b : PeerData) (o : Ordering) → peer_order a b ≡ o → peer_order b a ≡ ordering_reverse o
turned a b o e = peers_are_total.antisymm b a ∙ ap ordering_reverse e

module _ {X : Type 0} (peer_of : X → PeerData) (peer : PeerData) where
  abbrev pub is_below : X → Bool
  is_below it = is_lt (peer_order (peer_of it) peer)

  abbrev pub is_above : X → Bool
  is_above it = is_lt (peer_order peer (peer_of it))

  -- the one of the peer stands at the place
  abbrev pub StandsAt : List X → ℕ → Type 0
  StandsAt items place = (place < length items) × ((d : X) → peer_of (get_or items place d) ≡ peer)

  -- none is the peer's; those below it stand before the place, and those above it from there on
  abbrev pub IsGap : List X → ℕ → Type 0
  IsGap items place = (place ≤ length items)
      × AllWithin (λ it. peer_order (peer_of it) peer ≡ Less) items 0 place
      × AllWithin (λ it. peer_order (peer_of it) peer ≡ Greater) items place (length items)

  -- what a binary search says
  pub searched : (items : List X) (answer : Result ℕ ℕ) → AllPairs (λ a b. peer_order (peer_of a) (peer_of b) ≡ Less) items → IsSearchInRange answer (length items) →
      IsBinarySearchResult (λ it. (peer_ord.ghosts).cmp (peer_of it) peer) items answer → MatchResult answer (StandsAt items) (IsGap items)
  searched items answer ascending within found = by_answer answer within (subst (λ order. IsBinarySearchResult order items answer) (λ i it. peers (peer_of it) peer i) found)
    where
      by_answer : (answer : Result ℕ ℕ) → IsSearchInRange answer (length items) → IsBinarySearchResult (λ it. peer_order (peer_of it) peer) items answer → MatchResult answer (StandsAt items) (IsGap items)
      by_answer (Ok k) within found = (within, λ d. tied (peer_of (get_or items k d)) peer (same_by_order (peer_of (get_or items k d)) peer ∙ ap is_eq (found d)))
      by_answer (Err k) within found =
          let point = found (λ i j d low high. elim (leb_tells (suc i) j) [
            | inl before ↦ rises peers_are_total (peer_of (get_or items i d)) (peer_of (get_or items j d)) peer (ascending i j d before.1 high)
            | inr same ↦ let after = same.1 in let e : i ≡ j = omega arith in no_more _ _ (ap (λ n. ordering_index (peer_order (peer_of (get_or items n d)) peer)) e)
          ]) in
          (within, point.0, point.1)

  pub here : (items : List X) (k : ℕ) → StandsAt items k → (d : X) → is_same (peer_of (get_or items k d)) peer ≡ true
  here items k place d = ap (λ other. is_same other peer) (place.1 d) ∙ same_is_equivalence.refl peer

  -- none is the peer's
  pub nowhere : (items : List X) (k : ℕ) → IsGap items k → (j : ℕ) (d : X) → j < length items → is_same (peer_of (get_or items j d)) peer ≡ false
  nowhere items k gap j d within = elim (cases_lt j k) [
    | inl before ↦ same_by_order (peer_of (get_or items j d)) peer ∙ ap is_eq (gap.1 j d (omega arith) before)
    | inr after ↦ same_by_order (peer_of (get_or items j d)) peer ∙ ap is_eq (gap.2 j d after within)
  ]

  gap_next : (it : X) (items : List X) (place : ℕ) → IsGap (it ∷ items) (suc place) → IsGap items place
  gap_next it items place gap = (omega (arith, gap.0), λ i d low high. gap.1 (suc i) d (omega arith) (omega (arith, high)), λ i d low high. gap.2 (suc i) d (omega (arith, low)) (omega (arith, high)))

  gap_first : (it : X) (items : List X) → IsGap (it ∷ items) 0 → IsGap items 0
  gap_first it items gap = (omega arith, λ i d low high. absurd (omega (arith, high)), λ i d low high. gap.2 (suc i) d (omega arith) (omega (arith, high)))

  -- those before a gap are those below the peer, and those behind it those above
  pub below_gap : (items : List X) (place : ℕ) → IsGap items place → filter is_below items ≡ take place items
  below_gap [] zero gap = refl
  below_gap [] (suc place) gap = refl
  below_gap (it ∷ items) zero gap =
      let e : is_below it ≡ false = ap is_lt (gap.2 0 it (omega arith) (omega arith)) in
      rw e (below_gap items 0 (gap_first it items gap))
  below_gap (it ∷ items) (suc place) gap =
      let e : is_below it ≡ true = ap is_lt (gap.1 0 it (omega arith) (omega arith)) in
      rw e (ap (λ rest. it ∷ rest) (below_gap items place (gap_next it items place gap)))

  pub above_gap : (items : List X) (place : ℕ) → IsGap items place → filter is_above items ≡ drop place items
  above_gap [] zero gap = refl
  above_gap [] (suc place) gap = refl
  above_gap (it ∷ items) zero gap =
      let e : is_above it ≡ true = ap is_lt (turned (peer_of it) peer Greater (gap.2 0 it (omega arith) (omega arith))) in
      rw e (ap (λ rest. it ∷ rest) (above_gap items 0 (gap_first it items gap)))
  above_gap (it ∷ items) (suc place) gap =
      let e : is_above it ≡ false = ap is_lt (turned (peer_of it) peer Less (gap.1 0 it (omega arith) (omega arith))) in
      rw e (above_gap items place (gap_next it items place gap))

  -- an element is put in at a gap
  pub inserted : (items : List X) (place : ℕ) (new : X) → IsGap items place → insert items place new ≡ filter is_below items ++ new ∷ filter is_above items
  inserted items place new gap = λ k. sym (below_gap items place gap) k ++ new ∷ sym (above_gap items place gap) k
