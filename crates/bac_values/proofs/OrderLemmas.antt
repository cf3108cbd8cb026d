-- What follows of the orders of identifiers and of peers: both are total, and peers that compare as equal are one.
use Rattle.std.proofs.Common.{arith, ◌≡◌, ◌≤◌, true, refl, sym, subst, ap, ◌∙◌}
use Rattle.std.specs.Cmp.{IsTotalOrder, IsEquivalence}
use Rattle.std.specs.Ordering.{eq_by_cmp, is_eq, ordering_index}
use Rattle.std.specs.declared.cmp.Ordering.{Ordering}
use Rattle.std.specs.declared.cmp.Ordering.TheVariants.{Less, Equal, Greater}
use Rattle.std.proofs.lemmas.Cmp.{alike_right, tied_itself}
use Rattle.bac_values.specs.Address.{PeerData}
use Rattle.bac_values.specs.Orders.{identifier_order, peer_order, is_same}
use Rattle.bac_values.specs.contracts.object_id.ObjectIdOrd.TheImpl.Laws as object_laws
use Rattle.bac_values.specs.contracts.peer.PeerOrd.TheImpl.Laws as order_laws
use Rattle.bac_values.specs.contracts.peer.PeerEq.TheImpl.Laws as equality_laws
use Rattle.bac_values.proofs.Orders.{peers, compared, one}

pub identifiers_are_total : IsTotalOrder identifier_order
identifiers_are_total = object_laws.total-law

pub peers_are_total : IsTotalOrder peer_order
peers_are_total = subst IsTotalOrder (λ i first second. peers first second i) order_laws.total-law

pub same_is_equivalence : IsEquivalence is_same
same_is_equivalence = subst IsEquivalence (λ i first second. compared first second i) equality_laws.laws-law

-- peers that are the same are equal
pub tied : (a b : PeerData) → is_same a b ≡ true → a ≡ b
tied a b = (one a b).0

pub same_by_order : (a b : PeerData) → is_same a b ≡ eq_by_cmp peer_order a b
same_by_order a b = sym (compared a b) ∙ (order_laws.matches_eq-law a b ∙ ap is_eq (peers a b))

at_most_two : (o : Ordering) → ordering_index o ≤ 2
at_most_two Less = omega arith
at_most_two Equal = omega arith
at_most_two Greater = omega arith

module _ {K : Type 0} {R : K → K → Ordering} (total : IsTotalOrder R) where
  -- where a is below b, it stands no further up against any other
  pub rises : (a b other : K) → R a b ≡ Less → ordering_index (R a other) ≤ ordering_index (R b other)
  rises a b other below = by_answer (R b other) refl
    where
      by_answer : (o : Ordering) → R b other ≡ o → ordering_index (R a other) ≤ ordering_index (R b other)
      by_answer Less e = rw (total.trans a b other below e, e) (omega arith)
      by_answer Equal e = rw (sym (alike_right total b other a e) ∙ below, e) (omega arith)
      by_answer Greater e = rw e (at_most_two (R a other))

  -- what is below is another
  pub below_is_other : (a b : K) → R a b ≡ Less → a ≡ b → ⊥
  below_is_other a b below same = not_both (sym (tied_itself total a) ∙ (ap (R a) same ∙ below))
    where
      not_both : Equal ≡ Less → ⊥
      not_both e = cc
