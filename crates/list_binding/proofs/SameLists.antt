-- Destinations that are equal, and lists of them.
use Rattle.std.proofs.Common.{◌≡◌, ◌==◌, ◌&&◌, Bool, true, false, List, [], ◌∷◌, length, refl, ap, subst, arith, ℕ}
use Rattle.std.specs.Bool.{beq}
use Rattle.std.specs.List.{list_all, zip}
use Rattle.std.proofs.lemmas.Bool.{eqb-true}
use Rattle.std.proofs.lemmas.Bool.Decides.{Decides-eqb}
use lib.Pointwise.{pointwise, pointwise_decides}
use Rattle.bac_values.specs.Orders.{is_same}
use Rattle.bac_values.proofs.OrderLemmas.{same_is_equivalence, tied}
use Rattle.notify_class.specs.Recipients.{DestinationData}
use Rattle.list_binding.specs.Edits.{are_same, is_equal}

abbrev One : Type 0
One = DestinationData

both : (a b : Bool) → (a && b) ≡ true → (a ≡ true) × (b ≡ true)
both true b e = (refl, e)
both false b e = absurd cc

together : (a b : Bool) → a ≡ true → b ≡ true → (a && b) ≡ true
together true b e h = h
together false b e h = absurd cc

flag_is : (a b : Bool) → beq a b ≡ true → a ≡ b
flag_is true true e = refl
flag_is true false e = absurd cc
flag_is false true e = absurd cc
flag_is false false e = refl

flag_itself : (a : Bool) → beq a a ≡ true
flag_itself true = refl
flag_itself false = refl

flags_decide : (one other : List Bool) → (pointwise beq one other ≡ true → one ≡ other) × (one ≡ other → pointwise beq one other ≡ true)
flags_decide = pointwise_decides (λ a b. (flag_is a b, λ e. subst (λ c. beq a c ≡ true) e (flag_itself a)))

-- ---- two destinations

parts_are : (one other : One) → is_equal one other ≡ true → one ≡ other
parts_are one other h =
    let halves = both _ _ h in
    let window = both _ _ halves.0 in
    let times = both _ _ window.1 in
    let rest = both _ _ halves.1 in
    let recipient = both _ _ rest.0 in
    let kind = both _ _ rest.1 in
    let days = eqb-true one.days other.days window.0 in
    let from = eqb-true one.from other.from times.0 in
    let to = eqb-true one.to other.to times.1 in
    let peer = tied one.peer other.peer recipient.0 in
    let process = eqb-true one.process other.process recipient.1 in
    let confirmed = flag_is one.confirmed other.confirmed kind.0 in
    let transitions = (flags_decide one.transitions other.transitions).0 kind.1 in
    λ i. record { days = days i; from = from i; to = to i; peer = peer i; process = process i; confirmed = confirmed i; transitions = transitions i }

number_itself : (n : ℕ) → (n == n) ≡ true
number_itself n = (Decides-eqb n n).1 refl

pub equal_itself : (one : One) → is_equal one one ≡ true
equal_itself one =
    together _ _ (together _ _ (number_itself one.days) (together _ _ (number_itself one.from) (number_itself one.to)))
    (together _ _ (together _ _ (same_is_equivalence.refl one.peer) (number_itself one.process)) (together _ _ (flag_itself one.confirmed) ((flags_decide one.transitions one.transitions).1 refl)))

pub equal_decides : (one other : One) → (is_equal one other ≡ true → one ≡ other) × (one ≡ other → is_equal one other ≡ true)
equal_decides one other = (parts_are one other, λ e. subst (λ (o : One). is_equal one o ≡ true) e (equal_itself one))

-- ---- two lists

pub same_decides : (list others : List One) → (are_same list others ≡ true → list ≡ others) × (list ≡ others → are_same list others ≡ true)
same_decides = pointwise_decides equal_decides

-- where they are as long, they are equal pair by pair
pub same_by_pairs : (list others : List One) → length list ≡ length others → list_all (λ pair. is_equal pair.0 pair.1) (zip list others) ≡ are_same list others
same_by_pairs [] [] long = refl
same_by_pairs [] (other ∷ others) long = absurd (omega (arith, long))
same_by_pairs (one ∷ list) [] long = absurd (omega (arith, long))
same_by_pairs (one ∷ list) (other ∷ others) long = ap (λ b. is_equal one other && b) (same_by_pairs list others (omega (arith, long)))
