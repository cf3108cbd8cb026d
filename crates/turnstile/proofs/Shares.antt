-- What becomes of a pass's share when passes are split off and joined.
use Rattle.std.proofs.Common.{◌≡◌, ◌+◌, ◌∷◌, ◌++◌, sym, ap, arith}
use Rattle.std.specs.Prelude.{◌==◌, if◌then◌else◌}
use Rattle.turnstile.specs.Histories.{times, among}
use Rattle.turnstile.specs.Passes.{Identity, Known, all_calls, first_pass, IsWhole, SameShare, IsNewFrom, Joins}
use Rattle.turnstile.proofs.Counts.{times_append, among_append}

module _ {E O : Type 0} where
  -- a pass that split nothing off and joined nothing has the share that it had
  pub same_share : (p q : Known E O) → q.number ≡ p.number → q.carried ≡ p.carried → q.split_off ≡ p.split_off → SameShare p q
  same_share p q number carried split_off n = λ i. ((if number i == n then 1 else 0) + times n (carried i)) + among n (sym split_off i)

  -- two halves that kept their shares have, joined, the share of what was split
  pub halves_share : (p one two a b r : Known E O) → one ≡ record p { split_off = two.number ∷ p.split_off } → IsNewFrom p two → SameShare one a → SameShare two b → Joins a b r → SameShare p r
  halves_share p one two a b r split new left right joins n =
      let of_a = left n in let of_b = right n in
      let one_calls : times n (all_calls one) ≡ times n (all_calls p) = ap (λ (k : Known E O). times n (all_calls k)) split in
      let one_off : among n one.split_off ≡ (if two.number == n then 1 else 0) + among n p.split_off = ap (λ (k : Known E O). among n k.split_off) split in
      let two_calls : times n (all_calls two) ≡ (if two.number == n then 1 else 0) + 0 = ap (λ (k : Known E O). (if two.number == n then 1 else 0) + times n k.carried) new in
      let two_off : among n two.split_off ≡ 0 = ap (λ (k : Known E O). among n k.split_off) new in
      let calls : times n (all_calls r) ≡ times n (all_calls a ++ all_calls b) = ap (λ (k : Known E O). times n (all_calls k)) joins.same in
      let off : among n r.split_off ≡ among n (a.split_off ++ b.split_off) = ap (λ (k : Known E O). among n k.split_off) joins.same in
      let sum = times_append n (all_calls a) (all_calls b) in let sum' = among_append n a.split_off b.split_off in omega arith

  -- who has the share of the first pass has it all
  pub whole_share : (t : Identity O) (p q : Known E O) → p ≡ first_pass t → SameShare p q → IsWhole q
  whole_share t p q first same n =
      let calls : times n (all_calls p) ≡ (if 0 == n then 1 else 0) + 0 = ap (λ (k : Known E O). times n (all_calls k)) first in
      let off : among n p.split_off ≡ 0 = ap (λ (k : Known E O). among n k.split_off) first in let is = same n in omega arith
