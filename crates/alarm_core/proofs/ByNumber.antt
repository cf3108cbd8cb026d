-- What a binary search among elements whose numbers ascend finds.
use Rattle.std.proofs.Common.{arith, ◌≡◌, ℕ, ◌<◌, ◌≤◌, ◌==◌, suc, true, Some, None, Result, Ok, Err, get_or, List, length, map, sym, ap, inl, inr, IfOk, OnErr}
use Rattle.std.specs.List.{AllPairs, find}
use Rattle.std.specs.List.Sorted.{IsBinarySearchResult, IsNonDecreasingBy, IsSearchInRange}
use Rattle.std.specs.Ordering.{nat_cmp, ordering_index}
use Rattle.std.proofs.lemmas.Bool.{ne_eqb}
use Rattle.std.proofs.lemmas.Bool.Decides.{leb_tells, nat_tests}
use Rattle.std.proofs.lemmas.Cmp.{ranked}
use Rattle.std.proofs.lemmas.List.{get_or-map, length-map}
use Rattle.object_table.proofs.Places.{find_at, find_none}

pub record SearchedByNumber {X : Type 0} (number : X → ℕ) (wanted : ℕ) (xs : List X) (answer : Result ℕ ℕ) : Type 0 where
  pub found : IfOk answer (λ place. (place < length xs) × ((d : X) → find (λ x. number x == wanted) xs ≡ Some (get_or xs place d)))
  pub number_is : IfOk answer (λ place. (d : X) → number (get_or xs place d) ≡ wanted)
  pub absent : OnErr answer (find (λ x. number x == wanted) xs ≡ None)

no_more : (m n : ℕ) → m ≡ n → m ≤ n
no_more m n e = omega arith

module _ {X : Type 0} (number : X → ℕ) (wanted : ℕ) (xs : List X) (ascending : AllPairs (λ earlier later. earlier < later) (map number xs)) where
  -- each number is below every later one
  below : (i j : ℕ) (d : X) → i < j → j < length xs → number (get_or xs i d) < number (get_or xs j d)
  below i j d lt high =
      let in_range : j < length (map number xs) = rw (length-map xs number) high in
      let h = ascending i j (number d) lt in_range in
      rw (← get_or-map number xs i d (number d) (omega (arith, lt, high)), ← get_or-map number xs j d (number d) high) h

  -- the comparisons rise along the list, as a binary search asks
  rising : (m n : ℕ) → m < n → ordering_index (nat_cmp m wanted) ≤ ordering_index (nat_cmp n wanted)
  rising m n lt = grind (arith, nat_tests)

  comparisons_rise : IsNonDecreasingBy (λ x. ordering_index (nat_cmp (number x) wanted)) xs
  comparisons_rise i j d le high = elim (leb_tells (suc i) j) [
    | inl before ↦ rising _ _ (below i j d before.1 high)
    | inr same ↦ let after = same.1 in let e : i ≡ j = omega arith in no_more _ _ (ap (λ n. ordering_index (nat_cmp (number (get_or xs n d)) wanted)) e)
  ]

  is_wanted : (n : ℕ) → n ≡ wanted → (n == wanted) ≡ true
  is_wanted n e = grind (arith, nat_tests)

  pub searched : (answer : Result ℕ ℕ) → IsSearchInRange answer (length xs) → IsBinarySearchResult (λ x. nat_cmp (number x) wanted) xs answer → SearchedByNumber number wanted xs answer
  searched (Ok place) within equal =
      let here : (d : X) → number (get_or xs place d) ≡ wanted = λ d. ranked _ wanted _ (sym (equal d)) in
      record {
        found = (within, λ d. find_at (λ x. number x == wanted) xs place d within (is_wanted _ (here d)) (λ k low. ne_eqb _ _ (λ same. let lower = below k place d low within in omega (arith, lower, same, here d))));
        number_is = here;
        absent = tt;
      }
  searched (Err place) within parted =
      let point = parted comparisons_rise in
      record {
        found = tt;
        number_is = tt;
        absent = find_none (λ x. number x == wanted) xs (λ k d high. elim (leb_tells (suc k) place) [
          | inl before ↦ let lower : number (get_or xs k d) < wanted = ranked _ wanted _ (sym (point.0 k d (omega arith) before.1)) in ne_eqb _ _ (λ same. omega (arith, lower, same))
          | inr after ↦ let past = after.1 in let higher : wanted < number (get_or xs k d) = ranked _ wanted _ (sym (point.1 k d (omega arith) high)) in ne_eqb _ _ (λ same. omega (arith, higher, same))
        ]);
      }
