-- What a search by halving says of a list that ascends, by numbers or by identifiers.
use Rattle.std.proofs.Common.{Bor, arith, ◌≡◌, ◌≢◌, ◌==◌, ◌&&◌, ◌||◌, [], ◌∷◌, ℕ, zero, suc, if◌then◌else◌, set, ◌<◌, ◌≤◌, Bool, true, false, Option, Some, None, Result, Ok, Err, get_or, List, length, refl, sym, ap, ◌∙◌, inl, inr, IfOk, OnErr, map}
use Rattle.std.specs.Cmp.{IsTotalOrder}
use Rattle.std.specs.List.{AllPairs, find, list_any}
use Rattle.std.specs.List.Sorted.{IsBinarySearchResult, IsNonDecreasing, IsSearchInRange}
use Rattle.std.specs.Ordering.{nat_cmp, ordering_index, ordering_reverse}
use Rattle.std.specs.Result.{is_ok}
use Rattle.std.specs.Option.{is_some, option_copied}
use Rattle.std.specs.declared.cmp.Ordering.{Ordering}
use Rattle.std.specs.declared.cmp.Ordering.TheVariants.{Less, Equal, Greater}
use Rattle.std.proofs.lemmas.Bool.Decides.{leb_tells, nat_tests}
use Rattle.std.proofs.lemmas.Cmp.{alike_right, nat_cmp_total}
use Rattle.std.proofs.lemmas.List.Folds.{list_any_at, list_any_none}
use Rattle.bac_values.specs.Identifier.{ObjectIdData}
use Rattle.bac_values.specs.Orders.{identifier_order}
use Rattle.bac_values.proofs.OrderLemmas.{identifiers_are_total, rises}
use Rattle.object_table.specs.Rows.{is_object}
use Rattle.object_table.proofs.Order.{equal_is_object, less_is_other, greater_is_other}
use Rattle.object_table.proofs.Places.{find_at, find_none}
use Rattle.alarm_core.specs.Places.{IsAt}
use Rattle.alarm_core.proofs.Places.{map_pairs}

-- where the one that is wanted stands, if it does
pub record Halved {X : Type 0} (test : X → Bool) (xs : List X) (answer : Result ℕ ℕ) : Type 0 where
  pub found : IfOk answer (IsAt test xs)
  pub absent : OnErr answer (find test xs ≡ None)
  pub there : is_ok answer ≡ list_any test xs

-- a test of keys that passes the one that is wanted alone
pub record Tells {K : Type 0} (order : K → K → Ordering) (wanted : K) (test : K → Bool) : Type 0 where
  pub equal : (k : K) → order k wanted ≡ Equal → test k ≡ true
  pub less : (k : K) → order k wanted ≡ Less → test k ≡ false
  pub greater : (k : K) → order k wanted ≡ Greater → test k ≡ false

no_more : (m n : ℕ) → m ≡ n → m ≤ n
no_more m n e = omega arith

module _ {X K : Type 0} (order : K → K → Ordering) (total : IsTotalOrder order) (key : X → K) (wanted : K) (test : K → Bool) (tells : Tells order wanted test) where
  pub halved : (xs : List X) (answer : Result ℕ ℕ) → AllPairs (λ a b. order (key a) (key b) ≡ Less) xs → IsSearchInRange answer (length xs) → IsBinarySearchResult (λ x. order (key x) wanted) xs answer → Halved (λ x. test (key x)) xs answer
  halved xs (Ok place) ascending within equal = record {
    found = record {
      within = within;
      here = λ d. tells.equal (key (get_or xs place d)) (equal d);
      others = λ k d low other. elim (leb_tells (suc k) place) [
        | inl before ↦ tells.less (key (get_or xs k d)) (same (get_or xs k d) d ∙ ascending k place d before.1 within)
        | inr after ↦ let past = after.1 in tells.greater (key (get_or xs k d)) (same (get_or xs k d) d ∙ turned (key (get_or xs place d)) (key (get_or xs k d)) (ascending place k d (omega arith) low))
      ];
    };
    absent = tt;
    there = sym (any_at xs place within (λ d. tells.equal (key (get_or xs place d)) (equal d)));
  }
    where
      -- what is equal to the one that is wanted stands to any other as that does
      same : (x d : X) → order (key x) wanted ≡ order (key x) (key (get_or xs place d))
      same x d = sym (alike_right total (key (get_or xs place d)) wanted (key x) (equal d))

      turned : (a b : K) → order a b ≡ Less → order b a ≡ Greater
      turned a b less = total.antisymm b a ∙ ap ordering_reverse less

      any_at : (ys : List X) (i : ℕ) → i < length ys → ((d : X) → test (key (get_or ys i d)) ≡ true) → list_any (λ x. test (key x)) ys ≡ true
      any_at (y ∷ ys) i lt here = list_any_at (λ x. test (key x)) (y ∷ ys) i y lt (here y)
      any_at [] i lt here = absurd (omega (arith, lt))
  halved xs (Err place) ascending within parted =
      let point = parted (λ i j d low high. elim (leb_tells (suc i) j) [
        | inl before ↦ rises total (key (get_or xs i d)) (key (get_or xs j d)) wanted (ascending i j d before.1 high)
        | inr same ↦ let after = same.1 in let e : i ≡ j = omega arith in no_more _ _ (ap (λ n. ordering_index (order (key (get_or xs n d)) wanted)) e)
      ]) in
      let nobody : (k : ℕ) (d : X) → k < length xs → test (key (get_or xs k d)) ≡ false = λ k d high. elim (leb_tells (suc k) place) [
        | inl before ↦ tells.less (key (get_or xs k d)) (point.0 k d (omega arith) before.1)
        | inr after ↦ let past = after.1 in tells.greater (key (get_or xs k d)) (point.1 k d (omega arith) high)
      ] in
      record {
        found = tt;
        absent = find_none (λ x. test (key x)) xs nobody;
        there = sym (list_any_none (λ x. test (key x)) xs nobody);
      }

pub tells_number : (number : ℕ) → Tells nat_cmp number (λ n. n == number)
tells_number number = record {
  equal = λ k e. grind (arith, nat_tests);
  less = λ k e. grind (arith, nat_tests);
  greater = λ k e. grind (arith, nat_tests);
}

pub tells_object : (object : ObjectIdData) → Tells identifier_order object (λ id. is_object object id)
tells_object object = record {
  equal = λ id e. equal_is_object id object e;
  less = λ id e. less_is_other id object e;
  greater = λ id e. greater_is_other id object e;
}

-- ---- numbers that don't fall

step_up : (a b n : ℕ) → a ≤ b → ordering_index (nat_cmp a n) ≤ ordering_index (nat_cmp b n)
step_up a b n le = grind (arith, nat_tests)

-- whether a number is among them
pub among : (number : ℕ) (xs : List ℕ) (answer : Result ℕ ℕ) → IsNonDecreasing xs → IsSearchInRange answer (length xs) → IsBinarySearchResult (λ x. nat_cmp x number) xs answer → is_ok answer ≡ list_any (λ x. x == number) xs
among number xs (Ok place) ascending within equal = sym (list_any_at (λ x. x == number) xs place 0 within ((tells_number number).equal (get_or xs place 0) (equal 0)))
among number xs (Err place) ascending within parted =
    let tells = tells_number number in
    let point = parted (λ i j d low high. step_up (get_or xs i d) (get_or xs j d) number (ascending i j d low high)) in
    sym (list_any_none (λ x. x == number) xs (λ k d high. elim (leb_tells (suc k) place) [
      | inl before ↦ tells.less (get_or xs k d) (point.0 k d (omega arith) before.1)
      | inr after ↦ let past = after.1 in tells.greater (get_or xs k d) (point.1 k d (omega arith) high)
    ]))

-- ---- items that ascend by a number

below_is_less : (a b : ℕ) → a < b → nat_cmp a b ≡ Less
below_is_less a b lt = grind (arith, nat_tests)

pub ascend_by_number : {X : Type 0} (key : X → ℕ) (xs : List X) → AllPairs (λ earlier later. earlier < later) (map key xs) → AllPairs (λ a b. nat_cmp (key a) (key b) ≡ Less) xs
ascend_by_number key xs ascending = λ i j d before within. below_is_less (key (get_or xs i d)) (key (get_or xs j d)) (map_pairs (λ earlier later. earlier < later) key xs ascending i j d before within)

-- ---- what is found, and whether something is

-- the one at the place is found
pub found_there : {X : Type 0} (test : X → Bool) (xs : List X) (place : ℕ) (d : X) → IsAt test xs place → find test xs ≡ Some (get_or xs place d)
found_there test xs place d at = find_at test xs place d at.within (at.here d) (λ k low. at.others k d (omega (arith, at.within)) (λ same. omega arith))

-- a change of those that pass is one at the place
pub unchanged : {X : Type 0} (test : X → Bool) (f : X → X) (xs : List X) → ((k : ℕ) (d : X) → k < length xs → test (get_or xs k d) ≡ false) → map (λ x. if test x then f x else x) xs ≡ xs
unchanged test f [] h = refl
unchanged test f (x ∷ xs) h =
    let first : test x ≡ false = h 0 x (omega arith) in
    let rest = unchanged test f xs (λ k d lt. h (suc k) d (omega arith)) in
    rw (first, rest) refl

later_at : {X : Type 0} (test : X → Bool) (x : X) (xs : List X) (place : ℕ) → IsAt test (x ∷ xs) (suc place) → IsAt test xs place
later_at test x xs place at = record {
  within = omega (arith, at.within);
  here = at.here;
  others = λ k d lt other. at.others (suc k) d (omega arith) (λ same. other (omega arith));
}

pub changed_at : {X : Type 0} (test : X → Bool) (f : X → X) (xs : List X) (place : ℕ) (d : X) → IsAt test xs place → map (λ x. if test x then f x else x) xs ≡ set xs place (f (get_or xs place d))
changed_at test f [] place d at = absurd (omega (arith, at.within))
changed_at test f (x ∷ xs) zero d at =
    let first : test x ≡ true = at.here d in
    let rest = unchanged test f xs (λ k e lt. at.others (suc k) e (omega arith) (λ same. omega arith)) in
    rw (first, rest) refl
changed_at test f (x ∷ xs) (suc place) d at =
    let first : test x ≡ false = at.others 0 x (omega arith) (λ same. omega arith) in
    let rest = changed_at test f xs place d (later_at test x xs place at) in
    rw (first, rest) refl

-- where none is found, none is changed
found_head : {X : Type 0} (b : Bool) (x : X) (rest : Option X) → (if b then Some x else rest) ≡ None → (b ≡ false) × (rest ≡ None)
found_head true x rest e = absurd cc
found_head false x rest e = (refl, e)

pub none_changed : {X : Type 0} (test : X → Bool) (f : X → X) (xs : List X) → find test xs ≡ None → map (λ x. if test x then f x else x) xs ≡ xs
none_changed test f [] none = refl
none_changed test f (x ∷ xs) none =
    let parts = found_head (test x) x (find test xs) none in
    let first : test x ≡ false = parts.0 in
    let rest = none_changed test f xs parts.1 in
    rw (first, rest) refl

found_or_later : {X : Type 0} (b : Bool) (x : X) (rest : Option X) (any : Bool) → is_some rest ≡ any → is_some (if b then Some x else rest) ≡ (b || any)
found_or_later true x rest any e = refl
found_or_later false x rest any e = e

pub found_any : {X : Type 0} (test : X → Bool) (xs : List X) → is_some (find test xs) ≡ list_any test xs
found_any test [] = refl
found_any test (x ∷ xs) = found_or_later (test x) x (find test xs) (list_any test xs) (found_any test xs)

-- what is lent is there as what it points to is
pub some_copied : {X : Type 0} (found : Option (Bor X)) → is_some (option_copied found) ≡ is_some found
some_copied None = refl
some_copied (Some x) = refl

-- a test of two parts, of which the first is the same for all
none_passes : {X : Type 0} (test : X → Bool) (xs : List X) → find (λ x. false && test x) xs ≡ None
none_passes test [] = refl
none_passes test (x ∷ xs) = none_passes test xs

pub never_found : {X : Type 0} (first : Bool) (test : X → Bool) (xs : List X) → first ≡ false → find (λ x. first && test x) xs ≡ None
never_found first test xs e = ap (λ b. find (λ x. b && test x) xs) e ∙ none_passes test xs

pub found_alike : {X : Type 0} (first : Bool) (test : X → Bool) (xs : List X) → first ≡ true → find (λ x. first && test x) xs ≡ find test xs
found_alike first test xs e = ap (λ b. find (λ x. b && test x) xs) e
