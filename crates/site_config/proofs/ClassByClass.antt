-- A sum over the members of classes, taken class by class.
use Rattle.std.proofs.Common.{◌≡◌, ℕ, ◌+◌, ◌*◌, ◌<◌, ◌≤◌, ◌==◌, suc, cond, List, [], ◌∷◌, refl, sym, ap, ◌∙◌, subst, inl, inr, arith}
use Rattle.std.specs.List.{All, AllPairs, count_by, sum_by}
use Rattle.std.proofs.Math.Nat.{add-mul}
use Rattle.std.proofs.lemmas.Bool.{cases_Bool, eqb-true, ne_eqb}
use Rattle.std.proofs.lemmas.List.Elements.{All-head, All-tail}
use Rattle.std.proofs.lemmas.List.Sums.{sum_by-cons}

-- how many of the members are of a class
abbrev pub times : List ℕ → ℕ → ℕ
times members class = count_by (λ member. member == class) members

module _ (weight : ℕ → ℕ) where
  -- the weight of a class, if this member is of it
  abbrev one : ℕ → ℕ → ℕ
  one member class = cond (member == class) 1 0 * weight class

  -- the weight of a class, for each of its members
  abbrev each : List ℕ → ℕ → ℕ
  each members class = times members class * weight class

  none_above : (member : ℕ) (classes : List ℕ) → All (λ class. member < class) classes → sum_by (one member) classes ≡ 0
  none_above member [] above = refl
  none_above member (class ∷ classes) above =
      let first : member < class = All-head (λ n. member < n) class classes above in
      let other : one member class ≡ 0 * weight class = ap (λ b. cond b 1 0 * weight class) (ne_eqb member class (λ e. omega (arith, e, first))) in
      omega (arith, other, none_above member classes (All-tail (λ n. member < n) class classes above), sum_by-cons (one member) class classes)

  -- of classes that ascend, at most one is that of a member
  at_most_once : (member : ℕ) (classes : List ℕ) → AllPairs (λ earlier later. earlier < later) classes → sum_by (one member) classes ≤ weight member
  at_most_once member [] ascend = omega arith
  at_most_once member (class ∷ classes) ascend =
      let tail : AllPairs (λ earlier later. earlier < later) classes = λ i j d before within. ascend (suc i) (suc j) d (omega (arith, before)) (omega (arith, within)) in
      let above : All (λ n. class < n) classes = λ k d within. ascend 0 (suc k) d (omega arith) (omega (arith, within)) in
      elim (cases_Bool (member == class)) [
        | inl e ↦
            let same : member ≡ class = eqb-true member class e in
            let none = none_above member classes (subst (λ n. All (λ k. n < k) classes) (sym same) above) in
            let head : one member class ≡ 1 * weight class = ap (λ b. cond b 1 0 * weight class) e in
            let own : weight class ≡ weight member = ap weight (sym same) in
            omega (arith, none, head, own, sum_by-cons (one member) class classes)
        | inr e ↦
            let head : one member class ≡ 0 * weight class = ap (λ b. cond b 1 0 * weight class) e in
            omega (arith, head, at_most_once member classes tail, sum_by-cons (one member) class classes)
      ]

  no_members : (classes : List ℕ) → sum_by (each []) classes ≡ 0
  no_members [] = refl
  no_members (class ∷ classes) = let none : each [] class ≡ 0 * weight class = refl in omega (arith, none, no_members classes, sum_by-cons (each []) class classes)

  -- the first member, and the others
  parted : (member : ℕ) (members classes : List ℕ) → sum_by (each (member ∷ members)) classes ≡ sum_by (one member) classes + sum_by (each members) classes
  parted member members [] = omega arith
  parted member members (class ∷ classes) =
      let mine : ℕ = cond (member == class) 1 0 in
      let count : times (member ∷ members) class ≡ mine + times members class = sum_by-cons (λ n. cond (n == class) 1 0) member members in
      let product : each (member ∷ members) class ≡ one member class + each members class = ap (λ n. n * weight class) count ∙ add-mul mine (times members class) (weight class) in
      omega (arith, product, parted member members classes, sum_by-cons (each (member ∷ members)) class classes, sum_by-cons (one member) class classes, sum_by-cons (each members) class classes)

  -- the weights of the classes of all members are no less than each class's weight, as often as it has members
  pub class_by_class : (classes members : List ℕ) → AllPairs (λ earlier later. earlier < later) classes → sum_by (λ class. times members class * weight class) classes ≤ sum_by weight members
  class_by_class classes [] ascend = omega (arith, no_members classes)
  class_by_class classes (member ∷ members) ascend =
      omega (arith, parted member members classes, at_most_once member classes ascend, class_by_class classes members ascend, sum_by-cons weight member members)
