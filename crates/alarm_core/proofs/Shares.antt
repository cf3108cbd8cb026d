-- What all objects give to the recipients of their classes is within the sum of the classes' shares, also of classes of which one is edited.
use Rattle.std.proofs.Common.{◌≡◌, ℕ, ◌+◌, ◌*◌, ◌≤◌, ◌<◌, suc, ◌==◌, Bool, true, false, cond, not, if◌then◌else◌, Option, Some, None, option_and_then, List, [], ◌∷◌, length, map, refl, sym, ap, ◌∙◌, subst, inl, inr, arith}
use Rattle.std.specs.List.{All, AllPairs, count_by, filter, sum_by}
use Rattle.std.proofs.Math.Nat.{add-mul}
use Rattle.std.proofs.lemmas.Bool.{cases_Bool, eqb-true, ne_eqb}
use Rattle.std.proofs.lemmas.Bool.Decides.{nat_tests}
use Rattle.std.proofs.lemmas.List.Elements.{All-head, All-tail}
use Rattle.std.proofs.lemmas.List.Filters.{sum_by-filter_both}
use Rattle.std.proofs.lemmas.List.Sums.{sum_by-cons}
use Rattle.notify_class.specs.Recipients.{DestinationData}
use Rattle.notify_class.specs.declared.class.Class.{Class}
use Rattle.enrollment.specs.declared.subject.Subject.{Subject}
use Rattle.alarm_core.specs.Classes.{class_in, edited, is_member}
use Rattle.alarm_core.specs.ListLimits.{instances}

-- ---- sums

pub sum_within : {X : Type 0} (f g : X → ℕ) (xs : List X) → All (λ x. f x ≤ g x) xs → sum_by f xs ≤ sum_by g xs
sum_within f g [] h = omega arith
sum_within f g (x ∷ xs) h =
    let head : f x ≤ g x = All-head (λ y. f y ≤ g y) x xs h in
    let tail = sum_within f g xs (All-tail (λ y. f y ≤ g y) x xs h) in
    omega (arith, head, tail, sum_by-cons f x xs, sum_by-cons g x xs)

pub sum_of_some : {X : Type 0} (f : X → ℕ) (test : X → Bool) (xs : List X) → sum_by f (filter test xs) ≤ sum_by f xs
sum_of_some f test xs = omega (arith, sum_by-filter_both test (λ x. not (test x)) (λ x. refl) f xs)

-- ---- one object after the other, or one class after the other

-- how many recipients a class has, if there is one
abbrev pub recipients_in : Option Class → ℕ
recipients_in None = 0
recipients_in (Some class) = length class.destinations

-- to how many recipients one transition of an object goes at most
abbrev pub weight : List Class → Subject → ℕ
weight classes subject = recipients_in (option_and_then (λ number. class_in number classes) subject.class)

-- how many objects have a class
abbrev pub members_in : List Subject → ℕ → ℕ
members_in subjects number = count_by (λ (subject : Subject). is_member subject.class number) subjects

weight_by : (same : Bool) (class : Class) (rest : Option Class) → recipients_in (cond same (Some class) rest) ≤ cond same 1 0 * length class.destinations + recipients_in rest
weight_by true class rest = omega arith
weight_by false class rest = omega arith

same_either_way : (m n : ℕ) → (m == n) ≡ (n == m)
same_either_way m n = grind (arith, nat_tests)

weight_with : (class : Class) (classes : List Class) (number : Option ℕ) →
    recipients_in (option_and_then (λ n. class_in n (class ∷ classes)) number)
    ≤ cond (is_member number class.instance) 1 0 * length class.destinations + recipients_in (option_and_then (λ n. class_in n classes) number)
weight_with class classes None = omega arith
weight_with class classes (Some n) =
    subst (λ b. recipients_in (cond (class.instance == n) (Some class) (class_in n classes)) ≤ cond b 1 0 * length class.destinations + recipients_in (class_in n classes))
    (same_either_way class.instance n) (weight_by (class.instance == n) class (class_in n classes))

-- the objects of one class, and those of the others
one_class : (class : Class) (classes : List Class) (subjects : List Subject) →
    sum_by (weight (class ∷ classes)) subjects ≤ members_in subjects class.instance * length class.destinations + sum_by (weight classes) subjects
one_class class classes [] = omega arith
one_class class classes (subject ∷ subjects) =
    let count = length class.destinations in
    let mine = cond (is_member subject.class class.instance) 1 0 in
    let head : weight (class ∷ classes) subject ≤ mine * count + weight classes subject = weight_with class classes subject.class in
    let members : members_in (subject ∷ subjects) class.instance ≡ mine + members_in subjects class.instance = sum_by-cons (λ (s : Subject). cond (is_member s.class class.instance) 1 0) subject subjects in
    let product : members_in (subject ∷ subjects) class.instance * count ≡ mine * count + members_in subjects class.instance * count =
    ap (λ n. n * count) members ∙ add-mul mine (members_in subjects class.instance) count in
    omega (arith, head, product, one_class class classes subjects, sum_by-cons (weight (class ∷ classes)) subject subjects, sum_by-cons (weight classes) subject subjects)

classless : (number : Option ℕ) → recipients_in (option_and_then (λ n. class_in n []) number) ≡ 0
classless None = refl
classless (Some n) = refl

no_class : (subjects : List Subject) → sum_by (weight []) subjects ≡ 0
no_class [] = refl
no_class (subject ∷ subjects) = let head : weight [] subject ≡ 0 = classless subject.class in omega (arith, head, no_class subjects, sum_by-cons (weight []) subject subjects)

pub by_class : (classes : List Class) (subjects : List Subject) → sum_by (weight classes) subjects ≤ sum_by (λ (class : Class). members_in subjects class.instance * length class.destinations) classes
by_class [] subjects = omega (arith, no_class subjects)
by_class (class ∷ classes) subjects =
    omega (arith, one_class class classes subjects, by_class classes subjects, sum_by-cons (λ (c : Class). members_in subjects c.instance * length c.destinations) class classes)

-- ---- an edit of one class

abbrev pub IsBelow : ℕ → ℕ → Type 0
IsBelow earlier later = earlier < later

module _ (members : ℕ → ℕ) (number : ℕ) (recipients : List DestinationData) where
  share : Class → ℕ
  share class = members class.instance * length class.destinations

  is_other : Class → Bool
  is_other class = not (class.instance == number)

  -- the classes but for the edited one
  others : List Class → ℕ
  others classes = sum_by share (filter is_other classes)

  after_edit : List Class → ℕ
  after_edit classes = sum_by share (map (edited number recipients) classes)

  other_first : (class : Class) (classes : List Class) → (class.instance == number) ≡ false →
      (after_edit (class ∷ classes) ≡ share class + after_edit classes) × (others (class ∷ classes) ≡ share class + others classes)
  unfolding is_other others after_edit
  other_first class classes e = (
    sum_by-cons share (edited number recipients class) (map (edited number recipients) classes)
        ∙ ap (λ b. share (if b then record class { destinations = recipients } else class) + after_edit classes) e,
    ap (λ b. sum_by share (cond (not b) (class ∷ filter is_other classes) (filter is_other classes))) e ∙ sum_by-cons share class (filter is_other classes),
  )

  none_edited : (classes : List Class) → All (IsBelow number) (instances classes) → after_edit classes ≡ others classes
  unfolding others after_edit
  none_edited [] h = refl
  none_edited (class ∷ classes) h =
      let above : number < class.instance = All-head (IsBelow number) class.instance (instances classes) h in
      let first = other_first class classes (ne_eqb class.instance number (λ e. omega (arith, e, above))) in
      first.0 ∙ (ap (λ n. share class + n) (none_edited classes (All-tail (IsBelow number) class.instance (instances classes) h)) ∙ sym first.1)

  edited_first : (class : Class) (classes : List Class) → (class.instance == number) ≡ true →
      (after_edit (class ∷ classes) ≡ members number * length recipients + after_edit classes) × (others (class ∷ classes) ≡ others classes)
  unfolding is_other others after_edit share
  edited_first class classes e = (
    sum_by-cons share (edited number recipients class) (map (edited number recipients) classes)
        ∙ (ap (λ b. share (if b then record class { destinations = recipients } else class) + after_edit classes) e
        ∙ ap (λ n. members n * length recipients + after_edit classes) (eqb-true class.instance number e)),
    ap (λ b. sum_by share (cond (not b) (class ∷ filter is_other classes) (filter is_other classes))) e,
  )

  edited_within : (classes : List Class) → AllPairs IsBelow (instances classes) → after_edit classes ≤ members number * length recipients + others classes
  unfolding others after_edit
  edited_within [] h = omega arith
  edited_within (class ∷ classes) h =
      let tail : AllPairs IsBelow (instances classes) = λ i j d before within. h (suc i) (suc j) d (omega (arith, before)) (omega (arith, within)) in
      elim (cases_Bool (class.instance == number)) [
        | inl e ↦
            let first = edited_first class classes e in
            let above : All (IsBelow number) (instances classes) =
            subst (λ n. All (IsBelow n) (instances classes)) (eqb-true class.instance number e) (λ k d within. h 0 (suc k) d (omega arith) (omega (arith, within))) in
            omega (arith, first.0, first.1, none_edited classes above)
        | inr e ↦ let first = other_first class classes e in omega (arith, first.0, first.1, edited_within classes tail)
      ]

  pub edit_within : (classes : List Class) → AllPairs IsBelow (instances classes) →
      sum_by (λ (class : Class). members class.instance * length class.destinations) (map (edited number recipients) classes)
      ≤ members number * length recipients + sum_by (λ (class : Class). members class.instance * length class.destinations) (filter (λ (class : Class). not (class.instance == number)) classes)
  unfolding share is_other others after_edit
  edit_within classes h = edited_within classes h
