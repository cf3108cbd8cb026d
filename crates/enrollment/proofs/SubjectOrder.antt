-- The subjects of value objects and enrollments, and those that refer to an object, stand in the order of their identifiers.
use Rattle.std.proofs.Common.{◌≡◌, ℕ, ◌<◌, ◌≤◌, nat_lt, Bool, true, false, true≢false, not, List, [], ◌∷◌, ◌++◌, map, filter, get_or, refl, sym, ap₂, subst, ◌∙◌, suc, arith}
use Rattle.std.specs.List.{All, AllPairs}
use Rattle.std.specs.declared.cmp.Ordering.TheVariants.{Less}
use Rattle.std.proofs.lemmas.List.{map-append}
use Rattle.std.proofs.lemmas.Bool.{ltb-false, ltb-true}
use Rattle.std.proofs.lemmas.Bool.Decides.{nat_tests}
use Rattle.std.proofs.lemmas.List.Elements.{All-append, All-cons, All-filter, All-head, All-map, All-nil, All-tail, All-weaker, filter_passes}
use Rattle.std.proofs.lemmas.List.Kept.{AllPairs-cons, AllPairs-filter}
use Rattle.bac_values.specs.Identifier.{ObjectIdData}
use Rattle.bac_values.specs.Orders.{identifier_order}
use Rattle.object_table.specs.declared.object_site.ObjectSite.{ObjectSite}
use Rattle.object_table.specs.Objects.{IsObject}
use Rattle.object_table.specs.Rows.{Ascends, AscendsById, object_of as identifier_in}
use Rattle.enrollment.specs.declared.enrollment_site.EnrollmentSite.{EnrollmentSite}
use Rattle.enrollment.specs.declared.subject.Subject.{Subject}
use Rattle.enrollment.specs.Enrollments.{AscendById, IsEnrollment, identifier_of}
use Rattle.enrollment.specs.Subjects.{is_before_enrollments, is_behind_enrollments, object_of, subject_of_enrollment, subject_of_object, subjects_of}
use Rattle.enrollment.specs.Watchers.{Referrer, identifier_of_referrer, referrer_of_enrollment, referrer_of_object, referrers_of, refers_to, watchers}
use Rattle.enrollment.proofs.Parted.{is_other_kind}

-- ---- pairs of a list

module _ {X : Type 0} (R : X → X → Type 0) where
  -- of two lists, one behind the other
  joined : (xs ys : List X) → AllPairs R xs → AllPairs R ys → All (λ x. All (R x) ys) xs → AllPairs R (xs ++ ys)
  joined [] ys first second across = second
  joined (x ∷ xs) ys first second across =
      AllPairs-cons R x (xs ++ ys)
      (All-append (R x) xs ys (λ j d low. first 0 (suc j) d (omega arith) (omega (arith, low))) (All-head (λ z. All (R z) ys) x xs across))
      (joined xs ys (λ i j d before low. first (suc i) (suc j) d (omega (arith, before)) (omega (arith, low))) second (All-tail (λ z. All (R z) ys) x xs across))

  -- of the images of a list
  pairs_map : {Y : Type 0} (f : Y → X) (ys : List Y) → AllPairs (λ a b. R (f a) (f b)) ys → AllPairs R (map f ys)
  pairs_map f [] h = λ i j d before low. absurd (omega (arith, low))
  pairs_map f (y ∷ ys) h =
      AllPairs-cons R (f y) (map f ys) (All-map (R (f y)) f ys (λ j d low. h 0 (suc j) d (omega arith) (omega (arith, low))))
      (pairs_map f ys (λ i j d before low. h (suc i) (suc j) d (omega (arith, before)) (omega (arith, low))))

  unmapped : {Y : Type 0} (f : Y → X) (x : X) (ys : List Y) → All (R x) (map f ys) → All (λ y. R x (f y)) ys
  unmapped f x [] h = All-nil (λ y. R x (f y))
  unmapped f x (y ∷ ys) h = All-cons (λ z. R x (f z)) y ys (All-head (R x) (f y) (map f ys) h) (unmapped f x ys (All-tail (R x) (f y) (map f ys) h))

  map_pairs : {Y : Type 0} (f : Y → X) (ys : List Y) → AllPairs R (map f ys) → AllPairs (λ a b. R (f a) (f b)) ys
  map_pairs f [] h = λ i j d before low. absurd (omega (arith, low))
  map_pairs f (y ∷ ys) h =
      AllPairs-cons (λ a b. R (f a) (f b)) y ys (unmapped f (f y) ys (λ j d low. h 0 (suc j) d (omega arith) (omega (arith, low))))
      (map_pairs f ys (λ i j d before low. h (suc i) (suc j) d (omega (arith, before)) (omega (arith, low))))

-- ---- by the numbers of the types

abbrev IsBelow : ObjectIdData → ObjectIdData → Type 0
IsBelow earlier later = identifier_order earlier later ≡ Less

abbrev IsBelowSubject : Subject → Subject → Type 0
IsBelowSubject earlier later = IsBelow earlier.object later.object

less_number : (a b : ObjectIdData) → a.number < b.number → IsBelow a b
less_number a b low = grind (arith, nat_tests)

abbrev AllNumbered : (ℕ → Type 0) → List Subject → Type 0
AllNumbered P subjects = All (λ (subject : Subject). P subject.object.number) subjects

across : (P Q : ℕ → Type 0) → ((m n : ℕ) → P m → Q n → m < n) → (xs ys : List Subject) → AllNumbered P xs → AllNumbered Q ys → All (λ x. All (IsBelowSubject x) ys) xs
across P Q less xs ys ps qs = λ k d low i e high. less_number (get_or xs k d).object (get_or ys i e).object (less (get_or xs k d).object.number (get_or ys i e).object.number (ps k d low) (qs i e high))

is_not : (b : Bool) → not b ≡ true → b ≡ false
is_not true e = absurd (true≢false (sym e))
is_not false e = cc

above_nine : (n : ℕ) → 9 ≤ n → (n ≡ 9 → ⊥) → 9 < n
above_nine n low other = by_tests (nat_lt 9 n) refl
  where
    by_tests : (b : Bool) → nat_lt 9 n ≡ b → 9 < n
    by_tests true e = ltb-true 9 n e
    by_tests false e = let high = ltb-false 9 n e in absurd (other (omega (arith, low, high)))

-- ---- the subjects of both

module _ (objects : List ObjectSite) (enrollments : List EnrollmentSite) (objects_are : AscendsById objects) (objects_allowed : All IsObject objects)
    (enrollments_are : AscendById enrollments) (enrollments_allowed : All IsEnrollment enrollments) where
  before : List Subject
  before = map subject_of_object (filter is_before_enrollments objects)

  between : List Subject
  between = map subject_of_enrollment enrollments

  behind : List Subject
  behind = map subject_of_object (filter is_behind_enrollments objects)

  objects_ascend : (test : ObjectSite → Bool) → AllPairs IsBelowSubject (map subject_of_object (filter test objects))
  objects_ascend test =
      pairs_map IsBelowSubject subject_of_object (filter test objects)
      (AllPairs-filter (λ (a b : ObjectSite). IsBelow a.object b.object) test objects (map_pairs IsBelow identifier_in objects objects_are))

  enrollments_ascend : AllPairs IsBelowSubject between
  unfolding between
  enrollments_ascend = pairs_map IsBelowSubject subject_of_enrollment enrollments (map_pairs IsBelow identifier_of enrollments enrollments_are)

  before_numbers : AllNumbered (λ n. n < 9) before
  unfolding before
  before_numbers =
      let kept = filter is_before_enrollments objects in
      All-map (λ (subject : Subject). subject.object.number < 9) subject_of_object kept (λ k d low. ltb-true _ 9 (filter_passes is_before_enrollments objects k d low))

  between_numbers : AllNumbered (λ n. n ≡ 9) between
  unfolding between
  between_numbers = All-map (λ (subject : Subject). subject.object.number ≡ 9) subject_of_enrollment enrollments (λ k d low. (enrollments_allowed k d low).number)

  behind_numbers : AllNumbered (λ n. 9 < n) behind
  unfolding behind
  behind_numbers =
      let kept = filter is_behind_enrollments objects in
      All-map (λ (subject : Subject). 9 < subject.object.number) subject_of_object kept
      (λ k d low. above_nine _ (ltb-false _ 9 (is_not _ (filter_passes is_behind_enrollments objects k d low)))
      (is_other_kind _ (All-filter is_behind_enrollments IsObject objects objects_allowed k d low)))

  later_numbers : AllNumbered (λ n. 9 ≤ n) (between ++ behind)
  later_numbers =
      let AtLeast : Subject → Type 0 = λ subject. 9 ≤ subject.object.number in
      All-append AtLeast between behind
      (All-weaker (λ (subject : Subject). subject.object.number ≡ 9) AtLeast (λ subject h. omega (arith, h)) between between_numbers)
      (All-weaker (λ (subject : Subject). 9 < subject.object.number) AtLeast (λ subject h. omega (arith, h)) behind behind_numbers)

  subjects_ascend : AllPairs IsBelowSubject (before ++ (between ++ behind))
  unfolding before behind
  subjects_ascend =
      joined IsBelowSubject before (between ++ behind) (objects_ascend is_before_enrollments)
      (joined IsBelowSubject between behind enrollments_ascend (objects_ascend is_behind_enrollments)
      (across (λ n. n ≡ 9) (λ n. 9 < n) (λ m n p q. omega (arith, p, q)) between behind between_numbers behind_numbers))
      (across (λ n. n < 9) (λ n. 9 ≤ n) (λ m n p q. omega (arith, p, q)) before (between ++ behind) before_numbers later_numbers)

  pub ascends : Ascends (map object_of (subjects_of objects enrollments))
  unfolding before between behind
  ascends = pairs_map IsBelow object_of (subjects_of objects enrollments) subjects_ascend

-- ---- those that refer

-- images with the same identifiers
alike : {X Y Z : Type 0} (f : X → Y) (g : X → Z) (i : Y → ObjectIdData) (j : Z → ObjectIdData) → ((x : X) → i (f x) ≡ j (g x)) → (xs : List X) → map i (map f xs) ≡ map j (map g xs)
alike f g i j same [] = refl
alike f g i j same (x ∷ xs) = ap₂ (λ o os. o ∷ os) (same x) (alike f g i j same xs)

-- the referrers of both have the identifiers of the subjects, one after the other
same_identifiers : (objects : List ObjectSite) (enrollments : List EnrollmentSite) → map identifier_of_referrer (referrers_of objects enrollments) ≡ map object_of (subjects_of objects enrollments)
same_identifiers objects enrollments =
    let before : List ObjectSite = filter is_before_enrollments objects in
    let behind : List ObjectSite = filter is_behind_enrollments objects in
    let of_objects : (xs : List ObjectSite) → map identifier_of_referrer (map referrer_of_object xs) ≡ map object_of (map subject_of_object xs) = alike referrer_of_object subject_of_object identifier_of_referrer object_of (λ x. refl) in
    let of_enrollments : map identifier_of_referrer (map referrer_of_enrollment enrollments) ≡ map object_of (map subject_of_enrollment enrollments) = alike referrer_of_enrollment subject_of_enrollment identifier_of_referrer object_of (λ x. refl) enrollments in
    map-append identifier_of_referrer (map referrer_of_object before) (map referrer_of_enrollment enrollments ++ map referrer_of_object behind)
    ∙ (ap₂ (λ xs ys. xs ++ ys) (of_objects before)
    (map-append identifier_of_referrer (map referrer_of_enrollment enrollments) (map referrer_of_object behind)
    ∙ (ap₂ (λ xs ys. xs ++ ys) of_enrollments (of_objects behind)
    ∙ sym (map-append object_of (map subject_of_enrollment enrollments) (map subject_of_object behind))))
    ∙ sym (map-append object_of (map subject_of_object before) (map subject_of_enrollment enrollments ++ map subject_of_object behind)))

pub referrers_ascend : (objects : List ObjectSite) (enrollments : List EnrollmentSite) → AscendsById objects → All IsObject objects → AscendById enrollments → All IsEnrollment enrollments → Ascends (map identifier_of_referrer (referrers_of objects enrollments))
referrers_ascend objects enrollments objects_are objects_allowed enrollments_are enrollments_allowed =
    subst Ascends (sym (same_identifiers objects enrollments)) (ascends objects enrollments objects_are objects_allowed enrollments_are enrollments_allowed)

-- so do those of them that refer to an object
pub watchers_ascend : (object : ObjectIdData) (referrers : List Referrer) → Ascends (map identifier_of_referrer referrers) → Ascends (watchers object referrers)
watchers_ascend object referrers ascending =
    pairs_map IsBelow identifier_of_referrer (filter (refers_to object) referrers)
    (AllPairs-filter (λ (a b : Referrer). IsBelow a.object b.object) (refers_to object) referrers (map_pairs IsBelow identifier_of_referrer referrers ascending))
