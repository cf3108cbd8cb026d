-- Object_List ascends.
use Rattle.std.proofs.Common.{◌≡◌, ◌⊎◌, inl, inr, ℕ, suc, ◌<◌, Bool, true, false, true≢false, ◌==◌, Option, Some, None, List, [], ◌∷◌, ◌++◌, get_or, map, All, AllPairs, IsTrue, filter, refl, ◌∙◌, sym, subst, arith}
use Rattle.std.specs.Prelude.{⊤}
use Rattle.std.specs.List.{flat_map}
use Rattle.std.specs.declared.cmp.Ordering.TheVariants.{Less}
use Rattle.std.proofs.lemmas.Bool.{eqb-true}
use Rattle.std.proofs.lemmas.Bool.Decides.{nat_tests}
use Rattle.std.proofs.lemmas.List.Elements.{All-append, All-cons, All-head, All-map, All-nil, All-tail, filter_passes}
use Rattle.std.proofs.lemmas.List.Kept.{AllPairs-cons, AllPairs-filter}
use Rattle.std.proofs.lemmas.Simd.{map-map}
use Rattle.bac_values.specs.Identifier.{known_kinds, kind_of, number_of_kind, ObjectIdData}
use Rattle.bac_values.specs.Orders.{identifier_order}
use Rattle.bac_values.specs.declared.object_kind.ObjectKind.{ObjectKind}
use Rattle.bac_values.specs.declared.object_kind.ObjectKind.TheVariants.{BinaryValue, Device, EventEnrollment, NotificationClass, MultiStateValue, EventLog, BitStringValue, CharacterStringValue, IntegerValue, PositiveIntegerValue}
use Rattle.object_table.specs.Properties.{kind_in}
use Rattle.object_table.specs.Rows.{Ascends}
use Rattle.object_table.specs.Values.{is_present_value}
use Rattle.object_table.specs.declared.object_site.ObjectSite.{ObjectSite}
use Rattle.enrollment.specs.Enrollments.{is_value_kind}
use Rattle.enrollment.specs.declared.enrollment_site.EnrollmentSite.{EnrollmentSite}
use Rattle.event_log.specs.declared.log_site.LogSite.{LogSite}
use Rattle.property_values.specs.DeviceProperties.{object_list}
use Rattle.alarm_core.specs.Devices.{class_object, device_object, identifiers_of}
use Rattle.alarm_core.specs.Sites.{IsSite, instance_of}
use Rattle.alarm_core.specs.declared.site.Site.{Site}

-- ---- pairs of lists

pairs_append : {X : Type 0} (R : X → X → Type 0) (xs ys : List X) → AllPairs R xs → AllPairs R ys → All (λ x. All (R x) ys) xs → AllPairs R (xs ++ ys)
pairs_append R [] ys first second across = second
pairs_append R (x ∷ xs) ys first second across =
    let here : All (R x) xs = λ k d within. first 0 (suc k) d (omega arith) (omega (arith, within)) in
    AllPairs-cons R x (xs ++ ys) (All-append (R x) xs ys here (All-head (λ one. All (R one) ys) x xs across))
    (pairs_append R xs ys (λ i j d before within. first (suc i) (suc j) d (omega (arith, before)) (omega (arith, within))) second (All-tail (λ one. All (R one) ys) x xs across))

pairs_map : {X Y : Type 0} (R : Y → Y → Type 0) (f : X → Y) (xs : List X) → AllPairs (λ a b. R (f a) (f b)) xs → AllPairs R (map f xs)
pairs_map R f [] pairs = λ i j d before within. absurd (omega (arith, within))
pairs_map R f (x ∷ xs) pairs =
    let here : All (λ y. R (f x) (f y)) xs = λ k d within. pairs 0 (suc k) d (omega arith) (omega (arith, within)) in
    AllPairs-cons R (f x) (map f xs) (All-map (R (f x)) f xs here)
    (pairs_map R f xs (λ i j d before within. pairs (suc i) (suc j) d (omega (arith, before)) (omega (arith, within))))

-- ---- identifiers of one type

abbrev OfOneType : ObjectIdData → ObjectIdData → Type 0
OfOneType earlier later = earlier.number ≡ later.number → identifier_order earlier later ≡ Less

abbrev HasNumber : (ℕ → Type 0) → ObjectIdData → Type 0
HasNumber P object = P object.number

of_one_type : (objects : List ObjectIdData) → Ascends objects → AllPairs OfOneType objects
of_one_type objects ascend = λ i j d before within same. ascend i j d before within

-- those of lists that have no type in common
apart : (P Q : ℕ → Type 0) (xs ys : List ObjectIdData) → ((n : ℕ) → P n → Q n → ⊥) → All (HasNumber P) xs → All (HasNumber Q) ys → All (λ x. All (OfOneType x) ys) xs
apart P Q xs ys never first second = λ i d within. λ j e inside same. absurd (never _ (subst P same (first i d within)) (second j e inside))

below_by_type : (earlier later : ObjectIdData) → earlier.number < later.number → identifier_order earlier later ≡ Less
below_by_type earlier later below = grind (arith, nat_tests)

below_by_instance : (number first second : ℕ) → first < second → identifier_order (record { number = number; instance = first }) (record { number = number; instance = second }) ≡ Less
below_by_instance number first second below = grind (arith, nat_tests)

-- ---- type by type

abbrev is_of : ObjectKind → ObjectIdData → Bool
is_of kind object = object.number == number_of_kind kind

abbrev block : List ObjectIdData → ObjectKind → List ObjectIdData
block objects kind = filter (is_of kind) objects

abbrev Above : ℕ → ObjectIdData → Type 0
Above number object = number < object.number

abbrev Rise : ℕ → List ObjectKind → Type 0
Rise number [] = ⊤
Rise number (kind ∷ kinds) = (number < number_of_kind kind) × Rise (number_of_kind kind) kinds

of_kind : (objects : List ObjectIdData) (kind : ObjectKind) → All (HasNumber (λ n. n ≡ number_of_kind kind)) (block objects kind)
of_kind objects kind = λ k d within. eqb-true _ _ (filter_passes (is_of kind) objects k d within)

all_above : (objects : List ObjectIdData) (number : ℕ) (kinds : List ObjectKind) → Rise number kinds → All (Above number) (flat_map (block objects) kinds)
all_above objects number [] rise = All-nil (Above number)
all_above objects number (kind ∷ kinds) rise =
    let here : All (Above number) (block objects kind) = λ k d within. let is = of_kind objects kind k d within in let low = rise.0 in omega (arith, is, low) in
    let later = all_above objects (number_of_kind kind) kinds rise.1 in
    let there : All (Above number) (flat_map (block objects) kinds) = λ k d within. let above = later k d within in let low = rise.0 in omega (arith, above, low) in
    All-append (Above number) (block objects kind) (flat_map (block objects) kinds) here there

one_ascends : (objects : List ObjectIdData) → AllPairs OfOneType objects → (kind : ObjectKind) → Ascends (block objects kind)
one_ascends objects pairs kind = λ i j d before within.
    let first = of_kind objects kind i d (omega (arith, before, within)) in
    let second = of_kind objects kind j d within in
    AllPairs-filter OfOneType (is_of kind) objects pairs i j d before within (first ∙ sym second)

blocks_ascend : (objects : List ObjectIdData) → AllPairs OfOneType objects → (number : ℕ) (kinds : List ObjectKind) → Rise number kinds → Ascends (flat_map (block objects) kinds)
blocks_ascend objects pairs number [] rise = λ i j d before within. absurd (omega (arith, within))
blocks_ascend objects pairs number (kind ∷ kinds) rise =
    let above = all_above objects (number_of_kind kind) kinds rise.1 in
    pairs_append (λ earlier later. identifier_order earlier later ≡ Less) (block objects kind) (flat_map (block objects) kinds) (one_ascends objects pairs kind)
    (blocks_ascend objects pairs (number_of_kind kind) kinds rise.1)
    (λ i d within. λ j e inside.
    let is = of_kind objects kind i d within in
    let higher = above j e inside in
    let lower : (get_or (block objects kind) i d).number < (get_or (flat_map (block objects) kinds) j e).number = omega (arith, is, higher) in
    below_by_type (get_or (block objects kind) i d) (get_or (flat_map (block objects) kinds) j e) lower)

rises : Rise 0 known_kinds
rises = (omega arith, (omega arith, (omega arith, (omega arith, (omega arith, (omega arith, (omega arith, (omega arith, (omega arith, (omega arith, tt))))))))))

-- ---- the lists of a site

abbrev IsValueNumber : ℕ → Type 0
IsValueNumber number = IsTrue (is_value_kind (kind_of number))

value_kind : (kind : Option ObjectKind) (site : ObjectSite) → IsTrue (is_present_value kind site site.value) → IsTrue (is_value_kind kind)
value_kind (Some BinaryValue) site is = refl
value_kind (Some MultiStateValue) site is = refl
value_kind (Some BitStringValue) site is = refl
value_kind (Some CharacterStringValue) site is = refl
value_kind (Some IntegerValue) site is = refl
value_kind (Some PositiveIntegerValue) site is = refl
value_kind (Some Device) site is = absurd cc
value_kind (Some EventEnrollment) site is = absurd cc
value_kind (Some NotificationClass) site is = absurd cc
value_kind (Some EventLog) site is = absurd cc
value_kind None site is = absurd cc

-- the types of the logs and the enrollments, with those of the classes, and with those of the value objects
abbrev IsLate : ℕ → Type 0
IsLate number = (number ≡ number_of_kind EventEnrollment) ⊎ (number ≡ number_of_kind EventLog)

abbrev IsLater : ℕ → Type 0
IsLater number = (number ≡ number_of_kind NotificationClass) ⊎ IsLate number

abbrev IsListed : ℕ → Type 0
IsListed number = IsValueNumber number ⊎ IsLater number

enrollment_apart : (n : ℕ) → n ≡ number_of_kind EventEnrollment → n ≡ number_of_kind EventLog → ⊥
enrollment_apart n one other = let a : n ≡ 9 = one in let b : n ≡ 25 = other in omega (arith, a, b)

class_apart : (n : ℕ) → n ≡ number_of_kind NotificationClass → IsLate n → ⊥
class_apart n one (inl other) = let a : n ≡ 15 = one in let b : n ≡ 9 = other in omega (arith, a, b)
class_apart n one (inr other) = let a : n ≡ 15 = one in let b : n ≡ 25 = other in omega (arith, a, b)

value_apart : (n : ℕ) → IsValueNumber n → IsLater n → ⊥
value_apart n is (inl e) = let wrong : false ≡ true = subst IsValueNumber e is in true≢false (sym wrong)
value_apart n is (inr (inl e)) = let wrong : false ≡ true = subst IsValueNumber e is in true≢false (sym wrong)
value_apart n is (inr (inr e)) = let wrong : false ≡ true = subst IsValueNumber e is in true≢false (sym wrong)

device_apart : (n : ℕ) → n ≡ number_of_kind Device → IsListed n → ⊥
device_apart n one (inl is) = let wrong : false ≡ true = subst IsValueNumber one is in true≢false (sym wrong)
device_apart n one (inr (inl other)) = let a : n ≡ 8 = one in let b : n ≡ 15 = other in omega (arith, a, b)
device_apart n one (inr (inr (inl other))) = let a : n ≡ 8 = one in let b : n ≡ 9 = other in omega (arith, a, b)
device_apart n one (inr (inr (inr other))) = let a : n ≡ 8 = one in let b : n ≡ 25 = other in omega (arith, a, b)

weaker : (P Q : ℕ → Type 0) (objects : List ObjectIdData) → ((n : ℕ) → P n → Q n) → All (HasNumber P) objects → All (HasNumber Q) objects
weaker P Q objects follows all = λ k d within. follows _ (all k d within)

-- two lists whose types are apart
pub record Parts (P : ℕ → Type 0) (objects : List ObjectIdData) : Type 0 where
  pub numbers : All (HasNumber P) objects
  pub pairs : AllPairs OfOneType objects

joins : (P Q R : ℕ → Type 0) (xs ys : List ObjectIdData) → ((n : ℕ) → P n → Q n → ⊥) → ((n : ℕ) → P n → R n) → ((n : ℕ) → Q n → R n) → Parts P xs → Parts Q ys → Parts R (xs ++ ys)
joins P Q R xs ys never first second one other = record {
  numbers = All-append (HasNumber R) xs ys (weaker P R xs first one.numbers) (weaker Q R ys second other.numbers);
  pairs = pairs_append OfOneType xs ys one.pairs other.pairs (apart P Q xs ys never one.numbers other.numbers);
}

abbrev value_ids : Site → List ObjectIdData
value_ids site = map (λ (object : ObjectSite). object.object) site.objects

abbrev class_ids : Site → List ObjectIdData
class_ids site = map class_object site.classes

abbrev enrollment_ids : Site → List ObjectIdData
enrollment_ids site = map (λ (enrollment : EnrollmentSite). enrollment.object) site.enrollments

abbrev log_ids : Site → List ObjectIdData
log_ids site = map (λ (log : LogSite). log.object) site.logs

values_part : (site : Site) → IsSite site → Parts IsValueNumber (value_ids site)
values_part site is = record {
  numbers = All-map (HasNumber IsValueNumber) (λ (object : ObjectSite). object.object) site.objects (λ k d within. let kept = is.objects k d within in value_kind (kind_in (get_or site.objects k d)) (get_or site.objects k d) kept.value);
  pairs = of_one_type (value_ids site) is.ascending;
}

classes_part : (site : Site) → IsSite site → Parts (λ n. n ≡ number_of_kind NotificationClass) (class_ids site)
classes_part site is = record {
  numbers = All-map (HasNumber (λ n. n ≡ number_of_kind NotificationClass)) class_object site.classes (λ k d within. refl);
  pairs = subst (AllPairs OfOneType) (map-map (λ instance. record { number = number_of_kind NotificationClass; instance = instance }) instance_of site.classes)
      (pairs_map OfOneType (λ instance. record { number = number_of_kind NotificationClass; instance = instance }) (map instance_of site.classes)
      (λ i j d before within same. below_by_instance (number_of_kind NotificationClass) _ _ (is.classes_ascend i j d before within)));
}

enrollments_part : (site : Site) → IsSite site → Parts (λ n. n ≡ number_of_kind EventEnrollment) (enrollment_ids site)
enrollments_part site is = record {
  numbers = All-map (HasNumber (λ n. n ≡ number_of_kind EventEnrollment)) (λ (enrollment : EnrollmentSite). enrollment.object) site.enrollments (λ k d within. let kept = is.enrollments k d within in kept.number);
  pairs = of_one_type (enrollment_ids site) is.enrollments_ascend;
}

logs_part : (site : Site) → IsSite site → Parts (λ n. n ≡ number_of_kind EventLog) (log_ids site)
logs_part site is = record {
  numbers = All-map (HasNumber (λ n. n ≡ number_of_kind EventLog)) (λ (log : LogSite). log.object) site.logs (λ k d within. let kept = is.logs k d within in kept.number);
  pairs = of_one_type (log_ids site) is.logs_ascend;
}

alone : (object : ObjectIdData) → AllPairs OfOneType (object ∷ [])
alone object = λ i j d before within. absurd (omega (arith, before, within))

abbrev IsKnown : ℕ → Type 0
IsKnown number = (number ≡ number_of_kind Device) ⊎ IsListed number

parts_of : (site : Site) → IsSite site → Parts IsKnown (identifiers_of site)
parts_of site is =
    let late = joins (λ n. n ≡ number_of_kind EventEnrollment) (λ n. n ≡ number_of_kind EventLog) IsLate (enrollment_ids site) (log_ids site) enrollment_apart (λ n e. inl e) (λ n e. inr e) (enrollments_part site is) (logs_part site is) in
    let later = joins (λ n. n ≡ number_of_kind NotificationClass) IsLate IsLater (class_ids site) (enrollment_ids site ++ log_ids site) class_apart (λ n e. inl e) (λ n e. inr e) (classes_part site is) late in
    let listed = joins IsValueNumber IsLater IsListed (value_ids site) (class_ids site ++ (enrollment_ids site ++ log_ids site)) value_apart (λ n e. inl e) (λ n e. inr e) (values_part site is) later in
    let device : Parts (λ n. n ≡ number_of_kind Device) (device_object site ∷ []) =
    record { numbers = All-cons (HasNumber (λ n. n ≡ number_of_kind Device)) (device_object site) [] refl (All-nil (HasNumber (λ n. n ≡ number_of_kind Device))); pairs = alone (device_object site) } in
    joins (λ n. n ≡ number_of_kind Device) IsListed IsKnown (device_object site ∷ []) (value_ids site ++ (class_ids site ++ (enrollment_ids site ++ log_ids site))) device_apart (λ n e. inl e) (λ n e. inr e) device listed

pub list_ascends : (site : Site) → IsSite site → Ascends (object_list (identifiers_of site))
list_ascends site is = let parts = parts_of site is in blocks_ascend (identifiers_of site) parts.pairs 0 known_kinds rises
