-- What is written of the subjects of a state, in their order.
use Rattle.std.proofs.Common.{◌≡◌, ℕ, zero, suc, Bool, true, false, cond, Option, Some, None, List, [], ◌∷◌, ◌++◌, append-nil, append_assoc, filter, map, refl, sym, ap, subst, ◌∙◌, arith}
use Rattle.std.specs.List.{All, AllZip, flat_map}
use Rattle.std.proofs.lemmas.Bool.Decides.{nat_tests}
use Rattle.std.proofs.lemmas.List.Elements.{All-nil, All-cons, All-head, All-tail}
use Rattle.std.specs.declared.cmp.Ordering.TheVariants.{Less}
use Rattle.bac_values.specs.Identifier.{ObjectIdData}
use Rattle.bac_values.specs.Orders.{identifier_order}
use Rattle.event_machine.specs.Summary.{AlarmState}
use Rattle.object_table.specs.Rows.{Ascends, is_object}
use Rattle.object_table.proofs.Order.{less_is_other}
use Rattle.enrollment.proofs.SubjectOrder.{ascends}
use Rattle.enrollment.specs.Enrollments.{site_of}
use Rattle.enrollment.specs.Subjects.{object_of, subject_of_enrollment}
use Rattle.enrollment.specs.declared.enrollment_site.EnrollmentSite.{EnrollmentSite}
use Rattle.enrollment.specs.declared.subject.Subject.{Subject}
use Rattle.alarm_core.specs.Found.{alarm_in}
use Rattle.alarm_core.specs.Sites.{IsSite}
use Rattle.alarm_core.specs.State.{CoreState}
use Rattle.alarm_core.specs.Subjects.{alarm_subjects, has_class, subjects_of}
use Rattle.alarm_core.specs.declared.site.Site.{Site}
use Rattle.state_codec.specs.Snapshots.{written_alarm, written_enrollment, written_subject}
use Rattle.state_codec.proofs.SnapshotReads.{written_enrolled}

abbrev Below : ObjectIdData → ObjectIdData → Type 0
Below earlier later = identifier_order earlier later ≡ Less

is_itself : (object : ObjectIdData) → is_object object object ≡ true
is_itself object = grind (arith, nat_tests)

either_way : (a b : ObjectIdData) → is_object a b ≡ is_object b a
either_way a b = grind (arith, nat_tests)

heads_below : (object : ObjectIdData) (others : List ObjectIdData) → Ascends (object ∷ others) → All (Below object) others
heads_below object others is k d within = is 0 (suc k) d (omega arith) (omega (arith, within))

tails_ascend : (object : ObjectIdData) (others : List ObjectIdData) → Ascends (object ∷ others) → Ascends others
tails_ascend object others is i j d before within = is (suc i) (suc j) d (omega (arith, before)) (omega (arith, within))

all_of_objects : {X : Type 0} (P : ObjectIdData → Type 0) (f : X → ObjectIdData) (xs : List X) → All P (map f xs) → All (λ x. P (f x)) xs
all_of_objects P f [] h = All-nil (λ x. P (f x))
all_of_objects P f (x ∷ xs) h = All-cons (λ y. P (f y)) x xs (All-head P (f x) (map f xs) h) (all_of_objects P f xs (All-tail P (f x) (map f xs) h))

pairs_head : {X : Type 0} (f : X → ObjectIdData) (x : X) (xs : List X) → Ascends (map f (x ∷ xs)) → All (λ y. Below (f x) (f y)) xs
pairs_head f x xs is = all_of_objects (Below (f x)) f xs (heads_below (f x) (map f xs) is)

pairs_tail : {X : Type 0} (f : X → ObjectIdData) (x : X) (xs : List X) → Ascends (map f (x ∷ xs)) → Ascends (map f xs)
pairs_tail f x xs is i j d before within = is (suc i) (suc j) d (omega (arith, before)) (omega (arith, within))

all_of : {X : Type 0} (f : X → ObjectIdData) (x : X) (xs : List X) → All (λ y. Below (f x) (f y)) xs → All (Below (f x)) (map f xs)
all_of f x [] here = All-nil (Below (f x))
all_of f x (y ∷ ys) here = All-cons (Below (f x)) (f y) (map f ys) (All-head (λ z. Below (f x) (f z)) y ys here) (all_of f x ys (All-tail (λ z. Below (f x) (f z)) y ys here))

pairs_more : {X : Type 0} (f : X → ObjectIdData) (x : X) (xs : List X) → All (λ y. Below (f x) (f y)) xs → Ascends (map f xs) → Ascends (map f (x ∷ xs))
pairs_more f x xs here later zero zero d before within = absurd (omega (arith, before))
pairs_more f x xs here later zero (suc j) d before within = all_of f x xs here j d (omega (arith, within))
pairs_more f x xs here later (suc i) zero d before within = absurd (omega (arith, before))
pairs_more f x xs here later (suc i) (suc j) d before within = later i j d (omega (arith, before)) (omega (arith, within))

-- ---- those that are kept ascend too

module _ {X : Type 0} (f : X → ObjectIdData) (keep : X → Bool) where
  all_if : (P : X → Type 0) (x : X) (rest : List X) (there : Bool) → P x → All P rest → All P (cond there (x ∷ rest) rest)
  all_if P x rest true here later = All-cons P x rest here later
  all_if P x rest false here later = later

  all_kept : (P : X → Type 0) (xs : List X) → All P xs → All P (filter keep xs)
  all_kept P [] all = all
  all_kept P (x ∷ xs) all = all_if P x (filter keep xs) (keep x) (All-head P x xs all) (all_kept P xs (All-tail P x xs all))

  ascend_if : (x : X) (rest : List X) (there : Bool) → All (λ y. Below (f x) (f y)) rest → Ascends (map f rest) → Ascends (map f (cond there (x ∷ rest) rest))
  ascend_if x rest true here later = pairs_more f x rest here later
  ascend_if x rest false here later = later

  pub still_ascend : (xs : List X) → Ascends (map f xs) → Ascends (map f (filter keep xs))
  still_ascend [] is = is
  still_ascend (x ∷ xs) is = ascend_if x (filter keep xs) (keep x) (all_kept (λ y. Below (f x) (f y)) xs (pairs_head f x xs is)) (still_ascend xs (pairs_tail f x xs is))

pub subjects_ascend : (site : Site) → IsSite site → Ascends (map object_of (alarm_subjects site))
subjects_ascend site is = still_ascend object_of has_class (subjects_of site) (ascends site.objects site.enrollments is.ascending is.objects is.enrollments_ascend is.enrollments)

-- ---- the enrollment with an identifier

abbrev pub own_object : EnrollmentSite → ObjectIdData
own_object site = site.object

none_above : (object : ObjectIdData) (sites : List EnrollmentSite) → All (Below object) (map own_object sites) → site_of object sites ≡ None
none_above object [] above = refl
none_above object (e ∷ sites) above =
    let apart : is_object object e.object ≡ false = either_way object e.object ∙ less_is_other object e.object (All-head (Below object) e.object (map own_object sites) above) in
    ap (λ (b : Bool). cond b (Some e) (site_of object sites)) apart ∙ none_above object sites (All-tail (Below object) e.object (map own_object sites) above)

abbrev Above : ObjectIdData → ObjectIdData → Type 0
Above object other = Below other object

none_below : (object : ObjectIdData) (sites : List EnrollmentSite) → All (Above object) (map own_object sites) → site_of object sites ≡ None
none_below object [] below = refl
none_below object (e ∷ sites) below =
    ap (λ (b : Bool). cond b (Some e) (site_of object sites)) (less_is_other e.object object (All-head (Above object) e.object (map own_object sites) below))
    ∙ none_below object sites (All-tail (Above object) e.object (map own_object sites) below)

-- ---- those in front are below those behind

all_front : {X : Type 0} (P : X → Type 0) (xs ys : List X) → All P (xs ++ ys) → All P xs
all_front P [] ys all = All-nil P
all_front P (x ∷ xs) ys all = All-cons P x xs (All-head P x (xs ++ ys) all) (all_front P xs ys (All-tail P x (xs ++ ys) all))

all_behind : {X : Type 0} (P : X → Type 0) (xs ys : List X) → All P (xs ++ ys) → All P ys
all_behind P [] ys all = all
all_behind P (x ∷ xs) ys all = all_behind P xs ys (All-tail P x (xs ++ ys) all)

abbrev BelowAll : List ObjectIdData → ObjectIdData → Type 0
BelowAll others object = All (Below object) others

abbrev AboveAll : List ObjectIdData → ObjectIdData → Type 0
AboveAll others object = All (Above object) others

front_below : (front behind : List ObjectIdData) → Ascends (front ++ behind) → All (BelowAll behind) front
front_below [] behind is = All-nil (BelowAll behind)
front_below (object ∷ front) behind is =
    All-cons (BelowAll behind) object front (all_behind (Below object) front behind (heads_below object (front ++ behind) is)) (front_below front behind (tails_ascend object (front ++ behind) is))

behind_above : (front behind : List ObjectIdData) → Ascends (front ++ behind) → All (AboveAll front) behind
behind_above front behind is = let below = front_below front behind is in λ j d within i c inside. below i c inside j d within

behind_ascend : (front behind : List ObjectIdData) → Ascends (front ++ behind) → Ascends behind
behind_ascend [] behind is = is
behind_ascend (object ∷ front) behind is = behind_ascend front behind (tails_ascend object (front ++ behind) is)

front_ascend : (front behind : List ObjectIdData) → Ascends (front ++ behind) → Ascends front
front_ascend [] behind is = λ i j d before within. absurd (omega (arith, within))
front_ascend (object ∷ front) behind is = one_ascends object front (all_front (Below object) front behind (heads_below object (front ++ behind) is)) (front_ascend front behind (tails_ascend object (front ++ behind) is))
  where
    one_ascends : (object : ObjectIdData) (others : List ObjectIdData) → All (Below object) others → Ascends others → Ascends (object ∷ others)
    one_ascends object others here later zero zero d before within = absurd (omega (arith, before))
    one_ascends object others here later zero (suc j) d before within = here j d (omega (arith, within))
    one_ascends object others here later (suc i) zero d before within = absurd (omega (arith, before))
    one_ascends object others here later (suc i) (suc j) d before within = later i j d (omega (arith, before)) (omega (arith, within))

-- an enrollment is found among those that ascend
abbrev pub FindsItself : List EnrollmentSite → EnrollmentSite → Type 0
FindsItself all site = site_of site.object all ≡ Some site

passed_first : (first : EnrollmentSite) (rest sites : List EnrollmentSite) → All (λ (e : EnrollmentSite). Below first.object e.object) sites → All (FindsItself rest) sites → All (FindsItself (first ∷ rest)) sites
passed_first first rest [] above are = All-nil (FindsItself (first ∷ rest))
passed_first first rest (e ∷ sites) above are =
    All-cons (FindsItself (first ∷ rest)) e sites
    (ap (λ (b : Bool). cond b (Some first) (site_of e.object rest)) (less_is_other first.object e.object (All-head (λ (e : EnrollmentSite). Below first.object e.object) e sites above)) ∙ All-head (FindsItself rest) e sites are)
    (passed_first first rest sites (All-tail (λ (e : EnrollmentSite). Below first.object e.object) e sites above) (All-tail (FindsItself rest) e sites are))

pub each_found : (sites : List EnrollmentSite) → Ascends (map own_object sites) → All (FindsItself sites) sites
each_found [] is = All-nil (FindsItself [])
each_found (e ∷ sites) is =
    All-cons (FindsItself (e ∷ sites)) e sites (ap (λ (b : Bool). cond b (Some e) (site_of e.object sites)) (is_itself e.object))
    (passed_first e sites sites (pairs_head own_object e sites is) (each_found sites (pairs_tail own_object e sites is)))

-- ---- what is written

flat_append : {X : Type 0} (f : X → List ℕ) (xs ys : List X) → flat_map f (xs ++ ys) ≡ flat_map f xs ++ flat_map f ys
flat_append f [] ys = refl
flat_append f (x ∷ xs) ys = ap (λ (t : List ℕ). f x ++ t) (flat_append f xs ys) ∙ sym (append_assoc (f x) (flat_map f xs) (flat_map f ys))

module _ (state : CoreState) where
  abbrev pub IsAlarmIn : Subject → AlarmState → Type 0
  IsAlarmIn subject alarm = alarm_in state subject.object ≡ alarm

  abbrev pub HasNoSite : Subject → Type 0
  HasNoSite subject = site_of subject.object state.values.enrollments ≡ None

  -- of value objects the alarms alone
  pub objects_written : (subjects : List Subject) (alarms : List AlarmState) → AllZip IsAlarmIn subjects alarms → All HasNoSite subjects → flat_map (written_subject state) subjects ≡ flat_map written_alarm alarms
  objects_written [] [] are none = refl
  objects_written [] (a ∷ alarms) are none = absurd are
  objects_written (s ∷ subjects) [] are none = absurd are
  objects_written (s ∷ subjects) (a ∷ alarms) are none =
      let one : written_subject state s ≡ written_alarm a =
      ap (λ (o : Option EnrollmentSite). written_alarm (alarm_in state s.object) ++ written_enrollment o) (All-head HasNoSite s subjects none)
      ∙ append-nil (written_alarm (alarm_in state s.object)) ∙ ap written_alarm are.0 in
      ap (λ (t : List ℕ). t ++ flat_map (written_subject state) subjects) one
      ∙ ap (λ (t : List ℕ). written_alarm a ++ t) (objects_written subjects alarms are.1 (All-tail HasNoSite s subjects none))

  abbrev pub IsEnrolledIn : EnrollmentSite → AlarmState × EnrollmentSite → Type 0
  IsEnrolledIn site x = (alarm_in state site.object ≡ x.0) × (site_of site.object state.values.enrollments ≡ Some x.1)

  -- of enrollments their settings too
  pub enrollments_written : (sites : List EnrollmentSite) (enrolled : List (AlarmState × EnrollmentSite)) → AllZip IsEnrolledIn sites enrolled → flat_map (written_subject state) (map subject_of_enrollment sites) ≡ flat_map written_enrolled enrolled
  enrollments_written [] [] are = refl
  enrollments_written [] (x ∷ enrolled) are = absurd are
  enrollments_written (site ∷ sites) [] are = absurd are
  enrollments_written (site ∷ sites) (x ∷ enrolled) are =
      let one : written_subject state (subject_of_enrollment site) ≡ written_enrolled x =
      ap (λ (o : Option EnrollmentSite). written_alarm (alarm_in state site.object) ++ written_enrollment o) are.0.1
      ∙ ap (λ (a : AlarmState). written_alarm a ++ written_enrollment (Some x.1)) are.0.0 in
      ap (λ (t : List ℕ). t ++ flat_map (written_subject state) (map subject_of_enrollment sites)) one
      ∙ ap (λ (t : List ℕ). written_enrolled x ++ t) (enrollments_written sites enrolled are.1)

  -- ---- all three

  pub record AreInOrder (before : List Subject) (sites : List EnrollmentSite) (behind : List Subject) : Type 0 where
    pub objects : map own_object state.values.enrollments ≡ map own_object sites
    pub ascending : Ascends (map object_of (before ++ (map subject_of_enrollment sites ++ behind)))

  objects_in_order : (before : List Subject) (sites : List EnrollmentSite) (behind : List Subject) → map object_of (before ++ (map subject_of_enrollment sites ++ behind)) ≡ map object_of before ++ (map own_object sites ++ map object_of behind)
  objects_in_order [] [] behind = refl
  objects_in_order [] (site ∷ sites) behind = ap (λ (os : List ObjectIdData). site.object ∷ os) (objects_in_order [] sites behind)
  objects_in_order (s ∷ before) sites behind = ap (λ (os : List ObjectIdData). s.object ∷ os) (objects_in_order before sites behind)

  all_more : {X : Type 0} (P Q : X → Type 0) → ((x : X) → P x → Q x) → (xs : List X) → All P xs → All Q xs
  all_more P Q f [] all = All-nil Q
  all_more P Q f (x ∷ xs) all = All-cons Q x xs (f x (All-head P x xs all)) (all_more P Q f xs (All-tail P x xs all))

  module _ (before : List Subject) (sites : List EnrollmentSite) (behind : List Subject) (are : AreInOrder before sites behind) where
    abbrev enrolled_objects : List ObjectIdData
    enrolled_objects = map own_object state.values.enrollments

    in_order : Ascends (map object_of before ++ (enrolled_objects ++ map object_of behind))
    in_order = subst (λ (os : List ObjectIdData). Ascends (map object_of before ++ (os ++ map object_of behind))) (sym are.objects) (subst Ascends (objects_in_order before sites behind) are.ascending)

    pub before_has_none : All HasNoSite before
    before_has_none =
        all_of_objects (λ (object : ObjectIdData). site_of object state.values.enrollments ≡ None) object_of before
        (all_more (BelowAll (enrolled_objects ++ map object_of behind)) (λ (object : ObjectIdData). site_of object state.values.enrollments ≡ None)
        (λ object below. none_above object state.values.enrollments (all_front (Below object) enrolled_objects (map object_of behind) below)) (map object_of before)
        (front_below (map object_of before) (enrolled_objects ++ map object_of behind) in_order))

    pub behind_has_none : All HasNoSite behind
    behind_has_none =
        all_of_objects (λ (object : ObjectIdData). site_of object state.values.enrollments ≡ None) object_of behind
        (all_more (AboveAll enrolled_objects) (λ (object : ObjectIdData). site_of object state.values.enrollments ≡ None)
        (λ object above. none_below object state.values.enrollments above) (map object_of behind)
        (behind_above enrolled_objects (map object_of behind) (behind_ascend (map object_of before) (enrolled_objects ++ map object_of behind) in_order)))

    pub enrollments_found : All (FindsItself state.values.enrollments) state.values.enrollments
    enrollments_found =
        each_found state.values.enrollments (front_ascend enrolled_objects (map object_of behind) (behind_ascend (map object_of before) (enrolled_objects ++ map object_of behind) in_order))

    pub all_written : (first : List AlarmState) (enrolled : List (AlarmState × EnrollmentSite)) (last : List AlarmState) → AllZip IsAlarmIn before first → AllZip IsEnrolledIn sites enrolled → AllZip IsAlarmIn behind last
        → flat_map (written_subject state) (before ++ (map subject_of_enrollment sites ++ behind)) ≡ flat_map written_alarm first ++ (flat_map written_enrolled enrolled ++ flat_map written_alarm last)
    all_written first enrolled last one two three =
        flat_append (written_subject state) before (map subject_of_enrollment sites ++ behind)
        ∙ ap (λ (t : List ℕ). flat_map (written_subject state) before ++ t) (flat_append (written_subject state) (map subject_of_enrollment sites) behind)
        ∙ (λ k. objects_written before first one before_has_none k ++ (enrollments_written sites enrolled two k ++ objects_written behind last three behind_has_none k))
