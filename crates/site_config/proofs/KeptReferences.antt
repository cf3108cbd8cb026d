-- Where no reference dangles, the objects to which enrollments and value objects refer are there, and of the types that they have to be; and the classes that objects, enrollments and logs name are there.
use Rattle.std.proofs.Common.{◌≡◌, ℕ, List, [], ◌∷◌, map, filter, fold, cond, true, false, Bool, not, ◌==◌, ◌||◌, Option, Some, None, if◌then◌else◌, refl, sym, ap, ◌∙◌, arith}
use Rattle.std.specs.Prelude.{IsTrue, IsSome, IfSome, IsSomeAnd}
use Rattle.std.specs.List.{All, AllByRecursion, list_any}
use Rattle.std.specs.Ordering.{is_lt}
use Rattle.std.specs.declared.cmp.Ordering.TheVariants.{Equal}
use Rattle.std.proofs.lemmas.Bool.{or_parts}
use Rattle.std.proofs.lemmas.Bool.Decides.{nat_tests}
use Rattle.std.proofs.lemmas.List.Elements.{All-nil, All-cons}
use Rattle.algorithm_rules.specs.declared.table.Algorithm.{Algorithm}
use Rattle.algorithm_rules.specs.declared.table.Algorithm.TheVariants.{ChangeOfBitstring, ChangeOfState, CommandFailure, UnsignedRange, SignedOutOfRange, UnsignedOutOfRange, ChangeOfCharacterstring}
use Rattle.bac_values.specs.Identifier.{kind_of, ObjectIdData}
use Rattle.bac_values.specs.declared.object_kind.ObjectKind.{ObjectKind}
use Rattle.bac_values.specs.declared.object_kind.ObjectKind.TheVariants.{BinaryValue, Device, EventEnrollment, NotificationClass, MultiStateValue, EventLog, BitStringValue, CharacterStringValue, IntegerValue, PositiveIntegerValue}
use Rattle.bac_values.specs.Orders.{identifier_order}
use Rattle.bac_values.proofs.OrderLemmas.{identifiers_are_total}
use Rattle.event_log.specs.declared.log_site.LogSite.{LogSite}
use Rattle.notify_class.specs.declared.class_site.ClassSite.{ClassSite}
use Rattle.object_table.specs.declared.object_site.ObjectSite.{ObjectSite}
use Rattle.object_table.specs.Objects.{IsObject}
use Rattle.object_table.specs.Properties.{kind_in}
use Rattle.object_table.specs.Rows.{is_object, first_row, row_of, rows_of}
use Rattle.object_table.specs.Values.{is_present_value}
use Rattle.enrollment.specs.declared.enrollment_site.EnrollmentSite.{EnrollmentSite}
use Rattle.enrollment.specs.Enrollments.{is_value_kind, is_unsigned_kind, KeepsAlgorithm, IsEnrollment}
use Rattle.enrollment.specs.Snapshots.{HasObjects, HasReferred}
use Rattle.alarm_core.specs.Sites.{HasClass, HasItsClass, HasItsClasses, HasOwnClass}
use Rattle.site_config.specs.declared.class.ClassItem.{ClassItem}
use Rattle.site_config.specs.declared.destination.DestinationSite.{DestinationSite}
use Rattle.site_config.specs.declared.draft.Draft.{Draft}
use Rattle.site_config.specs.Identifiers.{id_of_class, id_of_object, id_of_enrollment, id_of_log, lesser, least_with}
use Rattle.site_config.specs.References.{has_class, lacks_class, is_there, reference_dangles, can_monitor, feedback_dangles, enrollment_dangles, object_dangles, destination_dangles, log_dangles, id_of_destination, least_dangling}
use Rattle.site_config.specs.Sites.{in_order, with_destinations}
use Rattle.site_config.proofs.KeptEnrollments.{KeepsParameters, KeepsKeys}
use Rattle.site_config.proofs.Present.{fold_holds}

-- ---- a least one is found where there is any

least_stays : (least : ObjectIdData) (objects : List ObjectIdData) → least_with (Some least) objects ≡ None → ⊥
least_stays least [] h = absurd cc
least_stays least (object ∷ objects) h = by (is_lt (identifier_order object least)) (least_stays object objects) (least_stays least objects) h
  where
    by : (below : Bool) → (least_with (Some object) objects ≡ None → ⊥) → (least_with (Some least) objects ≡ None → ⊥)
        → fold lesser (if below then Some object else Some least) objects ≡ None → ⊥
    by true its own e = its e
    by false its own e = own e

none_before : (found : Option ObjectIdData) (objects : List ObjectIdData) → least_with found objects ≡ None → found ≡ None
none_before None objects h = refl
none_before (Some least) objects h = absurd (least_stays least objects h)

none_behind : (found : Option ObjectIdData) (objects : List ObjectIdData) → least_with found objects ≡ None → objects ≡ []
none_behind found [] h = refl
none_behind None (object ∷ objects) h = absurd (least_stays object objects h)
none_behind (Some least) (object ∷ objects) h = absurd (least_stays least (object ∷ objects) h)

none_passes : {A B : Type 0} (test : A → Bool) (f : A → B) (xs : List A) → map f (filter test xs) ≡ [] → AllByRecursion (λ x. test x ≡ false) xs
none_passes test f [] h = tt
none_passes test f (x ∷ xs) h = by (test x) refl (none_passes test f xs) h
  where
    by : (b : Bool) → test x ≡ b → (map f (filter test xs) ≡ [] → AllByRecursion (λ y. test y ≡ false) xs)
        → map f (cond b (x ∷ filter test xs) (filter test xs)) ≡ [] → AllByRecursion (λ y. test y ≡ false) (x ∷ xs)
    by true is rest e = absurd cc
    by false is rest e = (is, rest e)

-- nothing of a draft refers to what isn't there
pub record Resolves (draft : Draft) : Type 0 where
  pub objects : AllByRecursion (λ site. object_dangles draft.classes draft.objects site ≡ false) draft.objects
  pub enrollments : AllByRecursion (λ site. enrollment_dangles draft.classes draft.objects site ≡ false) draft.enrollments
  pub logs : AllByRecursion (λ site. log_dangles draft.classes site ≡ false) draft.logs

pub none_dangles : (draft : Draft) → least_dangling draft ≡ None → Resolves draft
none_dangles draft h =
    let destinations = least_with None (map id_of_destination (filter (destination_dangles draft.classes) draft.destinations)) in
    let values = map id_of_object (filter (object_dangles draft.classes draft.objects) draft.objects) in
    let objects = least_with destinations values in
    let own = map id_of_enrollment (filter (enrollment_dangles draft.classes draft.objects) draft.enrollments) in
    let enrollments = least_with objects own in
    let logs = map id_of_log (filter (log_dangles draft.classes) draft.logs) in
    let before_logs : enrollments ≡ None = none_before enrollments logs h in
    let before : objects ≡ None = none_before objects own before_logs in
    record {
      objects = none_passes (object_dangles draft.classes draft.objects) id_of_object draft.objects (none_behind destinations values before);
      enrollments = none_passes (enrollment_dangles draft.classes draft.objects) id_of_enrollment draft.enrollments (none_behind objects own before_logs);
      logs = none_passes (log_dangles draft.classes) id_of_log draft.logs (none_behind enrollments logs h);
    }

-- ---- what is there has the type of a value object

value_kind : (kind : Option ObjectKind) (site : ObjectSite) → IsTrue (is_present_value kind site site.value) → IsTrue (is_value_kind kind)
value_kind (Some BinaryValue) site h = refl
value_kind (Some MultiStateValue) site h = refl
value_kind (Some BitStringValue) site h = refl
value_kind (Some CharacterStringValue) site h = refl
value_kind (Some IntegerValue) site h = refl
value_kind (Some PositiveIntegerValue) site h = refl
value_kind (Some Device) site h = absurd cc
value_kind (Some EventEnrollment) site h = absurd cc
value_kind (Some NotificationClass) site h = absurd cc
value_kind (Some EventLog) site h = absurd cc
value_kind None site h = absurd cc

same_number : (object other : ObjectIdData) → is_object object other ≡ true → other.number ≡ object.number
same_number object other h = grind (arith, nat_tests)

there_kind : (object : ObjectIdData) (sites : List ObjectSite) → AllByRecursion IsObject sites → is_there sites object ≡ true → IsTrue (is_value_kind (kind_of object.number))
there_kind object [] kept h = absurd cc
there_kind object (site ∷ sites) kept h = by (is_object object site.object) refl (there_kind object sites kept.1) h
  where
    by : (b : Bool) → is_object object site.object ≡ b → (is_there sites object ≡ true → IsTrue (is_value_kind (kind_of object.number)))
        → (b || is_there sites object) ≡ true → IsTrue (is_value_kind (kind_of object.number))
    by true is rest e = rw (← same_number object site.object is) (value_kind (kind_in site) site kept.0.value)
    by false is rest e = rest e

unsigned_kind : (object : ObjectIdData) → can_monitor UnsignedRange object ≡ true → IsTrue (is_unsigned_kind (kind_of object.number))
unsigned_kind object h = by (object.number == 48) (object.number == 19) refl refl h
  where
    by : (a b : Bool) → (object.number == 48) ≡ a → (object.number == 19) ≡ b → (a || b) ≡ true → IsTrue (is_unsigned_kind (kind_of object.number))
    by true b p q e = let is : object.number ≡ 48 = grind (arith, nat_tests) in rw is refl
    by false true p q e = let is : object.number ≡ 19 = grind (arith, nat_tests) in rw is refl
    by false false p q e = absurd cc

-- ---- and has a row

row_there : (object : ObjectIdData) (sites : List ObjectSite) → list_any (is_object object) (map id_of_object sites) ≡ true → IsSome (row_of object (rows_of sites))
row_there object [] h = absurd cc
row_there object (site ∷ sites) h = by (is_object object site.object) (row_there object sites) h
  where
    by : (b : Bool) → (list_any (is_object object) (map id_of_object sites) ≡ true → IsSome (row_of object (rows_of sites)))
        → (b || list_any (is_object object) (map id_of_object sites)) ≡ true → IsSome (cond b (Some (first_row site)) (row_of object (rows_of sites)))
    by true rest e = refl
    by false rest e = rest e

-- identifiers of one place in the order are one
pub same_ids : (a b : ObjectIdData) → identifier_order a b ≡ Equal → a ≡ b
same_ids a b h =
    let numbers : a.number ≡ b.number = grind (arith, nat_tests) in
    let instances : a.instance ≡ b.instance = grind (arith, nat_tests) in
    ap (λ (n : ℕ). let made : ObjectIdData = record { number = n; instance = a.instance } in made) numbers
    ∙ ap (λ (i : ℕ). let made : ObjectIdData = record { number = b.number; instance = i } in made) instances

has_row : (object : ObjectIdData) (sites : List ObjectSite) → is_there sites object ≡ true → IsSome (row_of object (rows_of (in_order id_of_object sites)))
has_row object sites h = row_there object (in_order id_of_object sites) (fold_holds identifiers_are_total same_ids id_of_object (is_object object) sites h)

-- ---- the binary value that inhibits

is_so : (b : Bool) → not b ≡ false → b ≡ true
is_so true h = refl
is_so false h = absurd cc

each_weaker : {X : Type 0} (P Q : X → Type 0) → ((x : X) → P x → Q x) → (xs : List X) → AllByRecursion P xs → AllByRecursion Q xs
each_weaker P Q f [] h = tt
each_weaker P Q f (x ∷ xs) h = (f x h.0, each_weaker P Q f xs h.1)

reference_row : (objects : List ObjectSite) (reference : Option ObjectIdData) → reference_dangles objects reference ≡ false → HasReferred (rows_of (in_order id_of_object objects)) reference
reference_row objects None h = tt
reference_row objects (Some referred) h = has_row referred objects (is_so (is_there objects referred) h)

pub have_referred : (classes : List ClassItem) (objects sites : List ObjectSite)
    → AllByRecursion (λ site. object_dangles classes objects site ≡ false) sites → AllByRecursion (λ (site : ObjectSite). HasReferred (rows_of (in_order id_of_object objects)) site.inhibit_ref) sites
have_referred classes objects =
    each_weaker (λ (site : ObjectSite). object_dangles classes objects site ≡ false) (λ (site : ObjectSite). HasReferred (rows_of (in_order id_of_object objects)) site.inhibit_ref) (λ site h.
    reference_row objects site.inhibit_ref (or_parts (lacks_class classes site.class) (reference_dangles objects site.inhibit_ref) h).1)

-- ---- an enrollment whose references don't dangle

-- what a feedback is that doesn't dangle
record IsWell (objects : List ObjectSite) (monitored feedback : ObjectIdData) : Type 0 where
  there : is_there objects feedback ≡ true
  same : feedback.number ≡ monitored.number

feedback_well : (objects : List ObjectSite) (monitored : ObjectIdData) (feedback : Option ObjectIdData) → feedback_dangles objects monitored feedback ≡ false → IfSome feedback (IsWell objects monitored)
feedback_well objects monitored None h = tt
feedback_well objects monitored (Some feedback) h = by (is_there objects feedback) (feedback.number == monitored.number) refl refl h
  where
    by : (a b : Bool) → is_there objects feedback ≡ a → (feedback.number == monitored.number) ≡ b → (not a || not b) ≡ false → IsWell objects monitored feedback
    by true true p q e = record { there = p; same = grind (arith, nat_tests) }
    by true false p q e = absurd cc
    by false b p q e = absurd cc

record Refers (objects : List ObjectSite) (site : EnrollmentSite) : Type 0 where
  monitored : is_there objects site.monitored ≡ true
  can : can_monitor site.algorithm site.monitored ≡ true
  feedback : IfSome site.feedback (IsWell objects site.monitored)
  inhibitor : reference_dangles objects site.inhibit_ref ≡ false

-- the class, the monitored object and the feedback, and then the object that inhibits
two_parts : (classes : List ClassItem) (objects : List ObjectSite) (site : EnrollmentSite) → enrollment_dangles classes objects site ≡ false
    → ((((not (has_class classes site.class) || not (is_there objects site.monitored)) || not (can_monitor site.algorithm site.monitored)) || feedback_dangles objects site.monitored site.feedback) ≡ false) × (reference_dangles objects site.inhibit_ref ≡ false)
two_parts classes objects site h = or_parts (((not (has_class classes site.class) || not (is_there objects site.monitored)) || not (can_monitor site.algorithm site.monitored)) || feedback_dangles objects site.monitored site.feedback) (reference_dangles objects site.inhibit_ref) h

refers : (classes : List ClassItem) (objects : List ObjectSite) (site : EnrollmentSite) → enrollment_dangles classes objects site ≡ false → Refers objects site
refers classes objects site h =
    let parts = two_parts classes objects site h in
    by (has_class classes site.class) (is_there objects site.monitored) (can_monitor site.algorithm site.monitored) refl refl parts.0 parts.1
  where
    by : (c t m : Bool) → is_there objects site.monitored ≡ t → can_monitor site.algorithm site.monitored ≡ m
        → (((not c || not t) || not m) || feedback_dangles objects site.monitored site.feedback) ≡ false → reference_dangles objects site.inhibit_ref ≡ false → Refers objects site
    by true true true p q e r = record { monitored = p; can = q; feedback = feedback_well objects site.monitored site.feedback e; inhibitor = r }
    by true true false p q e r = absurd cc
    by true false m p q e r = absurd cc
    by false t m p q e r = absurd cc

same_kind : (objects : List ObjectSite) (monitored : ObjectIdData) (feedback : Option ObjectIdData) → IsSome feedback → IfSome feedback (IsWell objects monitored) → IsSomeAnd feedback (λ own. own.number ≡ monitored.number)
same_kind objects monitored None some well = absurd cc
same_kind objects monitored (Some feedback) some well = well.same

algorithm_kept : (algorithm : Algorithm) (objects : List ObjectSite) (site : EnrollmentSite) → KeepsParameters algorithm site.feedback site.low site.high
    → can_monitor algorithm site.monitored ≡ true → IfSome site.feedback (IsWell objects site.monitored) → KeepsAlgorithm algorithm site
algorithm_kept CommandFailure objects site kept can well = record { feedback = same_kind objects site.monitored site.feedback kept.0 well; low = kept.1; high = kept.2 }
algorithm_kept UnsignedRange objects site kept can well = record { monitored = unsigned_kind site.monitored can; feedback = kept }
algorithm_kept ChangeOfBitstring objects site kept can well = absurd kept
algorithm_kept ChangeOfState objects site kept can well = absurd kept
algorithm_kept SignedOutOfRange objects site kept can well = absurd kept
algorithm_kept UnsignedOutOfRange objects site kept can well = absurd kept
algorithm_kept ChangeOfCharacterstring objects site kept can well = absurd kept

is_enrollment : (objects : List ObjectSite) (site : EnrollmentSite) → AllByRecursion IsObject objects → KeepsKeys site → Refers objects site → IsEnrollment site
is_enrollment objects site each kept well = record {
  number = kept.number;
  instance = kept.instance;
  monitored = there_kind site.monitored objects each well.monitored;
  algorithm = algorithm_kept site.algorithm objects site kept.parameters well.can well.feedback;
  notify = kept.notify;
  enable = kept.enable;
  inhibit = kept.reference.alone;
  reference = kept.reference.names;
  texts = kept.texts;
}

feedback_row : (objects : List ObjectSite) (monitored : ObjectIdData) (feedback : Option ObjectIdData) → IfSome feedback (IsWell objects monitored) → IfSome feedback (λ own. IsSome (row_of own (rows_of (in_order id_of_object objects))))
feedback_row objects monitored None well = tt
feedback_row objects monitored (Some feedback) well = has_row feedback objects well.there

has_objects : (objects : List ObjectSite) (site : EnrollmentSite) → Refers objects site → HasObjects (rows_of (in_order id_of_object objects)) site
has_objects objects site well = record {
  monitored = has_row site.monitored objects well.monitored;
  feedback = feedback_row objects site.monitored site.feedback well.feedback;
  inhibitor = reference_row objects site.inhibit_ref well.inhibitor;
}

-- ---- and all of them

pub are_enrollments : (classes : List ClassItem) (objects : List ObjectSite) (sites : List EnrollmentSite) → AllByRecursion IsObject objects → AllByRecursion KeepsKeys sites
    → AllByRecursion (λ site. enrollment_dangles classes objects site ≡ false) sites → AllByRecursion IsEnrollment sites
are_enrollments classes objects [] each kept well = tt
are_enrollments classes objects (site ∷ sites) each kept well =
    (is_enrollment objects site each kept.0 (refers classes objects site well.0), are_enrollments classes objects sites each kept.1 well.1)

pub have_objects : (classes : List ClassItem) (objects : List ObjectSite) (sites : List EnrollmentSite)
    → AllByRecursion (λ site. enrollment_dangles classes objects site ≡ false) sites → AllByRecursion (HasObjects (rows_of (in_order id_of_object objects))) sites
have_objects classes objects [] well = tt
have_objects classes objects (site ∷ sites) well = (has_objects objects site (refers classes objects site well.0), have_objects classes objects sites well.1)

-- ---- the classes are there

module _ (classes : List ClassItem) (destinations : List DestinationSite) where
  -- the classes of the site
  abbrev pub listed : List ClassSite
  listed = map (with_destinations destinations) (in_order id_of_class classes)

  same_classes : (number : ℕ) (items : List ClassItem) → list_any (λ (id : ObjectIdData). id.instance == number) (map id_of_class items) ≡ list_any (λ (site : ClassSite). site.class.instance == number) (map (with_destinations destinations) items)
  same_classes number [] = refl
  same_classes number (item ∷ items) = ap (λ b. (item.object.instance == number) || b) (same_classes number items)

  class_there : (number : ℕ) → has_class classes number ≡ true → HasClass listed number
  class_there number h = sym (same_classes number (in_order id_of_class classes)) ∙ fold_holds identifiers_are_total same_ids id_of_class (λ (id : ObjectIdData). id.instance == number) classes h

  class_by : (class : Option ℕ) → lacks_class classes class ≡ false → IfSome class (HasClass listed)
  class_by None h = tt
  class_by (Some number) h = class_there number (is_so (has_class classes number) h)

  pub objects_have : (objects sites : List ObjectSite) → AllByRecursion (λ site. object_dangles classes objects site ≡ false) sites → AllByRecursion (HasItsClass listed) sites
  objects_have objects =
      each_weaker (λ (site : ObjectSite). object_dangles classes objects site ≡ false) (HasItsClass listed) (λ site h.
      class_by site.class (or_parts (lacks_class classes site.class) (reference_dangles objects site.inhibit_ref) h).0)

  first_is : (c t m f : Bool) → (((not c || not t) || not m) || f) ≡ false → c ≡ true
  first_is true t m f h = refl
  first_is false t m f h = absurd cc

  pub enrollments_have : (objects : List ObjectSite) (sites : List EnrollmentSite) → AllByRecursion (λ site. enrollment_dangles classes objects site ≡ false) sites → AllByRecursion (HasOwnClass listed) sites
  enrollments_have objects =
      each_weaker (λ (site : EnrollmentSite). enrollment_dangles classes objects site ≡ false) (HasOwnClass listed) (λ site h.
      class_there site.class (first_is (has_class classes site.class) (is_there objects site.monitored) (can_monitor site.algorithm site.monitored) (feedback_dangles objects site.monitored site.feedback) (two_parts classes objects site h).0))

  each_there : (numbers : List ℕ) → list_any (λ number. not (has_class classes number)) numbers ≡ false → All (HasClass listed) numbers
  each_there [] h = All-nil (HasClass listed)
  each_there (number ∷ numbers) h =
      let parts = or_parts (not (has_class classes number)) (list_any (λ other. not (has_class classes other)) numbers) h in
      All-cons (HasClass listed) number numbers (class_there number (is_so (has_class classes number) parts.0)) (each_there numbers parts.1)

  pub logs_have : (sites : List LogSite) → AllByRecursion (λ site. log_dangles classes site ≡ false) sites → AllByRecursion (HasItsClasses listed) sites
  logs_have = each_weaker (λ (site : LogSite). log_dangles classes site ≡ false) (HasItsClasses listed) (λ site. each_there site.classes)
