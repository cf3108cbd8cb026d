-- The site of a draft whose notifications fit leaves room for them.
use Rattle.std.proofs.Common.{◌≡◌, ℕ, ◌+◌, ◌*◌, ◌≤◌, ◌==◌, cond, nat_lt, Bool, true, false, Option, Some, None, List, [], ◌∷◌, ◌++◌, length, map, Ok, Err, if◌then◌else◌, refl, ap, ◌∙◌, subst, arith}
use Rattle.std.proofs.Math.Nat.{mul-le-mul_right}
use Rattle.std.specs.List.{All, AllPairs, cons_option, count_by, filter, filter_map, sum_by}
use Rattle.std.proofs.lemmas.Bool.{ltb-false}
use Rattle.std.proofs.lemmas.List.{length-map}
use Rattle.std.proofs.lemmas.List.Folds.{fold-map}
use Rattle.std.proofs.lemmas.List.Sums.{length-filter, sum_by-append, sum_by-cons, sum_by-le-sum_by}
use Rattle.bac_values.specs.Identifier.{number_of_kind}
use Rattle.bac_values.specs.Orders.{identifier_order}
use Rattle.bac_values.specs.declared.object_kind.ObjectKind.TheVariants as kinds
use Rattle.object_table.specs.declared.object_site.ObjectSite.{ObjectSite}
use Rattle.enrollment.specs.declared.enrollment_site.EnrollmentSite.{EnrollmentSite}
use Rattle.notify_class.specs.declared.class_site.ClassSite.{ClassSite}
use Rattle.alarm_core.specs.Classes.{first_classes, is_member}
use Rattle.alarm_core.specs.Room.{LeaveRoom, members_at, share_at}
use Rattle.alarm_core.specs.Sites.{ClassesAscend, instance_of}
use Rattle.site_config.specs.declared.class.ClassItem.{ClassItem}
use Rattle.site_config.specs.declared.destination.DestinationSite.{DestinationSite}
use Rattle.site_config.specs.declared.draft.Draft.{Draft}
use Rattle.site_config.specs.declared.fault.Counted.TheVariants.{Notes}
use Rattle.site_config.specs.declared.fault.SiteFault.TheVariants.{TooMany}
use Rattle.site_config.specs.Identifiers.{id_of_class, id_of_object, id_of_enrollment}
use Rattle.site_config.specs.Limits.{count_of, names_class}
use Rattle.site_config.specs.Notes.{class_of_enrollment, class_of_object, members_of, notes_of}
use Rattle.site_config.specs.Sites.{destinations_of, in_order, notes_fit, recipient_of, site_of_draft, with_destinations}
use Rattle.site_config.proofs.ClassByClass.{times, class_by_class}
use Rattle.site_config.proofs.InOrder.{fold_weighs}
use Rattle.site_config.proofs.Instances.{Below, Precedes, instances_ascend}

-- ---- the classes

-- an item's identifier is that of a class
abbrev pub HasClassId : ClassItem → Type 0
HasClassId item = item.object.number ≡ number_of_kind kinds.NotificationClass

abbrev pub instance_of_item : ClassItem → ℕ
instance_of_item item = item.object.instance

-- the instances of classes that ascend by their identifiers ascend
class_instances : (items : List ClassItem) → All HasClassId items → AllPairs Precedes (map id_of_class items) → AllPairs Below (map instance_of_item items)
class_instances = instances_ascend id_of_class (number_of_kind kinds.NotificationClass)

instances_of : (destinations : List DestinationSite) (items : List ClassItem) → map instance_of_item items ≡ map instance_of (map (with_destinations destinations) items)
instances_of destinations [] = refl
instances_of destinations (item ∷ items) = ap (λ ns. item.object.instance ∷ ns) (instances_of destinations items)

-- ---- the members of a class

module _ (number : ℕ) where
  named : (class : Option ℕ) (others : List ℕ) → times (cons_option class others) number ≡ cond (is_member class number) 1 0 + times others number
  named None others = omega arith
  named (Some class) others = sum_by-cons (λ n. cond (n == number) 1 0) class others

  object_members : (objects : List ObjectSite) → times (filter_map class_of_object objects) number ≡ count_by (λ (site : ObjectSite). is_member site.class number) objects
  object_members [] = refl
  object_members (site ∷ sites) =
      let first = named site.class (filter_map class_of_object sites) in
      omega (arith, first, object_members sites, sum_by-cons (λ (other : ObjectSite). cond (is_member other.class number) 1 0) site sites)

  enrollment_members : (sites : List EnrollmentSite) → times (map class_of_enrollment sites) number ≡ count_by (λ (site : EnrollmentSite). site.class == number) sites
  enrollment_members sites = fold-map (λ n class. n + (if class == number then 1 else 0)) class_of_enrollment 0 sites

  -- a class has no more members in the site than in the draft
  members_kept : (draft : Draft) → members_at (site_of_draft draft) number ≤ times (members_of draft) number
  members_kept draft =
      let objects = filter_map class_of_object draft.objects in
      let enrollments = map class_of_enrollment draft.enrollments in
      let both : times (objects ++ enrollments) number ≡ times objects number + times enrollments number = sum_by-append (λ n. if n == number then 1 else 0) objects enrollments in
      let fewer_objects : count_by (λ (site : ObjectSite). is_member site.class number) (in_order id_of_object draft.objects) ≤ count_by (λ (site : ObjectSite). is_member site.class number) draft.objects =
      fold_weighs identifier_order id_of_object (λ (site : ObjectSite). if is_member site.class number then 1 else 0) draft.objects in
      let fewer_enrollments : count_by (λ (site : EnrollmentSite). site.class == number) (in_order id_of_enrollment draft.enrollments) ≤ count_by (λ (site : EnrollmentSite). site.class == number) draft.enrollments =
      fold_weighs identifier_order id_of_enrollment (λ (site : EnrollmentSite). if site.class == number then 1 else 0) draft.enrollments in
      omega (arith, both, fewer_objects, fewer_enrollments, object_members draft.objects, enrollment_members draft.enrollments)

-- ---- the notifications

pub recipients : (number : ℕ) (destinations : List DestinationSite) → length (destinations_of number destinations) ≡ count_of number destinations
recipients number destinations = length-map (filter (names_class number) destinations) recipient_of ∙ length-filter (names_class number) destinations

module _ (draft : Draft) where
  -- what a class's members give to its recipients, in the site and in the draft
  share : ℕ → ℕ
  share number = members_at (site_of_draft draft) number * length (destinations_of number draft.destinations)

  share_in : ℕ → ℕ
  share_in number = times (members_of draft) number * count_of number draft.destinations

  share_kept : (number : ℕ) → share number ≤ share_in number
  unfolding share share_in
  share_kept number =
      let fewer = mul-le-mul_right (length (destinations_of number draft.destinations)) (members_kept number draft) in
      let same = ap (λ n. times (members_of draft) number * n) (recipients number draft.destinations) in
      omega (arith, fewer, same)

  shares : (items : List ClassItem) →
      sum_by (share_at (site_of_draft draft)) (map (λ (listed : ClassSite). listed.class) (map (with_destinations draft.destinations) items)) ≡ sum_by share (map instance_of_item items)
  unfolding share
  shares [] = refl
  shares (item ∷ items) =
      let class = (with_destinations draft.destinations item).class in
      let own : share_at (site_of_draft draft) class ≡ share item.object.instance = refl in
      omega (
        arith,
        own,
        shares items,
        sum_by-cons share item.object.instance (map instance_of_item items),
        sum_by-cons (share_at (site_of_draft draft)) class (map (λ (listed : ClassSite). listed.class) (map (with_destinations draft.destinations) items)),
      )

  pub classes_ascend : All HasClassId (in_order id_of_class draft.classes) → AllPairs Precedes (map id_of_class (in_order id_of_class draft.classes)) → ClassesAscend (site_of_draft draft).classes
  classes_ascend ids ascend =
      let items = in_order id_of_class draft.classes in
      subst (AllPairs Below) (instances_of draft.destinations items) (class_instances items ids ascend)

  pub room_kept : All HasClassId (in_order id_of_class draft.classes) → AllPairs Precedes (map id_of_class (in_order id_of_class draft.classes))
      → notes_of draft.destinations (members_of draft) ≤ draft.device.outbox → LeaveRoom (site_of_draft draft) (first_classes (site_of_draft draft))
  unfolding share_in
  room_kept ids ascend fits =
      let items = in_order id_of_class draft.classes in
      let classes = map instance_of_item items in
      let within = sum_by-le-sum_by share share_in classes share_kept in
      let whole = class_by_class (λ number. count_of number draft.destinations) classes (members_of draft) (class_instances items ids ascend) in
      omega (arith, shares items, within, whole, fits)

pub fit_within : (draft : Draft) (verdict : Unit {0}) → notes_fit draft ≡ Ok verdict → notes_of draft.destinations (members_of draft) ≤ draft.device.outbox
fit_within draft verdict h = by (nat_lt draft.device.outbox (notes_of draft.destinations (members_of draft))) refl h
  where
    by : (more : Bool) → nat_lt draft.device.outbox (notes_of draft.destinations (members_of draft)) ≡ more → (if more then Err (TooMany Notes) else Ok tt) ≡ Ok verdict
        → notes_of draft.destinations (members_of draft) ≤ draft.device.outbox
    by true is e = absurd cc
    by false is e = ltb-false draft.device.outbox (notes_of draft.destinations (members_of draft)) is
