-- The site of a draft that keeps to the limits keeps to them.
use Rattle.bac_values.specs.Limits.{most_bindings, most_objects, most_records, most_classes, most_destinations, most_logs}
use Rattle.std.proofs.Common.{◌≡◌, ◌⊎◌, ℕ, ◌+◌, ◌≤◌, nat_lt, cond, Bool, true, false, List, [], ◌∷◌, length, get_or, Result, Ok, Err, if◌then◌else◌, refl, ap, arith, inl, inr}
use Rattle.std.specs.List.{list_any, sum_by}
use Rattle.std.proofs.lemmas.Bool.{cases_Bool, eqb-true, ltb-false, or_parts}
use Rattle.std.proofs.lemmas.List.{length-map}
use Rattle.std.proofs.lemmas.List.Elements.{All-map}
use Rattle.std.proofs.lemmas.List.Sums.{sum_by-cons}
use Rattle.bac_values.specs.Identifier.{ObjectIdData}
use Rattle.bac_values.specs.Orders.{identifier_order}
use Rattle.alarm_core.specs.Limits.{HasFewDestinations, KeepsLimits}
use Rattle.site_config.specs.declared.class.ClassItem.{ClassItem}
use Rattle.site_config.specs.declared.destination.DestinationSite.{DestinationSite}
use Rattle.site_config.specs.declared.draft.Draft.{Draft}
use Rattle.site_config.specs.declared.fault.SiteFault.{SiteFault}
use Rattle.site_config.specs.Identifiers.{id_of_class, id_of_object, id_of_enrollment, id_of_log, id_of_binding}
use Rattle.site_config.specs.Limits.{are_crowded, count_of, limits_of, names_class, size_of}
use Rattle.site_config.specs.Sites.{bound, in_order, site_of_draft, with_destinations}
use Rattle.site_config.proofs.InOrder.{fold_weighs}
use Rattle.site_config.proofs.KeptRoom.{recipients}

-- ---- what is tested of a draft

-- a test that is passed, and what comes behind it
passed : (bad : Bool) (fault : SiteFault) (rest : Result (Unit {0}) SiteFault) (verdict : Unit {0}) → (if bad then Err fault else rest) ≡ Ok verdict → (bad ≡ false) × (rest ≡ Ok verdict)
passed true fault rest verdict h = absurd cc
passed false fault rest verdict h = (refl, h)

-- what a draft that passes has
pub record IsSmall (draft : Draft) : Type 0 where
  pub classes : length draft.classes ≤ most_classes
  pub crowded : are_crowded draft.destinations ≡ false
  pub objects : length draft.objects + length draft.enrollments ≤ most_objects
  pub logs : length draft.logs ≤ most_logs
  pub bindings : length draft.bindings ≤ most_bindings
  pub records : sum_by size_of draft.logs ≤ most_records

pub small_draft : (draft : Draft) (verdict : Unit {0}) → limits_of draft ≡ Ok verdict → IsSmall draft
small_draft draft verdict h =
    let classes = passed (nat_lt most_classes (length draft.classes)) _ _ verdict h in
    let crowded = passed (are_crowded draft.destinations) _ _ verdict classes.1 in
    let objects = passed (nat_lt most_objects (length draft.objects)) _ _ verdict crowded.1 in
    let both = passed (nat_lt most_objects (length draft.objects + length draft.enrollments)) _ _ verdict objects.1 in
    let logs = passed (nat_lt most_logs (length draft.logs)) _ _ verdict both.1 in
    let bindings = passed (nat_lt most_bindings (length draft.bindings)) _ _ verdict logs.1 in
    let records = passed (nat_lt most_records (sum_by size_of draft.logs)) _ _ verdict bindings.1 in
    record {
      classes = ltb-false most_classes (length draft.classes) classes.0;
      crowded = crowded.0;
      objects = ltb-false most_objects (length draft.objects + length draft.enrollments) both.0;
      logs = ltb-false most_logs (length draft.logs) logs.0;
      bindings = ltb-false most_bindings (length draft.bindings) bindings.0;
      records = ltb-false most_records (sum_by size_of draft.logs) records.0;
    }

-- ---- the destinations of a class

-- a class is named by none of these destinations, or has few among all
named_or_few : (number : ℕ) (all rest : List DestinationSite) → list_any (λ destination. nat_lt most_destinations (count_of destination.class.instance all)) rest ≡ false → (count_of number rest ≡ 0) ⊎ (count_of number all ≤ most_destinations)
named_or_few number all [] h = inl refl
named_or_few number all (destination ∷ rest) h =
    let parts = or_parts (nat_lt most_destinations (count_of destination.class.instance all)) (list_any (λ other. nat_lt most_destinations (count_of other.class.instance all)) rest) h in
    elim (cases_Bool (names_class number destination)) [
      | inl same ↦
          let is : destination.class.instance ≡ number = eqb-true destination.class.instance number same in
          inr (omega (arith, ltb-false most_destinations (count_of destination.class.instance all) parts.0, ap (λ n. count_of n all) is))
      | inr other ↦
          let one : count_of number (destination ∷ rest) ≡ cond (names_class number destination) 1 0 + count_of number rest = sum_by-cons (λ (d : DestinationSite). cond (names_class number d) 1 0) destination rest in
          elim (named_or_few number all rest parts.1) [ inl none ↦ inl (omega (arith, one, ap {B = ℕ} (λ (b : Bool). cond b 1 0) other, none)) | inr few ↦ inr few ]
    ]

few_named : (number : ℕ) (destinations : List DestinationSite) → are_crowded destinations ≡ false → count_of number destinations ≤ most_destinations
few_named number destinations h = elim (named_or_few number destinations destinations h) [ inl none ↦ omega (arith, none) | inr few ↦ few ]

has_few : (destinations : List DestinationSite) (item : ClassItem) → are_crowded destinations ≡ false → HasFewDestinations (with_destinations destinations item)
has_few destinations item h = omega (arith, recipients item.object.instance destinations, few_named item.object.instance destinations h)

-- ---- items in order

ones : {A : Type 0} (xs : List A) → sum_by (λ _. 1) xs ≡ length xs
ones [] = refl
ones (x ∷ xs) = omega (arith, ones xs, sum_by-cons (λ _. 1) x xs)

-- there are no more of them in order
no_more : {A : Type 0} (id_of : A → ObjectIdData) (xs : List A) → length (in_order id_of xs) ≤ length xs
no_more id_of xs = omega (arith, fold_weighs identifier_order id_of (λ _. 1) xs, ones (in_order id_of xs), ones xs)

-- ---- the site

pub limits_kept : (draft : Draft) → IsSmall draft → KeepsLimits (site_of_draft draft)
limits_kept draft small = record {
  objects = omega (arith, no_more id_of_object draft.objects, no_more id_of_enrollment draft.enrollments, small.objects);
  classes = omega (arith, length-map (in_order id_of_class draft.classes) (with_destinations draft.destinations), no_more id_of_class draft.classes, small.classes);
  destinations = All-map HasFewDestinations (with_destinations draft.destinations) (in_order id_of_class draft.classes) (λ k d within. has_few draft.destinations (get_or (in_order id_of_class draft.classes) k d) small.crowded);
  logs = omega (arith, no_more id_of_log draft.logs, small.logs);
  records = omega (arith, fold_weighs identifier_order id_of_log size_of draft.logs, small.records);
  bindings = omega (arith, length-map (in_order id_of_binding draft.bindings) bound, no_more id_of_binding draft.bindings, small.bindings);
}
