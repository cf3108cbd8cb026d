use Rattle.std.proofs.Common.{◌≡◌, ◌∙◌, rules}
use Rattle.std.specs.declared.cmp.Ordering.TheVariants.{Less}
use Rattle.std.proofs.lemmas.List.Sorted.{answers_always}
use Rattle.bac_values.specs.Orders.{identifier_order}
use Rattle.bac_values.proofs.OrderLemmas.{identifiers_are_total}
use Rattle.object_table.specs.Rows.{is_object}
use Rattle.enrollment.specs.declared.enrollment_site.EnrollmentSite.{EnrollmentSite}
use Rattle.alarm_core.proofs.Halving.{halved, tells_object}
use Rattle.alarm_core.proofs.Places.{map_pairs}
use Rattle.alarm_core.proofs.site.some_enrollment.Goals as goal

pub returns : goal.returns
returns c =
    let facts = c.binary_search_by_key.ensures in
    let object = c.args.object in
    let by_key = facts.position (λ (listed : EnrollmentSite). listed.object) (answers_always _ _ _ (λ f a r g called. search rules)) in
    let found = halved identifier_order identifiers_are_total (λ (listed : EnrollmentSite). listed.object) object (λ id. is_object object id) (tells_object object) c.args.enrollments.now c.binary_search_by_key.result
    (map_pairs (λ a b. identifier_order a b ≡ Less) (λ (listed : EnrollmentSite). listed.object) c.args.enrollments.now c.requires.ascending) facts.bound by_key in
    record { some = c.is_ok.ensures.value ∙ found.there }
