use Rattle.std.proofs.Common.{ℕ, ◌==◌, rules}
use Rattle.std.specs.Ordering.{nat_cmp}
use Rattle.std.proofs.lemmas.Cmp.{nat_cmp_total}
use Rattle.std.proofs.lemmas.List.Sorted.{answers_always}
use Rattle.notify_class.specs.declared.class_site.ClassSite.{ClassSite}
use Rattle.alarm_core.proofs.Halving.{ascend_by_number, halved, tells_number}
use Rattle.alarm_core.proofs.site.place_of_listed.Goals as goal

pub returns : goal.returns
returns c =
    let facts = c.binary_search_by_key.ensures in
    let number = c.args.instance in
    let by_key = facts.position (λ (listed : ClassSite). listed.class.instance) (answers_always _ _ _ (λ f a r g called. search rules)) in
    let found = halved nat_cmp nat_cmp_total (λ (listed : ClassSite). listed.class.instance) number (λ n. n == number) (tells_number number) c.args.classes.now c.binary_search_by_key.result
    (ascend_by_number (λ (listed : ClassSite). listed.class.instance) c.args.classes.now c.requires.ascending) facts.bound by_key in
    record { found = found.found; absent = found.absent }
