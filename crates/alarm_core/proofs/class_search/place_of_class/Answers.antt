use Rattle.std.proofs.Common.{◌==◌, rules}
use Rattle.std.specs.Ordering.{nat_cmp}
use Rattle.std.proofs.lemmas.Cmp.{nat_cmp_total}
use Rattle.std.proofs.lemmas.List.Sorted.{answers_always}
use Rattle.notify_class.specs.declared.class.Class.{Class}
use Rattle.alarm_core.proofs.ByNumber.{searched}
use Rattle.alarm_core.proofs.Halving.{ascend_by_number, halved, tells_number}
use Rattle.alarm_core.proofs.class_search.place_of_class.Goals as goal

pub returns : goal.returns
returns c =
    let facts = c.binary_search_by_key.ensures in
    let number = c.args.instance in
    let by_key = facts.position (λ (class : Class). class.instance) (answers_always _ _ _ (λ f a r g called. search rules)) in
    let searched = searched (λ (class : Class). class.instance) number c.args.classes.now c.requires.ascending c.binary_search_by_key.result facts.bound by_key in
    let halved = halved nat_cmp nat_cmp_total (λ (class : Class). class.instance) number (λ n. n == number) (tells_number number) c.args.classes.now c.binary_search_by_key.result
    (ascend_by_number (λ (class : Class). class.instance) c.args.classes.now c.requires.ascending) facts.bound by_key in
    record { found = searched.found; stands = halved.found; number = searched.number_is; absent = searched.absent }
