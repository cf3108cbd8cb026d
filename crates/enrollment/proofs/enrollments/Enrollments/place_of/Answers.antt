use Rattle.std.proofs.Common.{rules}
use Rattle.std.proofs.lemmas.List.Sorted.{answers_always}
use Rattle.enrollment.proofs.Places.{searched}
use Rattle.enrollment.proofs.enrollments.Enrollments.place_of.Goals as goal

pub returns : goal.returns
returns c =
    let facts = c.binary_search_by_key.ensures in
    let by_key = facts.position (λ site. site.object) (answers_always _ _ _ (λ f a r g called. search rules)) in
    rw (← c.self.view_is, ← c.deref.ensures.value) (searched c.args.object c.deref.result.now c.binary_search_by_key.result (rw c.deref.ensures.value c.self.invariant.ascending) facts.bound by_key)
