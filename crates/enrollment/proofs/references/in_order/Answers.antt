use Rattle.std.proofs.Common.{rules}
use Rattle.std.proofs.lemmas.List.Sorted.{answers_always}
use Rattle.enrollment.specs.References.{referred_by}
use Rattle.enrollment.proofs.Ordered.{sorted_is}
use Rattle.enrollment.proofs.references.in_order.Goals as goal

pub returns-clause-ascending : goal.returns-clause-ascending
returns-clause-ascending c = c.in_ok-sort_by_key.ensures.sorted referred_by (answers_always _ _ _ (λ f a r g called. search rules))

pub returns-clause-same : goal.returns-clause-same
returns-clause-same c =
    let sorted = c.in_ok-sort_by_key.ensures.sorted referred_by (answers_always _ _ _ (λ f a r g called. search rules)) in
    let stable = c.in_ok-sort_by_key.ensures.stable referred_by (answers_always _ _ _ (λ f a r g called. search rules)) in
    sorted_is c.args.references.items c.sort_by_key.new.self.items sorted stable
