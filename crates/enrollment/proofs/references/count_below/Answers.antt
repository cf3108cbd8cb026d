use Rattle.std.proofs.Common.{rules}
use Rattle.std.proofs.lemmas.List.Sorted.{IsPartitionPoint-from_clause}
use Rattle.enrollment.specs.References.{is_below}
use Rattle.enrollment.proofs.Ordered.{parted_below}
use Rattle.enrollment.proofs.references.count_below.Goals as goal

pub returns-clause-point : goal.returns-clause-point
returns-clause-point c =
    IsPartitionPoint-from_clause (is_below c.args.object) c.args.references.now c.partition_point.result c.partition_point.ensures.partitioned (parted_below c.args.object c.args.references.now c.requires.ascending) (λ a r f called. search rules)
