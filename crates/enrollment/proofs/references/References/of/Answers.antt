use Rattle.std.proofs.Common.{ap, ◌∙◌}
use Rattle.enrollment.specs.References.{in_order}
use Rattle.enrollment.proofs.references.References.of.Goals as goal

pub returns : goal.returns
returns c = record { references = c.in_ok-references.ensures.same ∙ ap in_order c.in_ok-collected.ensures.references }
