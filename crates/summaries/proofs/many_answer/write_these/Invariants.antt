use Rattle.std.proofs.Common.{◌≡◌, ◌++◌, None, take}
use Rattle.std.specs.List.{flat_map}
use Rattle.summaries.specs.Many.{written_if_read}
use Rattle.summaries.proofs.many_answer.write_these.Given as goal

abbrev pub invariant-loop-property : goal.invariant-loop-property
invariant-loop-property g l = l.out.items ≡ l.initial.out.items ++ flat_map (λ property. written_if_read property (g.C.Shown.reads l.shown l.object property None)) (take l.property-index l.properties)
