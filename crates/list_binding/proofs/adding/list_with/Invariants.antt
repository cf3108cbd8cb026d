use Rattle.list_binding.specs.Edits.{limits_of}
use Rattle.list_binding.proofs.Changes.{Goes}
use Rattle.list_binding.proofs.adding.list_with.Given as goal

-- the elements so far are added, and none of them failed
abbrev pub invariant-loop-place : goal.invariant-loop-place
invariant-loop-place l = record {
  goes : Goes (limits_of l.limits) l.list l.elements l.left.items l.place;
}
