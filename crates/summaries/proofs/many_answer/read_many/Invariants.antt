use Rattle.std.proofs.Common.{◌≡◌, ◌-◌, ◌≤◌, ◌++◌, List, length}
use Rattle.std.specs.List.{flat_map}
use Rattle.summaries.specs.Many.{written_group}
use Rattle.summaries.specs.ManyRefusals.{AreAt, IsGroupAt}
use Rattle.summaries.specs.ManyRequests.{ObjectAsked, SpellsReadMany}
use Rattle.summaries.proofs.many_answer.read_many.Given as goal

-- those that were told, and those that are left
abbrev pub invariant-loop-at : goal.invariant-loop-at
invariant-loop-at g l = record {
  within : l.at ≤ length l.request;
  told : (done : List ObjectAsked) × (left : List ObjectAsked) × SpellsReadMany l.request (done ++ left) × AreAt (IsGroupAt l.request) l.at left (length l.request)
      × (l.out.items ≡ flat_map (written_group (g.C.Shown.reads l.shown)) done);
}

abbrev pub decreases-loop-at : goal.decreases-loop-at
decreases-loop-at g l = length l.request - l.at
