use Rattle.std.proofs.Common.{◌≡◌, ◌-◌, ◌≤◌, ◌++◌, drop, length}
use Rattle.summaries.specs.Summaries.{enrollment_summary_of}
use Rattle.summaries.proofs.enrollments.enrollment_summary.Given as goal

abbrev pub invariant-loop-row : goal.invariant-loop-row
invariant-loop-row g l = record {
  within : l.place ≤ length (g.C.Shown.rows l.shown);
  told : l.out.items ++ enrollment_summary_of (drop l.place (g.C.Shown.rows l.shown)) (g.C.Shown.class_of l.shown) l.filter
      ≡ enrollment_summary_of (g.C.Shown.rows l.shown) (g.C.Shown.class_of l.shown) l.filter;
  fits : length l.out.items ≤ l.room;
}

abbrev pub decreases-loop-row : goal.decreases-loop-row
decreases-loop-row g l = length (g.C.Shown.rows l.shown) - l.place
