use Rattle.std.proofs.Common.{◌≡◌, ◌*◌, length, ◌++◌, take}
use Rattle.std.specs.Prelude.{flat_map}
use Rattle.event_services.specs.Information.{written_summary}
use Rattle.event_services.proofs.information.write_summaries.Given as goal

abbrev pub invariant-loop-summary : goal.invariant-loop-summary
invariant-loop-summary l = record {
  written : l.out.items ≡ l.initial.out.items ++ flat_map written_summary (take l.summary-index l.summaries);
  long : length (flat_map written_summary (take l.summary-index l.summaries)) ≡ 61 * l.summary-index;
}
