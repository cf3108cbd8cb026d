use Rattle.event_machine.proofs.HeldTest.{tells_held}
use Rattle.event_machine.proofs.Since.{keeps_points_since, holds_since_entry}
use Rattle.event_machine.proofs.RunStarts.{run_start_tells_held}
use Rattle.event_machine.proofs.laws.holds_since_entry.Goals as goal

pub returns-clause-test : goal.returns-clause-test
returns-clause-test c = tells_held

pub returns-clause-points : goal.returns-clause-points
returns-clause-points c = keeps_points_since

pub returns-clause-start : goal.returns-clause-start
returns-clause-start c = holds_since_entry

pub returns-clause-run_start : goal.returns-clause-run_start
returns-clause-run_start c = run_start_tells_held
