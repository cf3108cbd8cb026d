use Rattle.profile_laws.proofs.StartPoints.{runs_start_at_points}
use Rattle.profile_laws.proofs.laws.run_starts_are_points.Goals as goal

pub returns : goal.returns
returns c = record { starts = runs_start_at_points }
