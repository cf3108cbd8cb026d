use Rattle.alarm_core.proofs.RestoredParts.{restores_what_it_tells}
use Rattle.alarm_core.proofs.laws.restores_what_it_tells.Goals as goal

pub returns : goal.returns
returns c = record { restores = restores_what_it_tells }
