use Rattle.alarm_core.proofs.ClassesThere.{classes_are_there}
use Rattle.alarm_core.proofs.laws.classes_are_there.Goals as goal

pub returns : goal.returns
returns c = record { classes = classes_are_there }
