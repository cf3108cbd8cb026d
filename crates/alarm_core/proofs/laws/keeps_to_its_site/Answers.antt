use Rattle.alarm_core.proofs.KeptSites.{keeps_to_its_site}
use Rattle.alarm_core.proofs.laws.keeps_to_its_site.Goals as goal

pub returns : goal.returns
returns c = record { states = keeps_to_its_site }
