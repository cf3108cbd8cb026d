use Rattle.civil_stamp.proofs.ZoneLemmas.{goes_as}
use Rattle.civil_stamp.proofs.zone.Zone.time_zone.Goals as goal

pub returns : goal.returns
returns c = record { same = rw c.from_plain.ensures (goes_as c.said.result _ c.said.ensures.zone) }
