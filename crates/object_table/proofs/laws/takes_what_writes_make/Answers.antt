use Rattle.object_table.proofs.Accepting.{takes_what_writes_make}
use Rattle.object_table.proofs.laws.takes_what_writes_make.Goals as goal

pub returns : goal.returns
returns c = record { writes = takes_what_writes_make }
