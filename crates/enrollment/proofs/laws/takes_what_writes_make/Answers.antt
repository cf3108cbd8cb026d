use Rattle.enrollment.proofs.Taking.{takes_what_writes_make}
use Rattle.enrollment.proofs.laws.takes_what_writes_make.Goals as goal

pub returns : goal.returns
returns c = record { writes = takes_what_writes_make }
