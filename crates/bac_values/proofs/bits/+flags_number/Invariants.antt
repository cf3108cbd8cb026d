use Rattle.std.proofs.Common.{length}
use Rattle.bac_values.proofs.bits.+flags_number.Given as goal

abbrev pub decreases-flags_number : goal.decreases-flags_number
decreases-flags_number l = length l.flags.now
