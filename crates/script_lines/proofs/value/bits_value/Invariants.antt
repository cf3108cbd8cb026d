use Rattle.script_lines.proofs.BitDigits.{Behind}
use Rattle.script_lines.proofs.value.bits_value.Given as goal

-- the digits that were taken write the number
abbrev pub invariant-loop-digit : goal.invariant-loop-digit
invariant-loop-digit l = Behind l.digits l.digit-iterator.iter.rest.now l.number
