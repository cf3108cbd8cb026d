use Rattle.std.proofs.Common.{◌≡◌, min, take}
use Rattle.alarm_journal.specs.Opened.{sum_of}
use Rattle.standby.proofs.ends.length_of.Given as goal

abbrev pub invariant-loop-body : goal.invariant-loop-body
invariant-loop-body l = l.length ≡ min (sum_of (take l.body-index l.bodies)) l.octets
