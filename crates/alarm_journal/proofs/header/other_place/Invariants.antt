use Rattle.std.proofs.Common.{◌≡◌, ◌+◌, drop}
use Rattle.alarm_journal.specs.JournalSteps.{first_other}
use Rattle.alarm_journal.proofs.header.other_place.Given as goal

abbrev pub invariant-loop-i : goal.invariant-loop-i
invariant-loop-i l = first_other l.place l.wanted l.found ≡ first_other (l.place + l.i) (drop l.i l.wanted) (drop l.i l.found)
