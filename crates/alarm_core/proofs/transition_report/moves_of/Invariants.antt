use Rattle.std.proofs.Common.{◌≡◌, map, take}
use Rattle.alarm_core.specs.ViewSteps.{moved_of}
use Rattle.alarm_core.proofs.transition_report.moves_of.Given as goal

abbrev pub invariant-loop-transition : goal.invariant-loop-transition
invariant-loop-transition l = l.moves.items ≡ map moved_of (take l.transition-index l.transitions)
