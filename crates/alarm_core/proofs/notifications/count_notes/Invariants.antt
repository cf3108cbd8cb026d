use Rattle.std.proofs.Common.{◌≡◌, ◌+◌, length, take}
use Rattle.std.specs.List.{flat_map}
use Rattle.alarm_core.specs.Notes.{notes_of_transition}
use Rattle.alarm_core.specs.ViewSteps.{transition_in}
use Rattle.alarm_core.proofs.notifications.count_notes.Given as goal

abbrev pub invariant-loop-transition : goal.invariant-loop-transition
invariant-loop-transition l = l.count ≡ l.others + length (flat_map (λ transition. notes_of_transition l.view.site l.view.classes (transition_in l.view transition)) (take l.transition-index l.transitions))
