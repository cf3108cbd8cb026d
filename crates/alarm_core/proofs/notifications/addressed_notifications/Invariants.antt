use Rattle.std.proofs.Common.{◌≡◌, take}
use Rattle.std.specs.List.{flat_map}
use Rattle.std.specs.Option.{option_to_list}
use Rattle.alarm_core.specs.ViewSteps.{addressed_in, transition_in}
use Rattle.alarm_core.proofs.notifications.addressed_notifications.Given as goal

abbrev pub invariant-loop-transition : goal.invariant-loop-transition
invariant-loop-transition l = l.list.items ≡ flat_map (λ transition. option_to_list (addressed_in l.view (transition_in l.view transition))) (take l.transition-index l.transitions)
