use Rattle.std.proofs.Common.{sym, subst}
use Rattle.alarm_core.specs.DueSteps.{DetectionsState, DueOnesMove}
use Rattle.alarm_core.proofs.detections.Detections.are_still.Goals as goal

pub returns-clause-first : goal.returns-clause-first
returns-clause-first g c = λ moves. c.are_still.ensures.first (subst (λ (s : DetectionsState). DueOnesMove c.args.at.now s.values s.alarms) (sym c.self.view_is) moves)
