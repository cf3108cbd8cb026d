use Rattle.std.proofs.Common.{◌≡◌, take}
use Rattle.std.specs.List.{flat_map}
use Rattle.alarm_core.specs.ViewSteps.{record_to}
use Rattle.alarm_core.proofs.logs.SiteLog.records_of.Given as goal

abbrev pub invariant-loop-told : goal.invariant-loop-told
invariant-loop-told l = l.entries.items ≡ flat_map (record_to l.at l.self.site) (take l.told-index l.addressed)
