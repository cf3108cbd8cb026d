use Rattle.std.proofs.Common.{◌≡◌, Vec, Global, map, take}
use Rattle.std.specs.List.{flat_map}
use Rattle.event_log.specs.History.{Call}
use Rattle.alarm_core.specs.Logs.{SiteLogState}
use Rattle.alarm_core.specs.ViewSteps.{record_to}
use Rattle.alarm_core.proofs.logs.records_of_all.Given as goal

abbrev pub invariant-loop-kept : goal.invariant-loop-kept
invariant-loop-kept l =
    map (λ (list : Vec Call Global). list.items) l.lists.items ≡ map (λ (kept : SiteLogState). flat_map (record_to l.at kept.site) l.addressed) (take l.kept-index l.logs)
