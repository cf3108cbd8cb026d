use Rattle.std.proofs.Common.{◌≡◌, ◌++◌, drop, length}
use Rattle.std.specs.List.{flat_map, zip}
use Rattle.alarm_core.specs.Parts.{detected_by}
use Rattle.alarm_core.proofs.restoring.detected_of.Given as goal

-- what is done and what is left is the whole
abbrev pub invariant-loop-subject : goal.invariant-loop-subject
invariant-loop-subject l =
    l.detected.items ++ flat_map (detected_by l.site) (zip (drop (length l.yielded) l.subjects) (drop (length l.yielded) l.alarms))
    ≡ flat_map (detected_by l.site) (zip l.subjects l.alarms)
