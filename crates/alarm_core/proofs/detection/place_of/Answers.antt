use Rattle.std.proofs.Common.{rules}
use Rattle.std.proofs.lemmas.List.Sorted.{answers_always}
use Rattle.alarm_core.specs.State.{DetectedObjectState}
use Rattle.alarm_core.proofs.Places.{searched}
use Rattle.alarm_core.proofs.detection.place_of.Goals as goal

pub returns : goal.returns
returns c =
    let facts = c.binary_search_by_key.ensures in
    let by_key = facts.position (λ (detected : DetectedObjectState). detected.object) (answers_always _ _ _ (λ f a r g called. search rules)) in
    let searched = searched c.args.object c.args.alarms.now c.binary_search_by_key.result c.requires.ascending facts.bound by_key in
    record { found = searched.found; absent = searched.absent }
