use Rattle.std.proofs.Common.{rules, ◌≡◌, refl}
use Rattle.std.specs.List.{flat_map}
use Rattle.std.specs.Iterator.Adapters.{zip_first, zip_second}
use Rattle.std.specs.Slice.Iter.{iter_rest}
use Rattle.std.proofs.lemmas.Slice.Zip.{zip_end}
use Rattle.alarm_core.specs.Parts.{detected_by}
use Rattle.alarm_core.proofs.Restored.{pairs_done}
use Rattle.alarm_core.proofs.restoring.detected_of.Goals as goal

pub returns : goal.returns
returns c =
    let subjects = c.args.subjects.now in
    let alarms = c.args.alarms.now in
    let one = detected_by c.args.site.now in
    let begun = c.into_iter-subject-iterator.result in
    let first : iter_rest (zip_first begun) ≡ subjects = search rules in
    let second : iter_rest (zip_second begun) ≡ alarms = search rules in
    let end = zip_end subjects alarms c.loop-subject.yielded begun c.loop-subject.subject-iterator c.next.new.self c.next.result first second c.loop-subject.yielded_by c.in-None.is c.next.ensures.steps in
    record { detected = pairs_done one (flat_map one) (λ pair pairs. refl) subjects alarms _ c.loop-subject.detected.items _ end refl c.loop-subject.invariant }
