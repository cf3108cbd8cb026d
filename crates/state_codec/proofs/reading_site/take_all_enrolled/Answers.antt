use Rattle.std.proofs.Common.{rules, ◌≡◌, ◌++◌, ◌∷◌, [], length}
use Rattle.std.specs.List.{zip}
use Rattle.std.proofs.lemmas.List.{nil_from_length}
use Rattle.std.proofs.lemmas.Result.{err_from_is_err_and}
use Rattle.event_machine.specs.Summary.{AlarmState}
use Rattle.enrollment.specs.declared.enrollment_site.EnrollmentSite.{EnrollmentSite}
use Rattle.state_codec.specs.SnapshotSteps.{all_enrolled_at, enrolled_at}
use Rattle.state_codec.proofs.Loops.{each_goes_on, each_ends, each_is_done}
use Rattle.state_codec.proofs.Pairs.{one_more_pair, still_paired}
use Rattle.state_codec.proofs.reading_site.take_all_enrolled.Goals as goal

pub returns-in_err-alarm-clause-exact : goal.returns-in_err-alarm-clause-exact
returns-in_err-alarm-clause-exact c =
    let read = enrolled_at c.args.table.now c.args.last in
    let it : EnrollmentSite = c.in-Some.site in
    let split : c.loop-site.left.rest.items ≡ it ∷ c.next.new.self.rest.items = c.in-Some.ensures.items in
    let p = err_from_is_err_and c.from_residual.result c.from_residual.ensures.1 in
    rw (p.1, p.2) (each_ends read c.in_err-alarm.field-0.0 (zip c.loop-site.alarms.items c.loop-site.enrollments.items) c.loop-site.left.rest.items it c.next.new.self.rest.items c.loop-site.bytes.now (all_enrolled_at c.args.table.now c.args.last c.args.sites.items c.args.bytes.now.now) split c.in_err-alarm.ensures.exact c.loop-site.invariant.read)

pub loop-site-preserved : goal.loop-site-preserved
loop-site-preserved c =
    let read = enrolled_at c.args.table.now c.args.last in
    let it : EnrollmentSite = c.in-Some.site in
    let split : c.loop-site.left.rest.items ≡ it ∷ c.next.new.self.rest.items = c.in-Some.ensures.items in
    let alarms = c.loop-site.alarms.items in
    let enrollments = c.loop-site.enrollments.items in
    let alarm : AlarmState = c.in_ok-alarm.alarm in
    let enrollment : EnrollmentSite = c.in_ok-alarm.enrollment in
    let one : c.push.new.items.items ≡ alarms ++ alarm ∷ [] = c.in_ok-push.ensures.added in
    let two : c.push-in-Some.new.items.items ≡ enrollments ++ enrollment ∷ [] = c.in_ok-push-2.ensures.added in
    let all : zip (alarms ++ alarm ∷ []) (enrollments ++ enrollment ∷ []) ≡ zip alarms enrollments ++ (alarm, enrollment) ∷ [] = one_more_pair alarms enrollments alarm enrollment c.loop-site.invariant.paired in
    record {
      read = rw (one, two, all) (each_goes_on read (zip alarms enrollments) c.loop-site.left.rest.items it c.next.new.self.rest.items c.loop-site.bytes.now (alarm, enrollment) c.take_enrolled.new.bytes.now (all_enrolled_at c.args.table.now c.args.last c.args.sites.items c.args.bytes.now.now) split c.in_ok-alarm.ensures.exact c.loop-site.invariant.read);
      paired = rw (one, two) (still_paired alarms enrollments alarm enrollment c.loop-site.invariant.paired);
    }

pub returns-clause-exact : goal.returns-clause-exact
returns-clause-exact c =
    let read = enrolled_at c.args.table.now c.args.last in
    let empty : length c.loop-site.left.rest.items ≡ 0 = search rules in
    let none : c.loop-site.left.rest.items ≡ [] = nil_from_length c.loop-site.left.rest.items empty in
    each_is_done read (zip c.loop-site.alarms.items c.loop-site.enrollments.items) c.loop-site.left.rest.items c.loop-site.bytes.now (all_enrolled_at c.args.table.now c.args.last c.args.sites.items c.args.bytes.now.now) none c.loop-site.invariant.read
