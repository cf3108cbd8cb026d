use Rattle.std.proofs.Common.{◌≡◌, ◌+◌, ◌++◌, ◌∷◌, [], drop, arith}
use Rattle.std.proofs.lemmas.List.{length-drop, nil_from_length}
use Rattle.std.proofs.lemmas.Result.{err_from_is_err_and}
use Rattle.enrollment.specs.declared.subject.Subject.{Subject}
use Rattle.state_codec.specs.SnapshotSteps.{alarms_at, subject_at}
use Rattle.state_codec.proofs.Loops.{splits_at, each_goes_on, each_ends, each_is_done}
use Rattle.state_codec.proofs.reading_site.take_alarms.Goals as goal

pub returns-in_err-alarm : goal.returns-in_err-alarm
returns-in_err-alarm c =
    let read = subject_at c.args.table.now c.args.last in
    let all = c.args.subjects.now in
    let i = c.loop-subject.subject-index in
    let it : Subject = c.subject-item.result in
    let split : drop i all ≡ it ∷ drop (i + 1) all = splits_at all i it c.loop-subject-test.true c.subject-item.is in
    let p = err_from_is_err_and c.from_residual.result c.from_residual.ensures.1 in
    record { exact = rw (p.1, p.2) (each_ends read c.in_err-alarm.field-0.0 c.loop-subject.alarms.items (drop i all) it (drop (i + 1) all) c.loop-subject.bytes.now (alarms_at c.args.table.now c.args.last all c.args.bytes.now.now) split c.in_err-alarm.ensures.exact c.loop-subject.invariant) }

pub loop-subject-preserved : goal.loop-subject-preserved
loop-subject-preserved c =
    let read = subject_at c.args.table.now c.args.last in
    let all = c.args.subjects.now in
    let i = c.loop-subject.subject-index in
    let it : Subject = c.subject-item.result in
    let split : drop i all ≡ it ∷ drop (i + 1) all = splits_at all i it c.loop-subject-test.true c.subject-item.is in
    let e : c.push.new.items.items ≡ c.loop-subject.alarms.items ++ c.in_ok-alarm.alarm ∷ [] = c.in_ok-push.ensures.added in
    rw e (each_goes_on read c.loop-subject.alarms.items (drop i all) it (drop (i + 1) all) c.loop-subject.bytes.now c.in_ok-alarm.alarm c.take_subject.new.bytes.now (alarms_at c.args.table.now c.args.last all c.args.bytes.now.now) split c.in_ok-alarm.ensures.exact c.loop-subject.invariant)

pub returns : goal.returns
returns c =
    let read = subject_at c.args.table.now c.args.last in
    let all = c.args.subjects.now in
    let i = c.loop-subject.subject-index in
    let none : drop i all ≡ [] = nil_from_length (drop i all) (omega (arith, c.loop-subject-test.false, length-drop i all)) in
    record { exact = each_is_done read c.loop-subject.alarms.items (drop i all) c.loop-subject.bytes.now (alarms_at c.args.table.now c.args.last all c.args.bytes.now.now) none c.loop-subject.invariant }
