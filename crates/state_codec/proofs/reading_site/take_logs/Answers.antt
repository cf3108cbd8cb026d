use Rattle.std.proofs.Common.{◌≡◌, ◌+◌, ◌++◌, ◌∷◌, [], drop, arith}
use Rattle.std.proofs.lemmas.List.{length-drop, nil_from_length}
use Rattle.std.proofs.lemmas.Result.{err_from_is_err_and}
use Rattle.event_log.specs.declared.log_site.LogSite.{LogSite}
use Rattle.state_codec.specs.SnapshotSteps.{logs_at, held_at}
use Rattle.state_codec.proofs.Loops.{splits_at, each_goes_on, each_ends, each_is_done}
use Rattle.state_codec.proofs.reading_site.take_logs.Goals as goal

pub returns-in_err-log : goal.returns-in_err-log
returns-in_err-log c =
    let read = held_at c.args.has_rule c.args.zone.now in
    let all = c.args.sites.now in
    let i = c.loop-listed.listed-index in
    let it : LogSite = c.listed-item.result in
    let split : drop i all ≡ it ∷ drop (i + 1) all = splits_at all i it c.loop-listed-test.true c.listed-item.is in
    let p = err_from_is_err_and c.from_residual.result c.from_residual.ensures.1 in
    record { exact = rw (p.1, p.2) (each_ends read c.in_err-log.field-0.0 c.loop-listed.logs.items (drop i all) it (drop (i + 1) all) c.loop-listed.bytes.now (logs_at c.args.has_rule c.args.zone.now all c.args.bytes.now.now) split c.in_err-log.ensures.exact c.loop-listed.invariant) }

pub loop-listed-preserved : goal.loop-listed-preserved
loop-listed-preserved c =
    let read = held_at c.args.has_rule c.args.zone.now in
    let all = c.args.sites.now in
    let i = c.loop-listed.listed-index in
    let it : LogSite = c.listed-item.result in
    let split : drop i all ≡ it ∷ drop (i + 1) all = splits_at all i it c.loop-listed-test.true c.listed-item.is in
    let e : c.push.new.items.items ≡ c.loop-listed.logs.items ++ c.in_ok-log.log ∷ [] = c.in_ok-push.ensures.added in
    rw e (each_goes_on read c.loop-listed.logs.items (drop i all) it (drop (i + 1) all) c.loop-listed.bytes.now c.in_ok-log.log c.take_held.new.bytes.now (logs_at c.args.has_rule c.args.zone.now all c.args.bytes.now.now) split c.in_ok-log.ensures.exact c.loop-listed.invariant)

pub returns : goal.returns
returns c =
    let read = held_at c.args.has_rule c.args.zone.now in
    let all = c.args.sites.now in
    let i = c.loop-listed.listed-index in
    let none : drop i all ≡ [] = nil_from_length (drop i all) (omega (arith, c.loop-listed-test.false, length-drop i all)) in
    record { exact = each_is_done read c.loop-listed.logs.items (drop i all) c.loop-listed.bytes.now (logs_at c.args.has_rule c.args.zone.now all c.args.bytes.now.now) none c.loop-listed.invariant }
