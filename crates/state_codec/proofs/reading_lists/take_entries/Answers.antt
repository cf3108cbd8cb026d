use Rattle.std.proofs.Common.{◌≡◌, ℕ, ◌-◌, ◌++◌, ◌∷◌, [], Some, subst, arith, ap}
use Rattle.std.proofs.lemmas.Result.{err_from_is_err_and}
use Rattle.event_log.specs.Log.{number_back}
use Rattle.state_codec.specs.ReadingSteps.{Fails}
use Rattle.state_codec.specs.SnapshotSteps.{each_at, entry_at, numbers_up_to}
use Rattle.state_codec.proofs.Loops.{numbers_split, each_goes_on, each_ends, each_is_done}
use Rattle.state_codec.proofs.reading_lists.take_entries.Goals as goal

pub returns-in_err-entry : goal.returns-in_err-entry
returns-in_err-entry c =
    let has = c.args.has_rule in
    let zone = c.args.zone.now in
    let total = c.args.total in
    let left = c.loop-left.left in
    let p = err_from_is_err_and c.from_residual.result c.from_residual.ensures.1 in
    let fails = subst (λ (n : ℕ). Fails c.in_err-entry.field-0.0 (entry_at has zone n c.loop-left.bytes.now)) c.number_back.ensures.exact c.in_err-entry.ensures.exact in
    record { exact = rw (p.1, p.2) (each_ends (entry_at has zone) c.in_err-entry.field-0.0 c.loop-left.entries.items (numbers_up_to total left) (number_back total (left - 1)) (numbers_up_to total (left - 1)) c.loop-left.bytes.now (each_at (entry_at has zone) (numbers_up_to total c.args.count) c.args.bytes.now.now) (numbers_split total left c.loop-left-test.true) fails c.loop-left.invariant) }

pub loop-left-preserved : goal.loop-left-preserved
loop-left-preserved c =
    let has = c.args.has_rule in
    let zone = c.args.zone.now in
    let total = c.args.total in
    let left = c.loop-left.left in
    let e : c.push.new.items.items ≡ c.loop-left.entries.items ++ c.in_ok-entry.entry ∷ [] = c.in_ok-push.ensures.added in
    let read = subst (λ (n : ℕ). entry_at has zone n c.loop-left.bytes.now ≡ Some (c.in_ok-entry.entry, c.take_entry.new.bytes.now)) c.number_back.ensures.exact c.in_ok-entry.ensures.exact in
    rw e (each_goes_on (entry_at has zone) c.loop-left.entries.items (numbers_up_to total left) (number_back total (left - 1)) (numbers_up_to total (left - 1)) c.loop-left.bytes.now c.in_ok-entry.entry c.take_entry.new.bytes.now (each_at (entry_at has zone) (numbers_up_to total c.args.count) c.args.bytes.now.now) (numbers_split total left c.loop-left-test.true) read c.loop-left.invariant)

pub returns : goal.returns
returns c =
    let has = c.args.has_rule in
    let zone = c.args.zone.now in
    let total = c.args.total in
    let left = c.loop-left.left in
    let zero_is : left ≡ 0 = omega (arith, c.loop-left-test.false) in
    let none : numbers_up_to total left ≡ [] = ap (numbers_up_to total) zero_is in
    record { exact = each_is_done (entry_at has zone) c.loop-left.entries.items (numbers_up_to total left) c.loop-left.bytes.now (each_at (entry_at has zone) (numbers_up_to total c.args.count) c.args.bytes.now.now) none c.loop-left.invariant }
