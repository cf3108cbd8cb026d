use Rattle.std.proofs.Common.{◌≡◌, ◌++◌, ◌∷◌, []}
use Rattle.std.proofs.lemmas.Result.{err_from_is_err_and}
use Rattle.state_codec.specs.ReadingSteps.{list_at}
use Rattle.state_codec.proofs.Lists.{goes_on, ends, is_done}
use Rattle.state_codec.proofs.destination.take_list.Goals as goal

pub returns-in_err-recipient : goal.returns-in_err-recipient
returns-in_err-recipient c =
    let p = err_from_is_err_and c.from_residual.result c.from_residual.ensures.1 in
    record { exact = rw (p.1, p.2) (ends c.in_err-recipient.field-0.0 c.loop.recipients.items c.args.count c.loop.counter c.loop.bytes.now (list_at c.args.count c.args.bytes.now.now) c.loop-test.true c.in_err-recipient.ensures.exact c.loop.invariant) }

pub loop-preserved : goal.loop-preserved
loop-preserved c =
    let e : c.push.new.items.items ≡ c.loop.recipients.items ++ c.in_ok-recipient.recipient ∷ [] = c.in_ok-push.ensures.added in
    rw e (goes_on c.loop.recipients.items c.args.count c.loop.counter c.loop.bytes.now c.in_ok-recipient.recipient c.take_destination.new.bytes.now (list_at c.args.count c.args.bytes.now.now) c.loop-test.true c.in_ok-recipient.ensures.exact c.loop.invariant)

pub returns : goal.returns
returns c = record { exact = is_done c.loop.recipients.items c.args.count c.loop.counter c.loop.bytes.now (list_at c.args.count c.args.bytes.now.now) c.loop-test.false c.loop.invariant }
