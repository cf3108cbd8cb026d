use Rattle.std.proofs.Common.{◌≡◌, Some, drop, arith}
use Rattle.state_codec.specs.ReadingSteps.{event_at}
use Rattle.state_codec.proofs.EventLaws.{from_place, leaves_fewer}
use Rattle.state_codec.proofs.event.event_from.Goals as goal

pub overflow_sub-result : goal.overflow_sub-result
overflow_sub-result c =
    let read : event_at (drop c.args.at c.args.bytes.now) ≡ Some (c.in-Ok.event, c.take_event.new.bytes.now) = from_place c.args.bytes.now c.args.at _ c.in-Ok.ensures.exact in
    leaves_fewer c.args.bytes.now c.args.at c.in-Ok.event c.take_event.new.bytes.now (λ i. omega (arith, c.type_inv.bytes i)) read

pub returns-in-Ok : goal.returns-in-Ok
returns-in-Ok c =
    let read : event_at (drop c.args.at c.args.bytes.now) ≡ Some (c.in-Ok.event, c.take_event.new.bytes.now) = from_place c.args.bytes.now c.args.at _ c.in-Ok.ensures.exact in
    let fewer = leaves_fewer c.args.bytes.now c.args.at c.in-Ok.event c.take_event.new.bytes.now (λ i. omega (arith, c.type_inv.bytes i)) read in
    record { exact = (c.take_event.new.bytes.now, read, omega (arith, fewer)) }
