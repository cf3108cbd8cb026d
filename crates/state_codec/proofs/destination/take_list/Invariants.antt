use Rattle.std.proofs.Common.{◌≡◌, ◌-◌}
use Rattle.state_codec.specs.ReadingSteps.{list_at}
use Rattle.state_codec.proofs.Lists.{with_front}
use Rattle.state_codec.proofs.destination.take_list.Given as goal

abbrev pub invariant-loop : goal.invariant-loop
invariant-loop l = with_front l.recipients.items (list_at (l.count - l.counter) l.bytes.now) ≡ list_at l.count l.fn.bytes.now
