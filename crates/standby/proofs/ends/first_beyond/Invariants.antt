use Rattle.std.proofs.Common.{ℕ, ◌+◌, ◌-◌, ◌<◌, ◌≤◌, length, get_or}
use Rattle.standby.specs.Packets.{most_packet_octets}
use Rattle.standby.proofs.ends.first_beyond.Given as goal

abbrev pub invariant-loop-last : goal.invariant-loop-last
invariant-loop-last l = record {
  from : l.next ≤ l.last;
  there : l.last ≤ length l.ends;
  fit : (k : ℕ) → l.next ≤ k → k < l.last → get_or l.ends k 0 ≤ l.start + most_packet_octets;
}

abbrev pub decreases-loop-last : goal.decreases-loop-last
decreases-loop-last l = length l.ends - l.last
