use Rattle.std.proofs.Common.{take}
use Rattle.state_codec.proofs.Following.{IsBehind}
use Rattle.state_codec.proofs.recovering.follow_bodies.Given as goal

-- the bodies so far lead to the core as it is
abbrev pub invariant-loop-body : goal.invariant-loop-body
invariant-loop-body l = IsBehind l.fn.core (take l.body-index l.bodies) l.octets l.rest l.core
