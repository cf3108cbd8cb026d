-- Where nothing is sent, nothing is lost.
use Rattle.std.proofs.Common.{Option, Some, None, [], ap, arith}
use Rattle.ground_io.specs.Trace.{Told}
use Rattle.state_codec.specs.Emission.{Emits}
use Rattle.floor_desk.specs.Prefixes.{HasLost, losses}

-- where nothing was sent, nothing was lost
pub quiet_loses_nothing : (old new : Option Told) → Emits old new [] → HasLost 0 old new
quiet_loses_nothing old None sends = tt
quiet_loses_nothing None (Some new) sends = absurd sends.1
quiet_loses_nothing (Some old) (Some new) sends = (sends.0, sends.1, omega (arith, ap losses sends.2))
