use Rattle.std.proofs.Common.{◌≡◌, Err}
use Rattle.std.proofs.lemmas.Result.{err_from_is_err_and}
use Rattle.state_codec.specs.declared.fault.CodecFault.TheVariants.{Malformed}
use Rattle.standby.proofs.ends.end_at.Goals as goal

pub returns-in_err-_event-clause-refused : goal.returns-in_err-_event-clause-refused
returns-in_err-_event-clause-refused c = λ place e.
    let p = err_from_is_err_and c.from_residual.result c.from_residual.ensures.1 in
    let is : c.read_event.result ≡ Err (Malformed place) = cc in
    c.read_event.ensures.refused place is
