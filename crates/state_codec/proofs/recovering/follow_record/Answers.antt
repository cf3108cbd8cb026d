use Rattle.std.proofs.Common.{◌≡◌, Err, subst}
use Rattle.std.proofs.lemmas.Result.{err_from_is_err_and}
use Rattle.alarm_core.specs.declared.event.Event.{Event as Happening}
use Rattle.state_codec.specs.declared.fault.CodecFault.TheVariants.{Malformed}
use Rattle.alarm_core.specs.Following.{MayFollow}
use Rattle.state_codec.proofs.Following.{only_this}
use Rattle.state_codec.proofs.recovering.follow_record.Goals as goal

pub returns-in_err-event-clause-refused : goal.returns-in_err-event-clause-refused
returns-in_err-event-clause-refused c = λ place e.
    let p = err_from_is_err_and c.from_residual.result c.from_residual.ensures.1 in
    let is : c.read_event.result ≡ Err (Malformed place) = cc in
    let r = c.read_event.ensures.refused place is in
    (r.0, λ event end spelled may. r.1 event end spelled)

pub returns-in_err-follow-clause-refused : goal.returns-in_err-follow-clause-refused
returns-in_err-follow-clause-refused c = λ place e.
    let p = err_from_is_err_and c.from_residual-in_err-follow.result c.from_residual-in_err-follow.ensures.1 in
    let is : c.follow.result ≡ Err (Malformed place) = cc in
    let r = c.follow.ensures.refused place is in
    (r.0, λ event end spelled may. r.1 (subst (λ (x : Happening). MayFollow x c.args.core.now) (only_this c.read_event.result event c.in_ok-event.event end c.in_ok-event.end (c.read_event.ensures.only event end spelled) cc) may))
