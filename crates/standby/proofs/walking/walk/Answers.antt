use Rattle.std.proofs.Common.{◌≡◌, ℕ, ◌+◌, ◌<◌, List, length, Err, sym, subst, arith}
use Rattle.std.proofs.lemmas.Result.{err_from_is_err_and}
use Rattle.state_codec.specs.declared.fault.CodecFault.TheVariants.{Malformed}
use Rattle.standby.proofs.Walks.{IsWalking, no_events, walked_on}
use Rattle.standby.proofs.walking.walk.Goals as goal

pub returns-in_err-event-clause-refused : goal.returns-in_err-event-clause-refused
returns-in_err-event-clause-refused c = λ place e.
    let p = err_from_is_err_and c.from_residual.result c.from_residual.ensures.1 in
    let is : c.read_event.result ≡ Err (Malformed place) = cc in
    let r = c.read_event.ensures.refused place is in
    let here = c.loop-at in
    let octets : List ℕ = c.args.octets.now in
    let within : here.at < length octets = omega arith in
    no_events octets c.args.skip here.at here.walked.count here.walked.at within here.invariant (λ event end spelled. r.1 event end spelled)

pub loop-at-preserved : goal.loop-at-preserved
loop-at-preserved c =
    let here = c.loop-at in
    let octets : List ℕ = c.args.octets.now in
    let within : here.at < length octets = omega arith in
    let on = walked_on octets c.args.skip here.at here.walked.count here.walked.at c.in_ok-event.end c.in_ok-event.event within here.invariant c.in_ok-event.ensures.found in
    subst (λ (n : ℕ). IsWalking octets c.args.skip c.in_ok-event.end n c.further-walked.result.at) (sym c.further-walked.ensures.count)
    (subst (λ (p : ℕ). IsWalking octets c.args.skip c.in_ok-event.end (here.walked.count + 1) p) (sym c.further-walked.ensures.at) on)
