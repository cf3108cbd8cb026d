use Rattle.std.proofs.lemmas.Result.{err_from_is_err_and}
use Rattle.alarm_server.proofs.workload.tally_by.Goals as goal

pub returns-in_err-press-clause-fault : goal.returns-in_err-press-clause-fault
returns-in_err-press-clause-fault c =
    let p = err_from_is_err_and c.from_residual.result c.from_residual.ensures.1 in
    rw (p.1, p.2) c.in_err-press.ensures.fault
