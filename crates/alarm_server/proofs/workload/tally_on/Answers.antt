use Rattle.std.proofs.Common.{ap, sym, subst, Err, ◌∙◌}
use Rattle.alarm_core.specs.State.{CoreState}
use Rattle.alarm_server.specs.Status.{IsInnerFault}
use Rattle.alarm_server.proofs.OfWorkload.{ends_inner, refuses_line, reported, takes_site}
use Rattle.alarm_server.proofs.workload.tally_on.Goals as goal

pub returns-in-Ok-clause-tally : goal.returns-in-Ok-clause-tally
returns-in-Ok-clause-tally g c =
    let own = ap (λ (s : CoreState). s.site) c.in_ok-core.ensures.starts in
    reported c.args.site.now c.in_ok-core.core c.args.script.now.left c.in-Ok.tally c.requires.site c.in_ok-core.ensures.represents own (rw c.in-Ok.is at c.play_session-device.ensures.tally)

pub returns-in-Ok-clause-accepted : goal.returns-in-Ok-clause-accepted
returns-in-Ok-clause-accepted g c = rw c.in-Ok.is at c.play_session-device.ensures.accepted

pub returns-in-Err-clause-fault : goal.returns-in-Err-clause-fault
returns-in-Err-clause-fault g c = subst IsInnerFault (sym c.of_memory.ensures.status) (ends_inner c.in-Err.status (rw c.in-Err.is at c.play_session-device.ensures.fault))

pub returns-in-Err-clause-takes_site : goal.returns-in-Err-clause-takes_site
returns-in-Err-clause-takes_site g c = λ why same. takes_site c.in-Err.status c.of_memory.result why c.of_memory.ensures.status (rw c.in-Err.is at c.play_session-device.ensures.fault) same

pub returns-in-Err-clause-refused : goal.returns-in-Err-clause-refused
returns-in-Err-clause-refused g c = λ line same. c.play_session-device.ensures.refused line (c.in-Err.is ∙ ap Err (refuses_line c.in-Err.status c.of_memory.result line c.of_memory.ensures.status same))
