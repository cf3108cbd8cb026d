use Rattle.std.proofs.Common.{ℕ, ◌<◌, inl, inr, refl, ap, ◌∙◌, subst}
use Rattle.ground_io.specs.Counts.{HasCause}
use Rattle.floor_desk.specs.Serving.{LeavesDisk}
use Rattle.alarm_server.specs.declared.status.Status.{Status}
use Rattle.alarm_server.proofs.ServedFaults.{lost_served, lost_unserved, none_served, rose_served, rose_unopened, same_served, unopened_not_done}
use Rattle.alarm_server.proofs.ServedKept.{site_served}
use Rattle.alarm_server.proofs.serve.serve_site.Goals as goal

pub returns-in-Err-clause-serves : goal.returns-in-Err-clause-serves
returns-in-Err-clause-serves g c =
    let e = c.in-Err.ensures in
    inl (
      record {
        fault = c.in-Err.fault;
        unserved = c.none.ensures.none ∙ ap (λ (s : Status). record { status = s; received = 0; events = 0; durable = 0; lost = 0 }) c.from.ensures;
        refused = e.refused;
        unchanged = e.unchanged;
        small = e.small;
        below = e.below;
        stands = e.stands;
        reopens = e.reopens;
        quiet = e.quiet;
        cause = e.cause;
        unhidden = e.unhidden;
      },
      refl,
    )

pub returns-clause-serves : goal.returns-clause-serves
returns-clause-serves g c =
    let e = c.in-Ok.ensures in let d = c.serve_desk-device in
    inr (site_served g.G.Ground.told g.G.Ground.size g.G.Ground.disk_faults g.G.Ground.emit_faults (g.K.Clock.shows c.args.clock.now) c.args.site.now c.args.text.now c.args.count (g.L.Link.left c.args.link) (g.L.Link.left d.result.1) c.args.device d.result.0 c.in-Ok.desk.origin d.result.2 c.of.result
    e.site c.of.ensures.closed d.ensures.most d.ensures.done d.ensures.serves (subst (λ (n : ℕ). LeavesDisk n (g.G.Ground.disk_faults d.result.0) d.result.2.end) e.cause d.ensures.disk) e.emitted e.enough e.leads e.represents e.holds e.reopens)

pub returns-in-Err-clause-disk_cause : goal.returns-in-Err-clause-disk_cause
returns-in-Err-clause-disk_cause g c = rose_unopened _ _ c.in-Err.fault c.from.result c.none.result c.from.ensures c.none.ensures.none c.in-Err.ensures.cause

pub returns-in-Err-clause-no_disk_fault : goal.returns-in-Err-clause-no_disk_fault
returns-in-Err-clause-no_disk_fault g c = λ done. absurd (unopened_not_done c.in-Err.fault c.from.result c.none.result c.from.ensures c.none.ensures.none done)

pub returns-clause-disk_cause : goal.returns-clause-disk_cause
returns-clause-disk_cause g c =
    let d = c.serve_desk-device in
    rose_served _ _ d.result.2 c.of.result c.of.ensures.closed (subst (λ (n : ℕ). LeavesDisk n (g.G.Ground.disk_faults d.result.0) d.result.2.end) c.in-Ok.ensures.cause d.ensures.disk)

pub returns-clause-no_disk_fault : goal.returns-clause-no_disk_fault
returns-clause-no_disk_fault g c =
    let d = c.serve_desk-device in
    same_served _ _ d.result.2 c.of.result c.of.ensures.closed (subst (λ (n : ℕ). LeavesDisk n (g.G.Ground.disk_faults d.result.0) d.result.2.end) c.in-Ok.ensures.cause d.ensures.disk)

pub returns-in-Err-clause-emit_cause : goal.returns-in-Err-clause-emit_cause
returns-in-Err-clause-emit_cause g c = lost_unserved _ _ c.from.result c.none.result c.none.ensures.none c.in-Err.ensures.emitted

pub returns-clause-size : goal.returns-clause-size
returns-clause-size g c = c.serve_desk-device.ensures.size ∙ c.in-Ok.ensures.same

pub returns-clause-emit_cause : goal.returns-clause-emit_cause
returns-clause-emit_cause g c =
    let d = c.serve_desk-device in
    lost_served _ _ d.result.2 c.of.result c.of.ensures.closed (subst (λ (n : ℕ). HasCause n (g.G.Ground.emit_faults d.result.0) (d.result.2.received < d.result.2.lost)) c.in-Ok.ensures.emitted d.ensures.emit_cause)

pub returns-clause-no_emit_fault : goal.returns-clause-no_emit_fault
returns-clause-no_emit_fault g c =
    let d = c.serve_desk-device in
    none_served _ _ d.result.2 c.of.result c.of.ensures.closed (λ none. d.ensures.no_emit_fault none ∙ c.in-Ok.ensures.emitted)
