use Rattle.std.proofs.Common.{◌+◌, true≢false, refl, sym, ap, ◌∙◌, ⊎_elim}
use Rattle.floor_desk.specs.Prefixes.{capped}
use Rattle.floor_desk.proofs.DiskFaults.{ground_faults}
use Rattle.floor_desk.proofs.Emissions.{ground_counts, none_lost, sent_lost}
use Rattle.floor_desk.proofs.LastCommits.{done_all, link_only}
use Rattle.floor_desk.proofs.LookingBack.{end_by_account, looks_back}
use Rattle.floor_desk.proofs.ServedDesks.{served}
use Rattle.floor_desk.proofs.serve.serve_desk.Goals as goal

-- all that the server did
all_served : goal.returns-clause-serves
all_served g c =
    let ends = c.work-pass.result.2 in let after = c.settle-floor.result.0 in
    served g.G.Ground.told g.G.Ground.size g.G.Ground.disk_faults g.G.Ground.emit_faults (g.K.Clock.shows c.args.clock.now) (g.L.Link.left c.args.link) (g.L.Link.left c.work-pass.result.1) c.args.desk.origin c.work-pass.result.0 c.finish-pass.result.0 ends c.finish-pass.result.1 c.finish-pass.result.2
    c.close-floor.result after c.settle-floor.result.1 c.are_answered.result c.into_ground.result _ (rw c.of.ensures.clock at c.work-pass.ensures.worked) c.finish-pass.ensures.ended c.close-floor.ensures.closed c.close-floor.ensures.origin (λ h n at. c.settle-floor.ensures.settled h n (c.next-place.ensures.next ∙ at)) c.settle-floor.ensures.origin c.into_ground.ensures.device
    c.are_answered.ensures.both c.end_of.ensures.end refl c.events.ensures.events c.durable.ensures.durable (c.saturating_add.ensures ∙ ap (λ z. capped (z + ends.lost)) c.lost.ensures.lost)

pub returns-clause-serves : goal.returns-clause-serves
returns-clause-serves g c = all_served g c

pub returns-clause-disk : goal.returns-clause-disk
returns-clause-disk g c =
    let s = all_served g c in
    ground_faults g.G.Ground.told g.G.Ground.size g.G.Ground.disk_faults g.G.Ground.emit_faults c.args.desk.origin s.floor s.history c.into_ground.result s.attempts s.tick s.pump _ s.stands s.from s.ground
    (end_by_account c.args.desk.origin _ _ (looks_back c.args.desk.origin s.history) s.attempts s.tick s.pump _ s.ended)

pub returns-clause-size : goal.returns-clause-size
returns-clause-size g c =
    let s = all_served g c in
    (ground_counts g.G.Ground.told g.G.Ground.size g.G.Ground.disk_faults g.G.Ground.emit_faults c.args.desk.origin s.floor s.history c.into_ground.result s.stands s.from s.ground).0

pub returns-clause-emit_cause : goal.returns-clause-emit_cause
returns-clause-emit_cause g c =
    let s = all_served g c in record {
      later = s.counted.cause.later;
      rose = λ more. s.counted.cause.rose (sent_lost s.floor.lost _ _ s.attempts s.received s.lost more);
    }

pub returns-clause-no_emit_fault : goal.returns-clause-no_emit_fault
returns-clause-no_emit_fault g c = λ none. let s = all_served g c in s.counted.same (none_lost s.floor.lost _ s.attempts s.lost none)

pub returns-clause-done : goal.returns-clause-done
returns-clause-done g c = λ done.
    let ends = c.work-pass.result.2 in let none = done_all ends c.are_answered.result c.settle-floor.result.1 c.end_of.result c.end_of.ensures.end done in
    ⊎_elim (λ all. all) (λ short. absurd (⊎_elim (λ link. true≢false (sym link ∙ none.0)) (λ memory. true≢false (sym memory ∙ none.1)) short)) c.work-pass.ensures.ends.why

pub returns-clause-cause : goal.returns-clause-cause
returns-clause-cause g c =
    let e = c.work-pass.ensures.ends.cause in record {
      later = e.later;
      rose = λ is. e.rose (link_only c.work-pass.result.2 c.are_answered.result c.settle-floor.result.1 c.end_of.result c.end_of.ensures.end is);
    }
