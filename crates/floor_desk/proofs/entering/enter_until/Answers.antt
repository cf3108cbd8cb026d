use Rattle.std.proofs.Common.{refl, ◌∙◌}
use Rattle.floor_desk.proofs.Trying.{tried_none, tried_now, turned_commit, turned_none, turned_now}
use Rattle.floor_desk.proofs.Working.{made_commit}
use Rattle.floor_desk.proofs.Turns.{through_commit, through_entry, through_none, worker_stays}
use Rattle.floor_desk.proofs.entering.enter_until.Goals as goal

pub loop-init : goal.loop-init
loop-init g c = record { here = c.requires.here; turned = turned_none (g.K.Clock.shows c.args.tools.now.clock.now) c.args.pass c.args.input.now; worker = refl; turns = through_none (g.W.Gate.passed c.args.tools.now.gate.now c.args.steps.now.worker) c.args.steps.now.count c.args.pass }

pub returns-then-not-is_behind-clause-tried : goal.returns-then-not-is_behind-clause-tried
returns-then-not-is_behind-clause-tried g c =
    let a = c.offer-entered.ensures.entered in
    tried_now g.G.Ground.told g.G.Ground.size g.G.Ground.disk_faults g.G.Ground.emit_faults c.args.tools.now.desk.now.origin (g.K.Clock.shows c.args.tools.now.clock.now) c.args.pass c.loop.pass c.offer-entered.result.0 c.args.input.now a.0 c.now.result c.offer-entered.result.1 c.loop.invariant.turned a.1 c.now.ensures.shown a.2 (rw c.if-not-is_behind.true at c.is_behind.ensures.behind)

pub returns-then-found_none-clause-tried : goal.returns-then-found_none-clause-tried
returns-then-found_none-clause-tried g c =
    let faults = g.G.Ground.disk_faults in let origin = c.args.tools.now.desk.now.origin in let shows = g.K.Clock.shows c.args.tools.now.clock.now in
    let a = c.offer-entered.ensures.entered in let r = c.offer-entered.result.0 in let s = c.commit-committed.result.0 in
    tried_none g.G.Ground.told g.G.Ground.size faults g.G.Ground.emit_faults origin shows c.args.pass c.loop.pass r s c.args.input.now a.0 c.now.result c.offer-entered.result.1 c.loop.invariant.turned a.1 c.now.ensures.shown a.2
    (rw (c.found_none.ensures.none c.if-found_none.true) at c.commit-committed.ensures.commits)

pub loop-preserved : goal.loop-preserved
loop-preserved g c =
    let faults = g.G.Ground.disk_faults in let origin = c.args.tools.now.desk.now.origin in let shows = g.K.Clock.shows c.args.tools.now.clock.now in
    let a = c.offer-entered.ensures.entered in let r = c.offer-entered.result.0 in let s = c.commit-committed.result.0 in record {
      here = c.commit-committed.ensures.here;
      turned = turned_commit g.G.Ground.told g.G.Ground.size faults g.G.Ground.emit_faults origin shows c.args.pass r s c.args.input.now
          (turned_now g.G.Ground.told g.G.Ground.size faults g.G.Ground.emit_faults origin shows c.args.pass c.loop.pass r c.args.input.now a.0 c.now.result c.offer-entered.result.1 c.loop.invariant.turned a.1 c.now.ensures.shown a.2 (rw c.if-not-is_behind.false at c.is_behind.ensures.behind))
          (made_commit g.G.Ground.told g.G.Ground.size faults g.G.Ground.emit_faults origin r s c.commit-committed.result.1 c.commit-committed.ensures.commits);
      worker = worker_stays c.args.steps.now.worker c.next-in-loop.new.self c.next-in-loop-2.new.self (worker_stays c.args.steps.now.worker c.loop.steps c.next-in-loop.new.self c.loop.invariant.worker c.next-in-loop.ensures.next) c.next-in-loop-2.ensures.next;
      turns = through_commit (g.W.Gate.passed c.args.tools.now.gate.now) c.args.steps.now.worker g.G.Ground.told g.G.Ground.size g.G.Ground.disk_faults g.G.Ground.emit_faults c.args.tools.now.desk.now.origin c.args.steps.now.count c.next-in-loop.new.self c.next-in-loop-2.new.self c.args.pass r s c.commit-committed.result.1
          (through_entry (g.W.Gate.passed c.args.tools.now.gate.now) c.args.steps.now.worker g.G.Ground.told g.G.Ground.size g.G.Ground.disk_faults g.G.Ground.emit_faults c.args.tools.now.desk.now.origin c.args.steps.now.count c.loop.steps c.next-in-loop.new.self c.args.pass c.loop.pass r _ c.loop.invariant.turns c.loop.invariant.worker c.next-in-loop.ensures.next c.next-in-loop.ensures.passed a.2)
          (worker_stays c.args.steps.now.worker c.loop.steps c.next-in-loop.new.self c.loop.invariant.worker c.next-in-loop.ensures.next) c.next-in-loop-2.ensures.next c.next-in-loop-2.ensures.passed c.commit-committed.ensures.commits;
    }

pub returns-then-not-is_behind-clause-turns : goal.returns-then-not-is_behind-clause-turns
returns-then-not-is_behind-clause-turns g c =
    let a = c.offer-entered.ensures.entered in
    through_entry (g.W.Gate.passed c.args.tools.now.gate.now) c.args.steps.now.worker g.G.Ground.told g.G.Ground.size g.G.Ground.disk_faults g.G.Ground.emit_faults c.args.tools.now.desk.now.origin c.args.steps.now.count c.loop.steps c.next-in-loop.new.self c.args.pass c.loop.pass c.offer-entered.result.0 _ c.loop.invariant.turns c.loop.invariant.worker c.next-in-loop.ensures.next c.next-in-loop.ensures.passed a.2

pub returns-then-found_none-clause-turns : goal.returns-then-found_none-clause-turns
returns-then-found_none-clause-turns g c =
    let a = c.offer-entered.ensures.entered in let r = c.offer-entered.result.0 in let s = c.commit-committed.result.0 in
    through_commit (g.W.Gate.passed c.args.tools.now.gate.now) c.args.steps.now.worker g.G.Ground.told g.G.Ground.size g.G.Ground.disk_faults g.G.Ground.emit_faults c.args.tools.now.desk.now.origin c.args.steps.now.count c.next-in-loop.new.self c.next-in-loop-2.new.self c.args.pass r s c.commit-committed.result.1
    (through_entry (g.W.Gate.passed c.args.tools.now.gate.now) c.args.steps.now.worker g.G.Ground.told g.G.Ground.size g.G.Ground.disk_faults g.G.Ground.emit_faults c.args.tools.now.desk.now.origin c.args.steps.now.count c.loop.steps c.next-in-loop.new.self c.args.pass c.loop.pass r _ c.loop.invariant.turns c.loop.invariant.worker c.next-in-loop.ensures.next c.next-in-loop.ensures.passed a.2)
    (worker_stays c.args.steps.now.worker c.loop.steps c.next-in-loop.new.self c.loop.invariant.worker c.next-in-loop.ensures.next) c.next-in-loop-2.ensures.next c.next-in-loop-2.ensures.passed c.commit-committed.ensures.commits
