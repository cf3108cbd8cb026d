use Rattle.std.proofs.Common.{ℕ, sym, subst, ap}
use Rattle.ground_io.specs.declared.gate.Worker.TheVariants.{Committer}
use Rattle.floor_desk.specs.Workers.{GoesThrough, HasKept, TakesTurns}
use Rattle.floor_desk.specs.declared.steps.Steps.{Steps}
use Rattle.floor_desk.proofs.Ticking.{kept_more, kept_none}
use Rattle.floor_desk.proofs.Turns.{through_commit, through_none, worker_stays}
use Rattle.floor_desk.proofs.Working.{made_commit}
use Rattle.floor_desk.proofs.committer.commit_all.Goals as goal
use Rattle.floor_desk.proofs.committer.commit_all.Goals.{in-None, in-Some+then-load-ge2}

pub loop-init : goal.loop-init
loop-init g c = record {
  here = c.requires.here;
  kept = kept_none c.args.pass;
  worker = ap (λ (s : Steps). s.worker) c.new-steps.ensures.none;
  turns = subst (λ (n : ℕ). GoesThrough (g.W.Gate.passed c.args.gate.now Committer) 0 n c.args.pass c.args.pass) (sym (ap (λ (s : Steps). s.count) c.new-steps.ensures.none)) (through_none (g.W.Gate.passed c.args.gate.now Committer) 0 c.args.pass);
}

pub loop-preserved : goal.loop-preserved
loop-preserved g c =
    let faults = g.G.Ground.disk_faults in let origin = c.args.desk.now.origin in
    let p = c.loop.pass in let q = c.commit-committed.result.0 in record {
      here = c.commit-committed.ensures.here;
      kept = kept_more g.G.Ground.told g.G.Ground.size faults g.G.Ground.emit_faults origin c.args.pass p q c.loop.invariant.kept (made_commit g.G.Ground.told g.G.Ground.size faults g.G.Ground.emit_faults origin p q c.commit-committed.result.1 c.commit-committed.ensures.commits);
      worker = worker_stays Committer c.loop.steps c.next-in-loop.new.self c.loop.invariant.worker c.next-in-loop.ensures.next;
      turns = through_commit (g.W.Gate.passed c.args.gate.now) Committer g.G.Ground.told g.G.Ground.size g.G.Ground.disk_faults g.G.Ground.emit_faults c.args.desk.now.origin 0 c.loop.steps c.next-in-loop.new.self c.args.pass p q c.commit-committed.result.1 c.loop.invariant.turns c.loop.invariant.worker c.next-in-loop.ensures.next c.next-in-loop.ensures.passed c.commit-committed.ensures.commits;
    }

pub returns-clause-kept : goal.returns-clause-kept
returns-clause-kept g c =
    let faults = g.G.Ground.disk_faults in let origin = c.args.desk.now.origin in let p = c.loop.pass in
    elim c.match-next.branch [
      | in-None w ↦ subst (λ k. HasKept c.args.pass k) (sym w.pass-is) c.loop.invariant.kept
      | in-Some+then-load-ge2 w ↦ subst (λ k. HasKept c.args.pass k) (sym w.pass-is)
          (kept_more g.G.Ground.told g.G.Ground.size faults g.G.Ground.emit_faults origin c.args.pass p w.commit-committed.result.0 c.loop.invariant.kept (made_commit g.G.Ground.told g.G.Ground.size faults g.G.Ground.emit_faults origin p w.commit-committed.result.0 w.commit-committed.result.1 w.commit-committed.ensures.commits))
    ]

pub returns-clause-turns : goal.returns-clause-turns
returns-clause-turns g c =
    let turn = g.W.Gate.passed c.args.gate.now in let p = c.loop.pass in
    elim c.match-next.branch [
      | in-None w ↦ subst (λ k. TakesTurns (turn Committer) c.args.pass k) (sym w.pass-is) (c.loop.steps.count, c.loop.invariant.turns)
      | in-Some+then-load-ge2 w ↦ subst (λ k. TakesTurns (turn Committer) c.args.pass k) (sym w.pass-is) (
        w.next-in-loop.new.self.count,
        through_commit turn Committer g.G.Ground.told g.G.Ground.size g.G.Ground.disk_faults g.G.Ground.emit_faults c.args.desk.now.origin 0 c.loop.steps w.next-in-loop.new.self c.args.pass p w.commit-committed.result.0 w.commit-committed.result.1 c.loop.invariant.turns c.loop.invariant.worker w.next-in-loop.ensures.next w.next-in-loop.ensures.passed w.commit-committed.ensures.commits,
      )
    ]
