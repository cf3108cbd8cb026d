use Rattle.floor_desk.proofs.LastInputs.{ended}
use Rattle.floor_desk.proofs.Working.{made_commit}
use Rattle.floor_desk.proofs.serve.finish.Goals as goal

pub returns-clause-ended : goal.returns-clause-ended
returns-clause-ended g c =
    let faults = g.G.Ground.disk_faults in let origin = c.args.desk.now.origin in let shows = g.K.Clock.shows c.args.clock.now in
    let p = c.args.pass in let q = c.commit-pass.result.0 in let r = c.enter_until-pass.result.0 in let s = c.enter_until-pass-2.result.0 in
    ended g.G.Ground.told g.G.Ground.size faults g.G.Ground.emit_faults origin shows p q r s c.enter_until-pass.result.1 c.enter_until-pass-2.result.1 (made_commit g.G.Ground.told g.G.Ground.size faults g.G.Ground.emit_faults origin p q c.commit-pass.result.1 c.commit-pass.ensures.commits) (rw c.of-tools.ensures.clock at c.enter_until-pass.ensures.tried) (rw c.of-tools.ensures.clock at c.enter_until-pass-2.ensures.tried)
