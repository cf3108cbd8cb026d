use Rattle.floor_desk.proofs.Floors.{hinders_by, lent_by, origin_by, out_by, refused_by, same_by}
use Rattle.floor_desk.proofs.floor.Floor.lend.Goals as goal

pub returns-clause-lent : goal.returns-clause-lent
returns-clause-lent g c = lent_by g.G.Ground.told g.G.Ground.size g.G.Ground.disk_faults g.G.Ground.emit_faults c.args.self.now c.lend_now.new.self c.args.place c.lend_now.result c.lend_now.ensures.lent

pub returns-clause-refused : goal.returns-clause-refused
returns-clause-refused g c = refused_by g.G.Ground.told g.G.Ground.size g.G.Ground.disk_faults g.G.Ground.emit_faults c.args.self.now c.lend_now.new.self c.lend_now.result c.lend_now.ensures.hindered

pub returns-clause-out : goal.returns-clause-out
returns-clause-out g c = out_by g.G.Ground.told g.G.Ground.size g.G.Ground.disk_faults g.G.Ground.emit_faults c.args.self.now c.lend_now.new.self c.args.place c.lend_now.result c.lend_now.ensures.lent

pub returns-clause-hinders : goal.returns-clause-hinders
returns-clause-hinders g c = hinders_by g.G.Ground.told g.G.Ground.size g.G.Ground.disk_faults g.G.Ground.emit_faults c.args.self.now c.lend_now.new.self c.lend_now.result c.lend_now.ensures.hindered

pub returns-clause-same : goal.returns-clause-same
returns-clause-same g c = same_by g.G.Ground.told g.G.Ground.size g.G.Ground.disk_faults g.G.Ground.emit_faults c.args.self.now c.lend_now.new.self c.lend_now.result c.lend_now.ensures.hindered

pub returns-clause-origin : goal.returns-clause-origin
returns-clause-origin g c = origin_by g.G.Ground.told g.G.Ground.size g.G.Ground.disk_faults g.G.Ground.emit_faults c.args.self.now c.lend_now.new.self c.args.place c.lend_now.result c.lend_now.ensures.lent c.lend_now.ensures.hindered
