use Rattle.std.proofs.Common.{rules, refl}
use Rattle.floor_desk.proofs.Floors.{opens}
use Rattle.floor_desk.proofs.floor.Floor.new.Goals as goal

pub returns-clause-stands : goal.returns-clause-stands
returns-clause-stands g c = opens g.G.Ground.told g.G.Ground.size g.G.Ground.disk_faults g.G.Ground.emit_faults _ c.args.press (search rules) (search rules) (search rules) (search rules) refl (search rules) refl (search rules)
