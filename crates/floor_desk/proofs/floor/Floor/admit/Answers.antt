use Rattle.std.proofs.Common.{refl, sym, subst}
use Rattle.bac_values.specs.declared.input.Input.{Input}
use Rattle.service_desk.specs.Answers.{answer_to}
use Rattle.floor_desk.specs.MovesSteps.{CameOf}
use Rattle.floor_desk.proofs.Floors.{comes, comes_origin, refuses}
use Rattle.floor_desk.proofs.floor.Floor.admit.Goals as goal

pub returns-in-Some-clause-stands : goal.returns-in-Some-clause-stands
returns-in-Some-clause-stands g c = λ h n memo same f. refuses g.G.Ground.told g.G.Ground.size g.G.Ground.disk_faults g.G.Ground.emit_faults c.args.self.now h n c.args.moment memo c.in-Some.fault f c.in-Some.ensures.shut

pub returns-in-None-clause-stands : goal.returns-in-None-clause-stands
returns-in-None-clause-stands g c = λ h n memo same f.
    let old = c.args.self.now in
    let new = c.look.new.self in
    comes g.G.Ground.told g.G.Ground.size g.G.Ground.disk_faults g.G.Ground.emit_faults old new h n c.args.moment memo c.look.result (comes_origin g.G.Ground.told g.G.Ground.size g.G.Ground.disk_faults g.G.Ground.emit_faults old new _ c.look.result c.look.ensures.comes) f (c.in-None.ensures.ready refl)
    (subst (λ (i : Input). CameOf old new (answer_to old.core i c.args.moment) c.look.result) (sym same) c.look.ensures.comes)
