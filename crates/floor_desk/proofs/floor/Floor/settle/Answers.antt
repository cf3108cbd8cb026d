use Rattle.std.proofs.Common.{ℕ, ap, ◌∙◌, refl}
use Rattle.floor_desk.specs.States.{FloorState}
use Rattle.floor_desk.proofs.Ending.{settled_home, settled_lost, settled_not}
use Rattle.floor_desk.proofs.floor.Floor.settle.Goals as goal

pub returns-in-Err-clause-settled : goal.returns-in-Err-clause-settled
returns-in-Err-clause-settled g c = λ h n at f.
    let same = ap (λ (x : FloorState _). record x { next = c.saturating_add.result }) c.in-Err.ensures.same in
    let next = ap (λ (k : ℕ). record c.args.self { next = k }) c.saturating_add.ensures in
    settled_not g.G.Ground.told g.G.Ground.size g.G.Ground.disk_faults g.G.Ground.emit_faults c.args.self c.ended_at.result h n c.args.place (c.ended_at.ensures.ended ∙ (same ∙ next)) at f c.in-Err.fault c.requires.home c.in-Err.ensures.hinders

pub returns-in-Home-clause-settled : goal.returns-in-Home-clause-settled
returns-in-Home-clause-settled g c = λ h n at f.
    settled_home g.G.Ground.told g.G.Ground.size g.G.Ground.disk_faults g.G.Ground.emit_faults c.args.self c.lend.new.self c.bring.new.self c.ended_at-in-Home.result h n c.args.place c.in-Ok.load _ c.in-Ok.ensures.few c.in-Ok.ensures.origin c.ended_at-in-Home.ensures.ended at
    (c.in-Ok.ensures.lent h n at f) (rw c.in-Home.is at c.carry_out.ensures.carried) c.bring.ensures.stands c.in-Home.press c.in-Home.upto c.in-Home.lost refl

pub returns-in-Broken-clause-settled : goal.returns-in-Broken-clause-settled
returns-in-Broken-clause-settled g c = λ h n at f.
    settled_lost g.G.Ground.told g.G.Ground.size g.G.Ground.disk_faults g.G.Ground.emit_faults c.args.self c.lend.new.self c.bring-in-Broken.new.self c.ended_at-in-Broken.result h n c.args.place c.in-Ok.load _ c.in-Ok.ensures.few c.in-Ok.ensures.origin c.ended_at-in-Broken.ensures.ended at
    (c.in-Ok.ensures.lent h n at f) (rw c.in-Broken.is at c.carry_out.ensures.carried) c.bring-in-Broken.ensures.stands c.in-Broken.device c.in-Broken.upto refl
