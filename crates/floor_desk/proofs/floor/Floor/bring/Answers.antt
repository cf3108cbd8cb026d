use Rattle.std.proofs.Common.{◌++◌, ◌∷◌, [], sym, subst}
use Rattle.floor_desk.specs.Standing.{FloorStands}
use Rattle.floor_desk.proofs.Floors.{breaks, brings, fits}
use Rattle.floor_desk.proofs.floor.Floor.bring.Goals as goal

pub returns-in-Home-clause-stands : goal.returns-in-Home-clause-stands
returns-in-Home-clause-stands g c = λ h loan entry at tells f out carried.
    let told = g.G.Ground.told in
    let faults = g.G.Ground.disk_faults in
    let t = rw c.in-Home.is at tells in
    let k = rw c.in-Home.is at carried in
    let r = c.requires.out in
    subst (λ e. FloorStands told g.G.Ground.size faults g.G.Ground.emit_faults c.end_loan.new.self (h ++ (loan.number, e) ∷ [])) (sym t.2)
    (brings told g.G.Ground.size faults g.G.Ground.emit_faults c.args.self.now c.end_loan.new.self h loan c.in-Home.press t.0 r.0 r.1 c.in-Home.upto c.in-Home.lost t.1 r.2 c.end_loan.ensures.ended f out k)

pub returns-in-Broken-clause-stands : goal.returns-in-Broken-clause-stands
returns-in-Broken-clause-stands g c = λ h loan entry at tells f out carried.
    let told = g.G.Ground.told in
    let faults = g.G.Ground.disk_faults in
    let t = rw c.in-Broken.is at tells in
    let k = rw c.in-Broken.is at carried in
    let r = c.requires.out in
    subst (λ e. FloorStands told g.G.Ground.size faults g.G.Ground.emit_faults c.end_loan-in-Broken.new.self (h ++ (loan.number, e) ∷ [])) (sym t.2)
    (breaks told g.G.Ground.size faults g.G.Ground.emit_faults c.args.self.now c.end_loan-in-Broken.new.self h loan c.in-Broken.device t.0 r.0 r.1 c.args.place c.in-Broken.upto c.durable-durable.result t.1 r.2 c.durable-durable.ensures.durable c.end_loan-in-Broken.ensures.ended at f out k)

pub returns-in-Home-clause-fits : goal.returns-in-Home-clause-fits
returns-in-Home-clause-fits g c = λ h between n load entry at tells lends does f out.
    returns-in-Home-clause-stands g c _ _ entry at tells f out (fits g.G.Ground.told g.G.Ground.size g.G.Ground.disk_faults g.G.Ground.emit_faults c.args.self.now h between n load c.args.carried lends does f out)

pub returns-in-Broken-clause-fits : goal.returns-in-Broken-clause-fits
returns-in-Broken-clause-fits g c = λ h between n load entry at tells lends does f out.
    returns-in-Broken-clause-stands g c _ _ entry at tells f out (fits g.G.Ground.told g.G.Ground.size g.G.Ground.disk_faults g.G.Ground.emit_faults c.args.self.now h between n load c.args.carried lends does f out)
