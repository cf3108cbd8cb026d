use Rattle.std.proofs.Common.{ap, sym, subst, inl, le_refl, ◌++◌, ◌∷◌, []}
use Rattle.floor_desk.specs.Accounts.{Licenses, account}
use Rattle.floor_desk.proofs.Histories.{licenses_last}
use Rattle.floor_desk.proofs.Desks.{carried_out, fails, refused_commits, writes}
use Rattle.floor_desk.proofs.desk.Desk.commit.Goals as goal

pub returns-in-Err-clause-commits : goal.returns-in-Err-clause-commits
returns-in-Err-clause-commits g c =
    refused_commits g.G.Ground.told g.G.Ground.size g.G.Ground.disk_faults g.G.Ground.emit_faults c.args.self.now.origin c.args.pass c.take_press-pass.result.0 c.in-Err.fault (rw c.in-Err.is at c.take_press-pass.ensures.refused)

pub return_press-pass-requires-clause-taken : goal.return_press-pass-requires-clause-taken
return_press-pass-requires-clause-taken g c =
    let told = g.G.Ground.told in let faults = g.G.Ground.disk_faults in
    let p = c.take_press-pass.result.0 in let origin = c.args.self.now.origin in let load = c.in-Ok.load in
    let t = rw c.in-Ok.is at c.take_press-pass.ensures.taken in
    let l = rw c.in-Ok.is at c.take_press-pass.ensures.lends in
    (load.upto, t.has, rw c.in-Home.is at (carried_out told g.G.Ground.size faults g.G.Ground.emit_faults origin (account origin p.seen) load c.carry_out.result l c.carry_out.ensures.carried))

pub return_press-pass-requires-in-Broken-clause-taken : goal.return_press-pass-requires-in-Broken-clause-taken
return_press-pass-requires-in-Broken-clause-taken g c =
    let told = g.G.Ground.told in let faults = g.G.Ground.disk_faults in
    let p = c.take_press-pass.result.0 in let origin = c.args.self.now.origin in let load = c.in-Ok.load in
    let t = rw c.in-Ok.is at c.take_press-pass.ensures.taken in
    let l = rw c.in-Ok.is at c.take_press-pass.ensures.lends in
    (load.upto, t.has, rw c.in-Broken.is at (carried_out told g.G.Ground.size faults g.G.Ground.emit_faults origin (account origin p.seen) load c.carry_out.result l c.carry_out.ensures.carried))

pub raise_mark-requires-clause-licensed : goal.raise_mark-requires-clause-licensed
raise_mark-requires-clause-licensed g c = λ not_zero.
    let a = c.return_press-pass.ensures.adds in let q = c.take_press-pass.result.0 in let upto = c.in-Home.upto in let tells = a.1 in
    subst (λ h. Licenses h upto) (sym (ap (λ k. k.seen) a.2.same)) (licenses_last (q.seen ++ a.2.between) q.number upto a.0 (subst (λ e. Licenses ((q.number, e) ∷ []) upto) (sym tells.2) (inl (le_refl upto))))

pub returns-in-Home-clause-commits : goal.returns-in-Home-clause-commits
returns-in-Home-clause-commits g c =
    let told = g.G.Ground.told in let faults = g.G.Ground.disk_faults in
    let p = c.take_press-pass.result.0 in let origin = c.args.self.now.origin in let load = c.in-Ok.load in
    let t = rw c.in-Ok.is at c.take_press-pass.ensures.taken in
    let l = rw c.in-Ok.is at c.take_press-pass.ensures.lends in
    let k = rw c.in-Home.is at (carried_out told g.G.Ground.size faults g.G.Ground.emit_faults origin (account origin p.seen) load c.carry_out.result l c.carry_out.ensures.carried) in
    let a = c.return_press-pass.ensures.adds in let tells = a.1 in
    (tells.0, writes told g.G.Ground.size faults g.G.Ground.emit_faults origin c.args.pass p c.return_press-pass.result c.raise_mark.result load.upto c.in-Home.upto a.0 tells.0 t a.2 tells.2 k.0 c.raise_mark.ensures)

pub returns-in-Broken-clause-commits : goal.returns-in-Broken-clause-commits
returns-in-Broken-clause-commits g c =
    let told = g.G.Ground.told in let faults = g.G.Ground.disk_faults in
    let p = c.take_press-pass.result.0 in let origin = c.args.self.now.origin in let load = c.in-Ok.load in
    let t = rw c.in-Ok.is at c.take_press-pass.ensures.taken in
    let l = rw c.in-Ok.is at c.take_press-pass.ensures.lends in
    let k = rw c.in-Broken.is at (carried_out told g.G.Ground.size faults g.G.Ground.emit_faults origin (account origin p.seen) load c.carry_out.result l c.carry_out.ensures.carried) in
    let a = c.return_press-pass-in-Broken.ensures.adds in
    (c.in-Broken.upto, a.1.0, fails told g.G.Ground.size faults g.G.Ground.emit_faults origin c.args.pass p c.return_press-pass-in-Broken.result load.upto c.in-Broken.upto a.0 a.1.0 t a.2 a.1.2 k.0)
