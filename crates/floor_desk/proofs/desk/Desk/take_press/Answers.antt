use Rattle.std.proofs.Common.{rules, ◌≡◌, ap, ◌∙◌, subst}
use Rattle.floor_desk.specs.declared.entry.Entry.TheVariants.{Looked}
use Rattle.floor_desk.specs.declared.entry.Look.TheVariants.{Refused}
use Rattle.floor_desk.specs.Accounts.{account}
use Rattle.floor_desk.specs.Carrying.{Lends}
use Rattle.floor_desk.proofs.Desks.{adds, left, takes}
use Rattle.floor_desk.proofs.desk.Desk.take_press.Goals as goal

pub give-requires-clause-value : goal.give-requires-clause-value
give-requires-clause-value g c = let q = c.take-turn.result.pass in (c.in-Ok.ensures.lent q.seen q.number c.take-turn.ensures.place c.take-turn.ensures.value).1

pub give-requires-in-Err-clause-value : goal.give-requires-in-Err-clause-value
give-requires-in-Err-clause-value g c = let q = c.take-turn.result.pass in c.in-Err.ensures.refused q.seen q.number c.take-turn.ensures.value

pub returns-in-Ok-clause-taken : goal.returns-in-Ok-clause-taken
returns-in-Ok-clause-taken g c =
    let q = c.take-turn.result.pass in
    let before : c.take-turn.result.value.origin ≡ c.args.self.now.origin = search rules in
    let from : c.lend.new.self.origin ≡ c.args.self.now.origin = search rules in
    let f = c.in-Ok.ensures.lent q.seen q.number c.take-turn.ensures.place c.take-turn.ensures.value in
    takes g.G.Ground.told g.G.Ground.size g.G.Ground.disk_faults g.G.Ground.emit_faults c.args.self.now.origin c.args.pass q c.give.result c.in-Ok.load.upto c.lend.new.self c.take-turn.ensures.sees c.give.ensures from (f.0.upto ∙ ap (λ o. (account o q.seen).state.events) before) f.1

pub returns-in-Ok-clause-lends : goal.returns-in-Ok-clause-lends
returns-in-Ok-clause-lends g c =
    let q = c.take-turn.result.pass in
    let before : c.take-turn.result.value.origin ≡ c.args.self.now.origin = search rules in
    let f = c.in-Ok.ensures.lent q.seen q.number c.take-turn.ensures.place c.take-turn.ensures.value in
    left g.G.Ground.told g.G.Ground.size g.G.Ground.disk_faults g.G.Ground.emit_faults c.args.self.now.origin q c.give.result c.in-Ok.load c.give.ensures (subst (λ o. Lends g.G.Ground.told o (account o q.seen) c.in-Ok.load) before f.0)

pub returns-in-Err-clause-refused : goal.returns-in-Err-clause-refused
returns-in-Err-clause-refused g c =
    let q = c.take-turn.result.pass in
    let from : c.lend.new.self.origin ≡ c.args.self.now.origin = search rules in
    adds g.G.Ground.told g.G.Ground.size g.G.Ground.disk_faults g.G.Ground.emit_faults c.args.self.now.origin c.args.pass q c.give-in-Err.result (Looked (Refused c.in-Err.fault)) c.lend.new.self c.take-turn.ensures.sees c.give-in-Err.ensures from (c.in-Err.ensures.refused q.seen q.number c.take-turn.ensures.value)
