use Rattle.std.proofs.Common.{rules, ◌≡◌, ap, ◌∙◌, sym, subst, ◌++◌, ◌∷◌, []}
use Rattle.floor_desk.specs.Accounts.{account}
use Rattle.floor_desk.specs.Standing.{FloorStands}
use Rattle.floor_desk.proofs.Floors.{is_out}
use Rattle.floor_desk.proofs.Desks.{adds, carried_for, open_at}
use Rattle.floor_desk.proofs.desk.Desk.return_press.Goals as goal

pub bring-requires : goal.bring-requires
bring-requires g c =
    let told = g.G.Ground.told in let faults = g.G.Ground.disk_faults in
    let q = c.take-turn.result.pass in let old = c.take-turn.result.value in let w = c.requires.taken in let f = c.take-turn.ensures.value in
    let from : old.origin ≡ c.args.self.now.origin = search rules in
    let still = open_at told g.G.Ground.size faults g.G.Ground.emit_faults c.args.self.now.origin _ c.args.pass q w.0 old w.1 c.take-turn.ensures.sees from f in
    record { out = is_out told g.G.Ground.size faults g.G.Ground.emit_faults old (account old.origin q.seen) w.1.loan old.spot f.shows.spot (still.loan ∙ w.1.out) }

pub give-requires-clause-value : goal.give-requires-clause-value
give-requires-clause-value g c =
    let told = g.G.Ground.told in let faults = g.G.Ground.disk_faults in
    let q = c.take-turn.result.pass in let old = c.take-turn.result.value in let w = c.requires.taken in let f = c.take-turn.ensures.value in
    let from : old.origin ≡ c.args.self.now.origin = search rules in
    let still = open_at told g.G.Ground.size faults g.G.Ground.emit_faults c.args.self.now.origin _ c.args.pass q w.0 old w.1 c.take-turn.ensures.sees from f in
    let number = w.1.number ∙ sym (ap (λ k. k.number) c.take-turn.ensures.sees.same) in
    subst (λ n. FloorStands told g.G.Ground.size faults g.G.Ground.emit_faults c.bring.new.self (q.seen ++ (n, c.entry-entry.result) ∷ [])) number
    (c.bring.ensures.stands q.seen w.1.loan c.entry-entry.result c.take-turn.ensures.place c.entry-entry.ensures.tells f (still.loan ∙ w.1.out)
    (carried_for told g.G.Ground.size faults g.G.Ground.emit_faults c.args.self.now.origin _ c.args.pass q w.0 old c.args.carried w.1 c.take-turn.ensures.sees from f w.2))

pub returns-clause-adds : goal.returns-clause-adds
returns-clause-adds g c =
    let told = g.G.Ground.told in let faults = g.G.Ground.disk_faults in
    let q = c.take-turn.result.pass in let old = c.take-turn.result.value in let w = c.requires.taken in let f = c.take-turn.ensures.value in
    let from : old.origin ≡ c.args.self.now.origin = search rules in
    let after : c.bring.new.self.origin ≡ c.args.self.now.origin = search rules in
    let still = open_at told g.G.Ground.size faults g.G.Ground.emit_faults c.args.self.now.origin _ c.args.pass q w.0 old w.1 c.take-turn.ensures.sees from f in
    let number = w.1.number ∙ sym (ap (λ k. k.number) c.take-turn.ensures.sees.same) in
    let stands = subst (λ n. FloorStands told g.G.Ground.size faults g.G.Ground.emit_faults c.bring.new.self (q.seen ++ (n, c.entry-entry.result) ∷ [])) number
    (c.bring.ensures.stands q.seen w.1.loan c.entry-entry.result c.take-turn.ensures.place c.entry-entry.ensures.tells f (still.loan ∙ w.1.out)
    (carried_for told g.G.Ground.size faults g.G.Ground.emit_faults c.args.self.now.origin _ c.args.pass q w.0 old c.args.carried w.1 c.take-turn.ensures.sees from f w.2)) in
    (c.entry-entry.result, c.entry-entry.ensures.tells, adds told g.G.Ground.size faults g.G.Ground.emit_faults c.args.self.now.origin c.args.pass q c.give.result c.entry-entry.result c.bring.new.self c.take-turn.ensures.sees c.give.ensures after stands)
