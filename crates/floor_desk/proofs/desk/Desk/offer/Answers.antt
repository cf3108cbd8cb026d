use Rattle.std.proofs.Common.{rules, ◌≡◌, sym, subst, ◌++◌, ◌∷◌, []}
use Rattle.turnstile.specs.Passes.{with_entry}
use Rattle.floor_desk.specs.Standing.{FloorStands}
use Rattle.floor_desk.proofs.Desks.{adds}
use Rattle.floor_desk.proofs.desk.Desk.offer.Goals as goal

pub give-requires-clause-value : goal.give-requires-clause-value
give-requires-clause-value g c =
    let q = c.take-turn.result.pass in
    subst (λ e. FloorStands g.G.Ground.told g.G.Ground.size g.G.Ground.disk_faults g.G.Ground.emit_faults c.admit-answer.new.self (q.seen ++ (q.number, e) ∷ [])) (sym c.of-entry.ensures.entry)
    (c.admit-answer.ensures.stands q.seen q.number c.noted_of-memo.result c.noted_of-memo.ensures.kept c.take-turn.ensures.value)

pub returns-clause-entered : goal.returns-clause-entered
returns-clause-entered g c =
    let q = c.take-turn.result.pass in
    let from : c.admit-answer.new.self.origin ≡ c.args.self.now.origin = search rules in (
      c.noted_of-memo.result,
      c.noted_of-memo.ensures.kept,
      adds g.G.Ground.told g.G.Ground.size g.G.Ground.disk_faults g.G.Ground.emit_faults c.args.self.now.origin c.args.pass q c.give.result _ c.admit-answer.new.self c.take-turn.ensures.sees
          (subst (λ e. c.give.result ≡ with_entry q e) c.of-entry.ensures.entry c.give.ensures) from (c.admit-answer.ensures.stands q.seen q.number c.noted_of-memo.result c.noted_of-memo.ensures.kept c.take-turn.ensures.value),
    )
