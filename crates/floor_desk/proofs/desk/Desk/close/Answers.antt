use Rattle.std.proofs.Common.{ap, ◌∙◌, subst, sym}
use Rattle.floor_desk.specs.declared.entry.Entry.TheVariants.{Looked}
use Rattle.floor_desk.specs.declared.entry.Look.TheVariants.{Closing}
use Rattle.floor_desk.proofs.Desks.{still_of, waited_more}
use Rattle.floor_desk.specs.Standing.{FloorStands}
use Rattle.floor_desk.specs.States.{FloorState}
use Rattle.floor_desk.proofs.Floors.{stands_at, waits_out}
use Rattle.floor_desk.proofs.desk.Desk.close.Goals as goal

pub give-pass-requires-clause-value : goal.give-pass-requires-clause-value
give-pass-requires-clause-value g c =
    let q = c.take-turn.result.pass in
    let out = rw c.if-is_out.true at c.is_out.ensures.out in
    waits_out g.G.Ground.told g.G.Ground.size g.G.Ground.disk_faults g.G.Ground.emit_faults c.take-turn.result.value q.seen q.number out.0 out.1 out.2 c.take-turn.ensures.value

pub loop-preserved : goal.loop-preserved
loop-preserved g c =
    let q = c.take-turn.result.pass in
    record {
      here = still_of _ c.args.self c.loop.pass q c.give-pass.result (Looked Closing) c.loop.invariant.here c.take-turn.ensures.sees c.give-pass.ensures;
      waited = waited_more _ c.args.pass c.loop.pass q c.give-pass.result c.loop.invariant.waited c.take-turn.ensures.sees c.give-pass.ensures;
    }

pub returns-else-is_out-clause-closed : goal.returns-else-is_out-clause-closed
returns-else-is_out-clause-closed g c =
    let told = g.G.Ground.told in let faults = g.G.Ground.disk_faults in
    let q = c.take-turn.result.pass in let floor = c.into_inner.result in
    record {
      waiting = c.loop.pass;
      last = q;
      waited = c.loop.invariant.waited;
      sees = c.take-turn.ensures.sees;
      stands =
          subst (λ (x : FloorState _). FloorStands told g.G.Ground.size faults g.G.Ground.emit_faults x q.seen) (sym c.ended_at.ensures.ended)
          (stands_at told g.G.Ground.size faults g.G.Ground.emit_faults floor c.take-turn.result.place q.seen (subst (λ (x : FloorState _). FloorStands told g.G.Ground.size faults g.G.Ground.emit_faults x q.seen) (sym (c.into_inner.ensures.same ∙ c.close.ensures)) c.take-turn.ensures.value));
      next = ap (λ (x : FloorState _). x.next) c.ended_at.ensures.ended ∙ c.take-turn.ensures.place;
    }
