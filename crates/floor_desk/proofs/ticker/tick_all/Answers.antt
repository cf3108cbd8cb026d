use Rattle.std.proofs.Common.{ℕ, sym, subst, ap, ◌∙◌}
use Rattle.ground_io.specs.declared.gate.Worker.{Worker}
use Rattle.ground_io.specs.declared.gate.Worker.TheVariants.{Ticker}
use Rattle.floor_desk.specs.Workers.{GoesThrough, HasTicked, TakesTurns}
use Rattle.floor_desk.specs.declared.steps.Steps.{Steps}
use Rattle.floor_desk.proofs.Ticking.{ticked_more, ticked_none}
use Rattle.floor_desk.proofs.Turns.{through_none, through_then}
use Rattle.floor_desk.proofs.ticker.tick_all.Goals as goal
use Rattle.floor_desk.proofs.ticker.tick_all.Goals.{in-None, in-Some+then-load-ge1}

pub loop-init : goal.loop-init
loop-init g c = record {
  here = c.requires.here;
  ticked = ticked_none (g.K.Clock.shows c.args.clock.now) c.args.pass;
  worker = ap (λ (s : Steps). s.worker) c.new-steps.ensures.none;
  turns = subst (λ (n : ℕ). GoesThrough (g.W.Gate.passed c.args.gate.now Ticker) 0 n c.args.pass c.args.pass) (sym (ap (λ (s : Steps). s.count) c.new-steps.ensures.none)) (through_none (g.W.Gate.passed c.args.gate.now Ticker) 0 c.args.pass);
}

pub loop-preserved : goal.loop-preserved
loop-preserved g c =
    let shows = g.K.Clock.shows c.args.clock.now in record {
      here = rw c.of.ensures.desk at c.tick_once-pass.ensures.here;
      ticked = ticked_more shows c.args.pass c.loop.pass c.tick_once-pass.result c.loop.invariant.ticked (rw c.of.ensures.clock at c.tick_once-pass.ensures.ticked);
      worker = c.tick_once-pass.ensures.worker ∙ c.loop.invariant.worker;
      turns = through_then (g.W.Gate.passed c.args.gate.now Ticker) 0 c.loop.steps.count c.tick_once-pass.new.steps.count c.args.pass c.loop.pass c.tick_once-pass.result c.loop.invariant.turns
          (subst (λ (v : Worker). GoesThrough (g.W.Gate.passed c.args.gate.now v) c.loop.steps.count c.tick_once-pass.new.steps.count c.loop.pass c.tick_once-pass.result) c.loop.invariant.worker (rw c.of.ensures.gate at c.tick_once-pass.ensures.turns));
    }

pub returns-clause-ticked : goal.returns-clause-ticked
returns-clause-ticked g c =
    let shows = g.K.Clock.shows c.args.clock.now in
    elim c.match-next.branch [
      | in-None w ↦ subst (λ k. HasTicked shows c.args.pass k) (sym w.pass-is) c.loop.invariant.ticked
      | in-Some+then-load-ge1 w ↦ subst (λ k. HasTicked shows c.args.pass k) (sym w.pass-is) (ticked_more shows c.args.pass c.loop.pass w.tick_once-pass.result c.loop.invariant.ticked (rw w.of.ensures.clock at w.tick_once-pass.ensures.ticked))
    ]

pub returns-clause-turns : goal.returns-clause-turns
returns-clause-turns g c =
    let turn = g.W.Gate.passed c.args.gate.now in let p = c.loop.pass in
    elim c.match-next.branch [
      | in-None w ↦ subst (λ k. TakesTurns (turn Ticker) c.args.pass k) (sym w.pass-is) (c.loop.steps.count, c.loop.invariant.turns)
      | in-Some+then-load-ge1 w ↦ subst (λ k. TakesTurns (turn Ticker) c.args.pass k) (sym w.pass-is) (
        w.tick_once-pass.new.steps.count,
        through_then (turn Ticker) 0 c.loop.steps.count w.tick_once-pass.new.steps.count c.args.pass p w.tick_once-pass.result c.loop.invariant.turns
            (subst (λ (v : Worker). GoesThrough (turn v) c.loop.steps.count w.tick_once-pass.new.steps.count p w.tick_once-pass.result) c.loop.invariant.worker (rw w.of.ensures.gate at w.tick_once-pass.ensures.turns)),
      )
    ]
