use Rattle.std.proofs.Common.{ℕ, subst, arith, true≢false, refl, sym, ap, ◌∙◌, inr, ⊎_elim, le_refl, le_trans}
use Rattle.ground_io.specs.declared.gate.Worker.{Worker}
use Rattle.ground_io.specs.declared.gate.Worker.TheVariants.{Receiver}
use Rattle.floor_desk.specs.declared.receiver.Ends.{Ends}
use Rattle.floor_desk.specs.declared.steps.Steps.{Steps}
use Rattle.floor_desk.specs.Workers.{GoesThrough}
use Rattle.floor_desk.proofs.Receiving.{lost_once, received_more, received_none}
use Rattle.floor_desk.proofs.Turns.{through_none, through_then}
use Rattle.floor_desk.proofs.receiver.receive_all.Goals as goal

pub loop-init : goal.loop-init
loop-init g c =
    let none = c.none-ends.ensures.none in let faults = g.L.Link.faults c.args.link.now in record {
      here = c.requires.here;
      received = received_none (g.K.Clock.shows c.args.clock.now) (g.L.Link.left c.args.link.now) c.args.pass c.none-ends.result none;
      worker = ap (λ (s : Steps). s.worker) c.new-steps.ensures.none;
      turns = subst (λ (n : ℕ). GoesThrough (g.W.Gate.passed c.args.gate.now Receiver) 0 n c.args.pass c.args.pass) (sym (ap (λ (s : Steps). s.count) c.new-steps.ensures.none)) (through_none (g.W.Gate.passed c.args.gate.now Receiver) 0 c.args.pass);
      few = let n = ap (λ (e : Ends). e.received) none in omega arith;
      lost = let n = ap (λ (e : Ends). e.lost) none in omega arith;
      whole = refl;
      cause = record { later = le_refl faults; rose = λ is. absurd (true≢false (sym is ∙ ap (λ (e : Ends). e.link_fault) none)) };
      counted = inr refl;
    }

pub loop-preserved-in-Ok-Some : goal.loop-preserved-in-Ok-Some
loop-preserved-in-Ok-Some g c =
    let i = c.loop.invariant in let next = c.in-Ok-Some.ensures in let more = c.with-ends.ensures in let last = c.enter_until-entered.result.1 in record {
      here = rw c.of-tools.ensures.desk at c.enter_until-entered.ensures.here;
      received = received_more (g.K.Clock.shows c.args.clock.now) (g.L.Link.left c.args.link.now) (g.L.Link.left c.loop.link) (g.L.Link.left c.next_datagram.new.link) c.args.pass c.loop.pass c.enter_until-entered.result.0 c.loop.ends c.with-ends.result
          c.in-Ok-Some.input last i.received c.if-ends-2.false (rw c.in-Ok-Some.field-0-is at next.next) (rw c.in-Ok-Some.field-0-is at next.datagram) (rw c.of-tools.ensures.clock at c.enter_until-entered.ensures.tried) more.received more.lost more.memory;
      worker = c.enter_until-entered.ensures.worker ∙ i.worker;
      turns = through_then (g.W.Gate.passed c.args.gate.now Receiver) 0 c.loop.steps.count c.enter_until-entered.new.steps.count c.args.pass c.loop.pass c.enter_until-entered.result.0 i.turns
          (subst (λ (v : Worker). GoesThrough (g.W.Gate.passed c.args.gate.now v) c.loop.steps.count c.enter_until-entered.new.steps.count c.loop.pass c.enter_until-entered.result.0) i.worker (rw c.of-tools.ensures.gate at c.enter_until-entered.ensures.turns));
      few = let a = more.received in let b = c.if-ends-from.false in let d = c.from.ensures in omega arith;
      lost = let a = more.received in let b = more.lost in let d = i.lost in let e = lost_once last in omega arith;
      whole = next.whole;
      cause = record { later = le_trans i.cause.later c.next_datagram.ensures.cause.later; rose = λ is. absurd (true≢false (sym is ∙ (more.link ∙ c.if-ends.false))) };
      counted = ⊎_elim (λ is. absurd (true≢false (sym is ∙ c.if-ends.false))) (λ same. inr (next.uncounted ∙ same)) i.counted;
    }
