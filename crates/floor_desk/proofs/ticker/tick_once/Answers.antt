use Rattle.std.proofs.Common.{[], arith, refl}
use Rattle.floor_desk.proofs.Ticking.{ticked_looked, ticked_once}
use Rattle.floor_desk.proofs.Turns.{through_entry, through_none, through_step, worker_stays}
use Rattle.floor_desk.proofs.Working.{worked_look}
use Rattle.floor_desk.proofs.ticker.tick_once.Goals as goal

pub returns-in-Ok-clause-ticked : goal.returns-in-Ok-clause-ticked
returns-in-Ok-clause-ticked g c =
    let shows = g.K.Clock.shows c.args.tools.now.clock.now in
    let p = c.args.pass in let q = c.enter-pass.result.0 in let r = c.enter-pass-2.result.0 in
    let a = c.enter-pass.ensures.entered in let b = c.enter-pass-2.ensures.entered in
    let t = ticked_once g.G.Ground.told g.G.Ground.size g.G.Ground.disk_faults g.G.Ground.emit_faults c.args.tools.now.desk.now.origin shows p q r a.0 b.0 c.now.result c.now-2.result c.enter-pass.result.1 c.enter-pass-2.result.1 a.1 c.now.ensures.shown a.2 b.1 c.now-2.ensures.shown b.2 in
    ticked_looked shows p r c.standing.result.0 t (worked_look c.in-Ok.ticket.number r c.standing.result.0 c.standing.result.1 c.standing.ensures.told)

pub returns-in-Err-clause-ticked : goal.returns-in-Err-clause-ticked
returns-in-Err-clause-ticked g c =
    let shows = g.K.Clock.shows c.args.tools.now.clock.now in
    let p = c.args.pass in let q = c.enter-pass.result.0 in let r = c.enter-pass-2.result.0 in
    let a = c.enter-pass.ensures.entered in let b = c.enter-pass-2.ensures.entered in
    ticked_once g.G.Ground.told g.G.Ground.size g.G.Ground.disk_faults g.G.Ground.emit_faults c.args.tools.now.desk.now.origin shows p q r a.0 b.0 c.now.result c.now-2.result c.enter-pass.result.1 c.enter-pass-2.result.1 a.1 c.now.ensures.shown a.2 b.1 c.now-2.ensures.shown b.2

-- the two inputs, each behind a turn
two_turns : goal.returns-in-Err-clause-turns
two_turns g c =
    let turn = (g.W.Gate.passed c.args.tools.now.gate.now) in let worker = c.args.steps.now.worker in let p = c.args.pass in let q = c.enter-pass.result.0 in let r = c.enter-pass-2.result.0 in
    let a = c.enter-pass.ensures.entered in let b = c.enter-pass-2.ensures.entered in
    through_entry turn worker g.G.Ground.told g.G.Ground.size g.G.Ground.disk_faults g.G.Ground.emit_faults c.args.tools.now.desk.now.origin c.args.steps.now.count c.next.new.self c.next-2.new.self p q r _
    (through_entry turn worker g.G.Ground.told g.G.Ground.size g.G.Ground.disk_faults g.G.Ground.emit_faults c.args.tools.now.desk.now.origin c.args.steps.now.count c.args.steps.now c.next.new.self p p q _ (through_none (turn worker) c.args.steps.now.count p) refl c.next.ensures.next c.next.ensures.passed a.2)
    (worker_stays worker c.args.steps.now c.next.new.self refl c.next.ensures.next) c.next-2.ensures.next c.next-2.ensures.passed b.2

pub returns-in-Err-clause-turns : goal.returns-in-Err-clause-turns
returns-in-Err-clause-turns g c = two_turns g c

pub returns-in-Ok-clause-turns : goal.returns-in-Ok-clause-turns
returns-in-Ok-clause-turns g c =
    let turn = (g.W.Gate.passed c.args.tools.now.gate.now) in let worker = c.args.steps.now.worker in let p = c.args.pass in let q = c.enter-pass.result.0 in let r = c.enter-pass-2.result.0 in
    let a = c.enter-pass.ensures.entered in let b = c.enter-pass-2.ensures.entered in
    let first = worker_stays worker c.args.steps.now c.next.new.self refl c.next.ensures.next in
    let second = worker_stays worker c.next.new.self c.next-2.new.self first c.next-2.ensures.next in
    through_step turn worker c.args.steps.now.count c.next-2.new.self c.next-in-Ok.new.self p r c.standing.result.0 []
    (through_entry turn worker g.G.Ground.told g.G.Ground.size g.G.Ground.disk_faults g.G.Ground.emit_faults c.args.tools.now.desk.now.origin c.args.steps.now.count c.next.new.self c.next-2.new.self p q r _
    (through_entry turn worker g.G.Ground.told g.G.Ground.size g.G.Ground.disk_faults g.G.Ground.emit_faults c.args.tools.now.desk.now.origin c.args.steps.now.count c.args.steps.now c.next.new.self p p q _ (through_none (turn worker) c.args.steps.now.count p) refl c.next.ensures.next c.next.ensures.passed a.2)
    first c.next-2.ensures.next c.next-2.ensures.passed b.2)
    second c.next-in-Ok.ensures.next c.next-in-Ok.ensures.passed (worked_look c.in-Ok.ticket.number r c.standing.result.0 c.standing.result.1 c.standing.ensures.told) (omega arith)
