use Rattle.std.proofs.Common.{◌≡◌, Err, ap, sym, ◌∙◌, subst, Option, Some}
use Rattle.ground_io.specs.Counts.{Rose}
use Rattle.ground_io.specs.Trace.{still}
use Rattle.alarm_server.specs.declared.command.Command.{Command}
use Rattle.alarm_server.specs.declared.status.Status.{Status}
use Rattle.alarm_server.specs.Promises.{promise_of}
use Rattle.alarm_server.specs.Status.{status_of}
use Rattle.alarm_server.proofs.Numbered.{numbers_as}
use Rattle.alarm_server.proofs.run.run.Goals as goal

pub returns-in-Ok-clause-numbered : goal.returns-in-Ok-clause-numbered
returns-in-Ok-clause-numbered g c =
    let failed = (c.carry_out-device.new.script ≡ c.args.script.now) × Rose (g.S.Source.faults c.args.site.now) (g.S.Source.faults c.carry_out-device.new.site) in
    subst (λ (command : Option Command). (promise_of command).numbers (still (g.S.Source.left c.args.site.now) (g.S.Source.left c.carry_out-device.new.site)) (still (g.T.Source.left c.args.script.now) (g.T.Source.left c.carry_out-device.new.script)) (g.G.Ground.told c.args.device) (g.G.Ground.told c.carry_out-device.result.0))
    (sym c.in-Some.is ∙ c.read_command.ensures.command)
    (numbers_as failed (Some c.in-Some.command) (status_of c.carry_out-device.result.1) (still (g.S.Source.left c.args.site.now) (g.S.Source.left c.carry_out-device.new.site)) (still (g.T.Source.left c.args.script.now) (g.T.Source.left c.carry_out-device.new.script)) (g.G.Ground.told c.args.device) (g.G.Ground.told c.carry_out-device.result.0) c.carry_out-device.ensures.opened)

pub returns-in-Err-clause-numbered : goal.returns-in-Err-clause-numbered
returns-in-Err-clause-numbered g c =
    let failed = (c.carry_out-device.new.script ≡ c.args.script.now) × Rose (g.S.Source.faults c.args.site.now) (g.S.Source.faults c.carry_out-device.new.site) in
    subst (λ (command : Option Command). (promise_of command).numbers (still (g.S.Source.left c.args.site.now) (g.S.Source.left c.carry_out-device.new.site)) (still (g.T.Source.left c.args.script.now) (g.T.Source.left c.carry_out-device.new.script)) (g.G.Ground.told c.args.device) (g.G.Ground.told c.carry_out-device.result.0))
    (sym c.in-Some.is ∙ c.read_command.ensures.command)
    (numbers_as failed (Some c.in-Some.command) (status_of c.carry_out-device.result.1) (still (g.S.Source.left c.args.site.now) (g.S.Source.left c.carry_out-device.new.site)) (still (g.T.Source.left c.args.script.now) (g.T.Source.left c.carry_out-device.new.script)) (g.G.Ground.told c.args.device) (g.G.Ground.told c.carry_out-device.result.0) c.carry_out-device.ensures.opened)

pub returns-in-Err-clause-opened : goal.returns-in-Err-clause-opened
returns-in-Err-clause-opened g c =
    let failed = (c.carry_out-device.new.script ≡ c.args.script.now) × Rose (g.S.Source.faults c.args.site.now) (g.S.Source.faults c.carry_out-device.new.site) in
    subst (λ (command : Option Command). (promise_of command).opens failed c.in-Err.status (still (g.S.Source.left c.args.site.now) (g.S.Source.left c.carry_out-device.new.site)) (still (g.T.Source.left c.args.script.now) (g.T.Source.left c.carry_out-device.new.script)) (g.G.Ground.told c.args.device) (g.G.Ground.told c.carry_out-device.result.0))
    (sym c.in-Some.is ∙ c.read_command.ensures.command)
    (subst (λ (ended : Status). (promise_of (Some c.in-Some.command)).opens failed ended (still (g.S.Source.left c.args.site.now) (g.S.Source.left c.carry_out-device.new.site)) (still (g.T.Source.left c.args.script.now) (g.T.Source.left c.carry_out-device.new.script)) (g.G.Ground.told c.args.device) (g.G.Ground.told c.carry_out-device.result.0)) (ap status_of c.in-Err.is) c.carry_out-device.ensures.opened)
