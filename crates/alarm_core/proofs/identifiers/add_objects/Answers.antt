use Rattle.std.proofs.lemmas.Result.{IfOk-from_err}
use Rattle.enrollment.proofs.Appended.{makes_next, makes_all}
use Rattle.object_table.specs.declared.object_site.ObjectSite.{ObjectSite}
use Rattle.alarm_core.proofs.identifiers.add_objects.Goals as goal

pub loop-object-preserved : goal.loop-object-preserved
loop-object-preserved c =
    makes_next (λ (object : ObjectSite). object.object) c.args.objects.now c.loop-object.object-index c.object-item.result c.args.identifiers.now.items c.loop-object.identifiers.items c.push.new.items.items
    c.loop-object-test.true c.object-item.is c.loop-object.invariant c.in_ok-push.ensures.added

pub returns-in_err-push : goal.returns-in_err-push
returns-in_err-push c = record { added = IfOk-from_err c.from_residual.result _ c.from_residual.ensures.0 }

pub returns : goal.returns
returns c =
    record { added = makes_all (λ (object : ObjectSite). object.object) c.args.objects.now c.loop-object.object-index c.args.identifiers.now.items c.loop-object.identifiers.items c.loop-object-test.false c.loop-object.invariant }
