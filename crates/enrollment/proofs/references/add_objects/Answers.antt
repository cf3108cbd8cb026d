use Rattle.std.proofs.Common.{Bool, cond, [], ◌++◌, ap, ◌∙◌}
use Rattle.std.proofs.lemmas.Result.{IfOk-from_err}
use Rattle.enrollment.specs.References.{references_by, stands}
use Rattle.enrollment.specs.Watchers.{referrer_of_object}
use Rattle.enrollment.proofs.Appended.{gives_passing, gives_all_passing}
use Rattle.enrollment.proofs.references.add_objects.Goals as goal

pub loop-site-preserved : goal.loop-site-preserved
loop-site-preserved c =
    let x = c.site-item.result in
    let now = c.loop-site.references.items in
    gives_passing (λ site. references_by (referrer_of_object site)) (stands c.args.before) c.args.sites.now c.loop-site.site-index x c.args.references.now.items now c.add_object.new.references.items c.loop-site-test.true c.site-item.is c.loop-site.invariant
    (c.in_ok-add_object.ensures.added ∙ ap (λ (b : Bool). now ++ cond b (references_by (referrer_of_object x)) []) c.stands.ensures.stands)

pub returns-in_err-add_object : goal.returns-in_err-add_object
returns-in_err-add_object c = record { added = IfOk-from_err c.from_residual.result _ c.from_residual.ensures.0 }

pub returns : goal.returns
returns c = record {
  added = gives_all_passing (λ site. references_by (referrer_of_object site)) (stands c.args.before) c.args.sites.now c.loop-site.site-index c.args.references.now.items c.loop-site.references.items c.loop-site-test.false c.loop-site.invariant;
}
