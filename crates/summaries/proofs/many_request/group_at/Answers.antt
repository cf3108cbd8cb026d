use Rattle.std.proofs.Common.{Option, Ok, sym, ap, ◌∙◌}
use Rattle.summaries.specs.declared.requested.Spec.{Spec}
use Rattle.summaries.proofs.Counting.{group_passing, passing_object}
use Rattle.summaries.proofs.many_request.group_at.Goals as goal

pub returns-clause-exact : goal.returns-clause-exact
returns-clause-exact c =
    let object = c.in_ok-object.object in
    ap (λ (spec : Option Spec). Ok (spec, c.in_ok-asked.passed, c.in_ok-asked.end)) c.spec_if.ensures.spec
    ∙ sym (group_passing c.args.input.now c.args.at c.args.before c.args.index object c.in_ok-object.start (sym c.entry_at.ensures.exact ∙ c.in_ok-object.was)
    ∙ ap (passing_object object) (sym c.properties_at.ensures.exact ∙ c.in_ok-asked.was))
