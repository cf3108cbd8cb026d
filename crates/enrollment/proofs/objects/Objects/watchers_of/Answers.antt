use Rattle.std.proofs.Common.{ap, ◌∙◌}
use Rattle.enrollment.specs.Objects.{EnrollmentsState, ObjectsState}
use Rattle.enrollment.specs.References.{watchers_in}
use Rattle.enrollment.specs.Watchers.{referrers_in, watchers}
use Rattle.enrollment.proofs.Watched.{all_watched}
use Rattle.enrollment.proofs.objects.Objects.watchers_of.Goals as goal

pub returns-clause-watchers : goal.returns-clause-watchers
returns-clause-watchers c =
    let object = c.args.object in
    let inside : ObjectsState = record { rows = c.self.inside.table; enrollments = c.self.inside.enrollments.sites } in
    c.watchers_of.ensures.watchers
    ∙ (ap (λ (e : EnrollmentsState). watchers_in object e.references) c.self.invariant
    ∙ (all_watched object (referrers_in inside)
    ∙ ap (λ (o : ObjectsState). watchers object (referrers_in o)) c.self.view_is))
