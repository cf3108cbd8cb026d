use Rattle.std.proofs.Common.{◌≡◌, Some, sym, ap, ◌∙◌}
use Rattle.enrollment.specs.Objects.{EnrollmentsState}
use Rattle.enrollment.proofs.Places.{site_at}
use Rattle.enrollment.proofs.enrollments.Enrollments.row.Goals as goal

pub returns-in-Ok-clause-row : goal.returns-in-Ok-clause-row
returns-in-Ok-clause-row c =
    let sites : c.self.inside.rows.items ≡ c.args.self.now.sites = ap (λ (e : EnrollmentsState). e.sites) c.self.view_is in
    let value = rw sites at c.index.ensures in
    ap (λ s. Some s) value ∙ sym (site_at c.args.object c.args.self.now.sites c.in-Ok.place c.index.result.now c.in-Ok.ensures.found)
