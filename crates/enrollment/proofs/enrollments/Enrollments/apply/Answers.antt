use Rattle.std.proofs.Common.{◌≡◌, ap}
use Rattle.enrollment.specs.Objects.{EnrollmentsState}
use Rattle.enrollment.proofs.Places.{enrollments_after, takes_at, taken_after, written_site, written_back}
use Rattle.enrollment.proofs.enrollments.Enrollments.apply.Goals as goal

pub put-requires-clause-taken : goal.put-requires-clause-taken
put-requires-clause-taken c =
    let sites : c.self.inside.rows.items ≡ c.args.self.now.sites = ap (λ (e : EnrollmentsState). e.sites) c.self.view_is in
    let value = rw sites at c.index_mut.ensures.value in
    takes_at c.args.change c.args.self.now.sites c.in-Ok.place c.in-Ok.ensures.found c.index_mut.result.now value c.requires.taken

pub invariant_of-self : goal.invariant_of-self
invariant_of-self c =
    enrollments_after _ _ c.in-Ok.place c.index_mut.result.now c.put.new.site c.index_mut.ensures.value c.put.ensures.object c.self.invariant c.put.ensures.allowed

pub returns-clause-rows : goal.returns-clause-rows
returns-clause-rows c =
    let sites : c.self.inside.rows.items ≡ c.args.self.now.sites = ap (λ (e : EnrollmentsState). e.sites) c.self.view_is in
    let value = rw sites at c.index_mut.ensures.value in
    rw sites (written_site c.args.change c.args.self.now.sites c.in-Ok.place c.in-Ok.ensures.found c.index_mut.result.now c.put.new.site value c.put.ensures.site)

pub returns-clause-undo : goal.returns-clause-undo
returns-clause-undo c =
    let sites : c.self.inside.rows.items ≡ c.args.self.now.sites = ap (λ (e : EnrollmentsState). e.sites) c.self.view_is in
    let value = rw sites at c.index_mut.ensures.value in
    rw sites (written_back c.args.change c.args.self.now.sites c.in-Ok.place c.in-Ok.ensures.found c.index_mut.result.now c.put.new.site c.put.result value c.put.ensures.object c.put.ensures.undo)

pub returns-clause-takes : goal.returns-clause-takes
returns-clause-takes c =
    let sites : c.self.inside.rows.items ≡ c.args.self.now.sites = ap (λ (e : EnrollmentsState). e.sites) c.self.view_is in
    let value = rw sites at c.index_mut.ensures.value in
    rw sites (taken_after c.args.change c.args.self.now.sites c.in-Ok.place c.in-Ok.ensures.found c.index_mut.result.now c.put.new.site c.put.result value c.put.ensures.object c.put.ensures.takes)
