use Rattle.std.proofs.Common.{◌≡◌, ◌<◌, ◌^◌, ◌∙◌, arith, rules}
use Rattle.std.proofs.lemmas.Result.{IfOk-weaker}
use Rattle.state_codec.specs.Work.{IsSnapshotOf}
use Rattle.state_codec.proofs.Works.{snapshot_of_core}
use Rattle.state_codec.proofs.snapshot.snapshot_of.Goals as goal

pub returns-clause-snapshot : goal.returns-clause-snapshot
returns-clause-snapshot c =
    let core = c.args.core.now in
    let few : core.events < 2 ^ 63 = omega (arith, c.if-not-takes_state.ensures.few (search rules)) in
    IfOk-weaker c.snapshot.result (λ job. job ≡ c.as_slice.result.now) (IsSnapshotOf core)
    (λ job made. snapshot_of_core core job c.site.ensures.keeps (rw c.site.ensures.site at c.site_fits.ensures.fits) few (c.snapshots_are_short.ensures.short.some core) (made ∙ c.as_slice.ensures.value ∙ c.in_ok-octets.ensures.written) c.in_ok-octets.ensures.fits) c.snapshot.ensures.made
