use Rattle.std.proofs.Common.{[], subst, sym, ◌∙◌, ℕ, refl}
use Rattle.std.proofs.lemmas.Result.{err_from_is_err_and}
use Rattle.ground_io.specs.Disk.{octets_at}
use Rattle.ground_io.proofs.Crashes.{adds_both, adds_none}
use Rattle.alarm_journal.specs.Areas.{IsDamage}
use Rattle.alarm_journal.specs.Journal.{LeavesAt}
use Rattle.alarm_journal.specs.declared.open_fault.OpenFault.{OpenFault}
use Rattle.alarm_journal.proofs.area.read_batches.Goals as goal

pub loop-init : goal.loop-init
loop-init g c = record {
  same = refl;
  uncounted = refl;
  emitted = refl;
  told = adds_none (g.G.Ground.told c.args.device.now);
  stays = (refl, (refl, refl));
  inside = c.requires.within;
  held = c.requires.so_far;
}

pub loop-preserved : goal.loop-preserved
loop-preserved g c =
    let i = c.loop.invariant in
    let e = c.in_ok-read_batch.ensures in
    record {
      same = e.same ∙ i.same;
      uncounted = ◌∙◌ {A = ℕ} e.uncounted i.uncounted;
      emitted = e.emitted ∙ i.emitted;
      told = adds_both (g.G.Ground.told c.args.device.now) (g.G.Ground.told c.loop.device) (g.G.Ground.told c.read_batch.new.device) [] [] i.told e.told;
      stays = (e.stays.0 ∙ i.stays.0, (e.stays.1.0 ∙ i.stays.1.0, e.stays.1.1 ∙ i.stays.1.1));
      inside = e.within;
      held = e.so_far;
    }

pub returns-in_err-read_batch-clause-damaged : goal.returns-in_err-read_batch-clause-damaged
returns-in_err-read_batch-clause-damaged g c =
    let i = c.loop.invariant in
    let told = g.G.Ground.told c.read_batch.new.device in
    let fault : OpenFault = c.in_err-read_batch.field-0.0 in
    let start : ℕ = c.args.area.now.start in
    let half : ℕ = c.args.area.now.half in
    let p = err_from_is_err_and c.from_residual.result c.from_residual.ensures.1 in
    rw p.1 (subst (λ (f : OpenFault). IsDamage told (λ at image. LeavesAt start (octets_at start half image) at) f) (sym p.2)
    (subst (λ (s : ℕ). IsDamage told (λ at image. LeavesAt s (octets_at s half image) at) fault) i.stays.0
    (subst (λ (h : ℕ). IsDamage told (λ at image. LeavesAt c.loop.area.start (octets_at c.loop.area.start h image) at) fault) i.stays.1.0 c.in_err-read_batch.ensures.damaged)))
