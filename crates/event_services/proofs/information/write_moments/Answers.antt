use Rattle.std.proofs.Common.{◌≡◌, ℕ, ◌+◌, ◌*◌, ◌≤◌, length, ◌∙◌, arith}
use Rattle.std.proofs.lemmas.Result.{IfOk-from_err}
use Rattle.event_services.specs.Information.{written_moment}
use Rattle.event_services.proofs.Appended.{append_next, length_next, append_all, length_all}
use Rattle.event_services.proofs.information.write_moments.Goals as goal

more : (i : ℕ) → 12 * i + 12 ≡ 12 * (i + 1)
more i = omega arith

same : (i n : ℕ) → n ≤ i → i ≤ n → 12 * i ≡ 12 * n
same i n past within = omega arith

pub loop-stamp-preserved : goal.loop-stamp-preserved
loop-stamp-preserved c =
    let xs = c.args.stamps.now in
    let i = c.loop-stamp.stamp-index in
    record {
      written = append_next written_moment xs i _ c.args.out.now.items c.loop-stamp.out.items c.write_moment.new.out.items c.loop-stamp-test.true c.loop-stamp.invariant.written c.in_ok-write_moment.ensures.written;
      long = length_next written_moment xs i _ (12 * i) 12 c.loop-stamp-test.true c.loop-stamp.invariant.long c.in_ok-write_moment.ensures.long ∙ more i;
    }

pub returns : goal.returns
returns c =
    let xs = c.args.stamps.now in
    let i = c.loop-stamp.stamp-index in
    record {
      written = append_all written_moment xs i c.args.out.now.items c.loop-stamp.out.items c.loop-stamp-test.false c.loop-stamp.invariant.written;
      long = length_all written_moment xs i (12 * i) c.loop-stamp-test.false c.loop-stamp.invariant.long ∙ same i (length xs) c.loop-stamp-test.false c.loop-stamp.auto.stamp-index-end;
    }

pub returns-in_err-write_moment : goal.returns-in_err-write_moment
returns-in_err-write_moment c = record {
  written = IfOk-from_err c.from_residual.result _ c.from_residual.ensures.0;
  long = IfOk-from_err c.from_residual.result _ c.from_residual.ensures.0;
}
