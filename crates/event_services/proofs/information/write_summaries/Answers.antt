use Rattle.std.proofs.Common.{◌≡◌, ℕ, ◌+◌, ◌*◌, ◌≤◌, ◌++◌, length, ap, sym, ◌∙◌, arith}
use Rattle.std.proofs.lemmas.Result.{IfOk-from_err}
use Rattle.event_services.specs.Information.{written_summary}
use Rattle.event_services.proofs.Appended.{append_next, length_next, append_all, length_all}
use Rattle.event_services.proofs.information.write_summaries.Goals as goal

more : (i : ℕ) → 61 * i + 61 ≡ 61 * (i + 1)
more i = omega arith

same : (i n : ℕ) → n ≤ i → i ≤ n → 61 * i ≡ 61 * n
same i n past within = omega arith

pub loop-summary-preserved : goal.loop-summary-preserved
loop-summary-preserved c =
    let xs = c.args.summaries.now in
    let i = c.loop-summary.summary-index in
    let x = c.summary-item.result in
    record {
      written = append_next written_summary xs i x c.args.out.now.items c.loop-summary.out.items c.write_summary.new.out.items c.loop-summary-test.true c.loop-summary.invariant.written (c.in_ok-write_summary.ensures.written ∙ ap (λ y. c.loop-summary.out.items ++ written_summary y) c.summary-item.is);
      long = length_next written_summary xs i x (61 * i) 61 c.loop-summary-test.true c.loop-summary.invariant.long (ap (λ y. length (written_summary y)) (sym c.summary-item.is) ∙ c.in_ok-write_summary.ensures.long) ∙ more i;
    }

pub returns : goal.returns
returns c =
    let xs = c.args.summaries.now in
    let i = c.loop-summary.summary-index in
    record {
      written = append_all written_summary xs i c.args.out.now.items c.loop-summary.out.items c.loop-summary-test.false c.loop-summary.invariant.written;
      long = length_all written_summary xs i (61 * i) c.loop-summary-test.false c.loop-summary.invariant.long ∙ same i (length xs) c.loop-summary-test.false c.loop-summary.auto.summary-index-end;
    }

pub returns-in_err-write_summary : goal.returns-in_err-write_summary
returns-in_err-write_summary c = record {
  written = IfOk-from_err c.from_residual.result _ c.from_residual.ensures.0;
  long = IfOk-from_err c.from_residual.result _ c.from_residual.ensures.0;
}
