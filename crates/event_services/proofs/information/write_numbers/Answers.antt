use Rattle.std.proofs.Common.{◌≡◌, ℕ, ◌+◌, ◌*◌, ◌≤◌, None, length, ◌∙◌, arith}
use Rattle.std.proofs.lemmas.Result.{IfOk-from_err}
use Rattle.bac_tags.specs.Writing.{written_unsigned}
use Rattle.event_services.proofs.Appended.{append_next, length_next, append_all, length_all}
use Rattle.event_services.proofs.information.write_numbers.Goals as goal

more : (i : ℕ) → 2 * i + 2 ≡ 2 * (i + 1)
more i = omega arith

same : (i n : ℕ) → n ≤ i → i ≤ n → 2 * i ≡ 2 * n
same i n past within = omega arith

pub loop-number-preserved : goal.loop-number-preserved
loop-number-preserved c =
    let xs = c.args.numbers.now in
    let i = c.loop-number.number-index in
    record {
      written = append_next (written_unsigned None) xs i _ c.args.out.now.items c.loop-number.out.items c.write_number.new.out.items c.loop-number-test.true c.loop-number.invariant.written c.in_ok-write_number.ensures.written;
      long = length_next (written_unsigned None) xs i _ (2 * i) 2 c.loop-number-test.true c.loop-number.invariant.long c.in_ok-write_number.ensures.long ∙ more i;
    }

pub returns : goal.returns
returns c =
    let xs = c.args.numbers.now in
    let i = c.loop-number.number-index in
    record {
      written = append_all (written_unsigned None) xs i c.args.out.now.items c.loop-number.out.items c.loop-number-test.false c.loop-number.invariant.written;
      long = length_all (written_unsigned None) xs i (2 * i) c.loop-number-test.false c.loop-number.invariant.long ∙ same i (length xs) c.loop-number-test.false c.loop-number.auto.number-index-end;
    }

pub returns-in_err-write_number : goal.returns-in_err-write_number
returns-in_err-write_number c = record {
  written = IfOk-from_err c.from_residual.result _ c.from_residual.ensures.0;
  long = IfOk-from_err c.from_residual.result _ c.from_residual.ensures.0;
}
