use Rattle.std.proofs.Common.{ap, ◌∙◌, ◌++◌, Some, arith}
use Rattle.std.proofs.lemmas.Result.{on_ok_weaker, IfOk-from_err}
use Rattle.bac_values.specs.BitString.{string_of_flags}
use Rattle.bac_tags.specs.Writing.{written_unsigned, written_bits}
use Rattle.event_services.proofs.Appended.{append_two}
use Rattle.event_services.proofs.SummaryLengths.{notifying_part}
use Rattle.event_services.proofs.information.write_notifying.Goals as goal

pub returns-in_err-write_unsigned : goal.returns-in_err-write_unsigned
returns-in_err-write_unsigned c = record {
  written = IfOk-from_err c.from_residual.result _ c.from_residual.ensures.0;
  long = notifying_part c.args.summary.now (omega arith) (omega arith);
}

pub returns : goal.returns
returns c =
    let s = c.args.summary.now in
    record {
      written = on_ok_weaker c.write_bits.result (λ bits.
          append_two c.args.out.now.items c.write_unsigned.new.out.items c.write_bits.new.out.items (written_unsigned (Some 4) s.notify) (written_bits (Some 5) (string_of_flags s.enable))
          (c.in_ok-write_unsigned.ensures.written ∙ ap (λ n. c.args.out.now.items ++ written_unsigned (Some 4) n) c.from.ensures)
          (bits ∙ ap (λ string. c.write_unsigned.new.out.items ++ written_bits (Some 5) string) c.of_flags.ensures.string))
          c.write_bits.ensures.written;
      long = notifying_part s (omega arith) (omega arith);
    }
