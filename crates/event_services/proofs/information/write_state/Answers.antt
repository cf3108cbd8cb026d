use Rattle.std.proofs.Common.{ap, ◌∙◌, ◌++◌, Some, arith}
use Rattle.std.proofs.lemmas.Result.{on_ok_weaker, IfOk-from_err}
use Rattle.bac_values.specs.BitString.{string_of_flags}
use Rattle.bac_values.specs.EventStates.{number_of_state}
use Rattle.bac_tags.specs.Writing.{written_unsigned, written_object, written_bits}
use Rattle.event_services.proofs.Appended.{append_three}
use Rattle.event_services.proofs.SummaryLengths.{state_part}
use Rattle.event_services.proofs.information.write_state.Goals as goal

pub returns-in_err-write_object : goal.returns-in_err-write_object
returns-in_err-write_object c = record {
  written = IfOk-from_err c.from_residual.result _ c.from_residual.ensures.0;
  long = state_part c.args.summary.now (omega arith);
}

pub returns-in_err-write_unsigned : goal.returns-in_err-write_unsigned
returns-in_err-write_unsigned c = record {
  written = IfOk-from_err c.from_residual-in_err-write_unsigned.result _ c.from_residual-in_err-write_unsigned.ensures.0;
  long = state_part c.args.summary.now (omega arith);
}

pub returns : goal.returns
returns c =
    let s = c.args.summary.now in
    record {
      written = on_ok_weaker c.write_bits.result (λ bits.
          append_three c.args.out.now.items c.write_object.new.out.items c.write_unsigned.new.out.items c.write_bits.new.out.items (written_object (Some 0) s.object) (written_unsigned (Some 1) (number_of_state s.state)) (written_bits (Some 2) (string_of_flags s.acked))
          c.in_ok-write_object.ensures.written
          (c.in_ok-write_unsigned.ensures.written ∙ ap (λ n. c.write_object.new.out.items ++ written_unsigned (Some 1) n) (c.from.ensures ∙ c.number.ensures.number))
          (bits ∙ ap (λ string. c.write_unsigned.new.out.items ++ written_bits (Some 2) string) c.of_flags.ensures.string))
          c.write_bits.ensures.written;
      long = state_part s (omega arith);
    }
