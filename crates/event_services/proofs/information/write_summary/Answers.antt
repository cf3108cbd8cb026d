use Rattle.std.proofs.Common.{◌++◌, None, arith}
use Rattle.std.specs.Prelude.{flat_map}
use Rattle.std.proofs.lemmas.Result.{on_ok_weaker, IfOk-from_err}
use Rattle.bac_tags.specs.Writing.{written_unsigned}
use Rattle.bac_tags.specs.ParameterWriting.{written_enclosed}
use Rattle.event_services.specs.Information.{written_moment, written_state, written_notifying}
use Rattle.event_services.proofs.Appended.{append_two, append_three}
use Rattle.event_services.proofs.SummaryLengths.{summary_part}
use Rattle.event_services.proofs.information.write_summary.Goals as goal

pub returns-in_err-write_state : goal.returns-in_err-write_state
returns-in_err-write_state c = record {
  written = IfOk-from_err c.from_residual.result _ c.from_residual.ensures.0;
  long = IfOk-from_err c.from_residual.result _ c.from_residual.ensures.0;
}

pub returns-in_err-write_stamps : goal.returns-in_err-write_stamps
returns-in_err-write_stamps c = record {
  written = IfOk-from_err c.from_residual-in_err-write_stamps.result _ c.from_residual-in_err-write_stamps.ensures.0;
  long = IfOk-from_err c.from_residual-in_err-write_stamps.result _ c.from_residual-in_err-write_stamps.ensures.0;
}

pub returns-in_err-write_notifying : goal.returns-in_err-write_notifying
returns-in_err-write_notifying c = record {
  written = IfOk-from_err c.from_residual-in_err-write_notifying.result _ c.from_residual-in_err-write_notifying.ensures.0;
  long = IfOk-from_err c.from_residual-in_err-write_notifying.result _ c.from_residual-in_err-write_notifying.ensures.0;
}

pub returns : goal.returns
returns c =
    let s = c.args.summary.now in
    let old = c.args.out.now.items in
    let stamps = written_enclosed 3 (flat_map written_moment s.stamps) in
    let priorities = written_enclosed 6 (flat_map (written_unsigned None) s.priority) in
    let first = append_three old c.write_state.new.out.items c.write_stamps.new.out.items c.write_notifying.new.out.items (written_state s) stamps (written_notifying s)
    c.in_ok-write_state.ensures.written c.in_ok-write_stamps.ensures.written c.in_ok-write_notifying.ensures.written in
    record {
      written = on_ok_weaker c.write_priorities.result (append_two old c.write_notifying.new.out.items c.write_priorities.new.out.items (written_state s ++ stamps ++ written_notifying s) priorities first) c.write_priorities.ensures.written;
      long = on_ok_weaker c.write_priorities.result (λ long. summary_part s c.in_ok-write_state.ensures.long c.in_ok-write_stamps.ensures.long c.in_ok-write_notifying.ensures.long long (omega arith) (omega arith)) c.write_priorities.ensures.long;
    }
