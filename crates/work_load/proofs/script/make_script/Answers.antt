use Rattle.std.proofs.Common.{◌≡◌, ◌+◌, ◌-◌, ◌++◌, ◌∙◌, ap, sym, refl, arith, rules, string_bytes}
use Rattle.work_load.specs.Script.{workload_script}
use Rattle.work_load.proofs.Lines.{all_written, goes_on}
use Rattle.work_load.proofs.script.make_script.Goals as goal

pub loop-place-preserved : goal.loop-place-preserved
loop-place-preserved c =
    let here = c.loop-place in
    let count = c.args.count in
    goes_on (workload_script c.args.seed count) here.script.items c.append.new.octets.items (here.place + 1) (here.place + 1 + 1) here.draws.seed c.line_text.new.draws.seed (count - here.place) (count - (here.place + 1))
    here.invariant (omega arith) refl c.in_ok-line.ensures.seed
    (c.in_ok-append.ensures.appended ∙ ap (λ l. here.script.items ++ l) (c.as_str.ensures.value ∙ c.in_ok-line.ensures.text))

pub returns : goal.returns
returns c =
    let here = c.loop-place in
    record { script = all_written (workload_script c.args.seed c.args.count) here.script.items (here.place + 1) here.draws.seed (c.args.count - here.place) here.invariant (omega arith) }
