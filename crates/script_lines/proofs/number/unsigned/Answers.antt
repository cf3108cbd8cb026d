use Rattle.std.proofs.Common.{◌≡◌, arith}
use Rattle.std.proofs.lemmas.Grind.{common_steps}
use Rattle.script_lines.specs.Number.{unsigned_of}
use Rattle.script_lines.proofs.Decimal.{spelled}
use Rattle.script_lines.proofs.number.unsigned.Goals as goal

pub returns-clause-written : goal.returns-clause-written
returns-clause-written c = λ n.
    let value : c.filter.result ≡ unsigned_of c.args.most c.args.text.now = grind (arith, common_steps) in
    spelled c.args.most n c.args.text.now c.filter.result (omega arith) value
