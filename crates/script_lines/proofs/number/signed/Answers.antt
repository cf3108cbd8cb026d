use Rattle.std.proofs.Common.{◌≡◌, arith}
use Rattle.std.proofs.lemmas.Grind.{common_steps}
use Rattle.script_lines.specs.Number.{signed_of}
use Rattle.script_lines.proofs.SignedDecimal.{spelled_signed}
use Rattle.script_lines.proofs.number.signed.Goals as goal

pub returns-in-45-clause-written : goal.returns-in-45-clause-written
returns-in-45-clause-written c = λ z.
    let value : c.negative.result ≡ signed_of c.args.text.now = grind (arith, common_steps) in
    spelled_signed z c.args.text.now c.negative.result value
