use Rattle.std.proofs.Common.{◌<◌, ◌^◌, length, ap, ◌∙◌, sym, arith}
use Rattle.std.specs.Result.{result_ok}
use Rattle.std.proofs.lemmas.Result.{Ok-from_Ok_iff}
use Rattle.script_lines.proofs.BitDigits.{number_small, bits_written}
use Rattle.script_lines.proofs.value.read_bits.Goals as goal

pub returns : goal.returns
returns c =
    let digits = c.args.digits.now in
    let number = c.in_ok-number.number in
    let small : number < 2 ^ length digits = number_small digits number (sym c.in_ok-number.ensures.value) in
    let made = Ok-from_Ok_iff _ _ _ c.new.ensures.made (omega arith, small) in
    record { bits = c.ok.ensures.value ∙ (ap result_ok made ∙ bits_written digits number (omega arith) (sym c.in_ok-number.ensures.value)) }
