use Rattle.std.proofs.Common.{◌+◌, ◌*◌, ◌<◌, ◌^◌, ◌-◌, ◌∙◌, get_or, arith, rules}
use Rattle.script_lines.proofs.Digits.{overflow, digits_after-end}
use Rattle.script_lines.proofs.number.digits_value.Goals as goal

pub returns-in_err-checked_mul : goal.returns-in_err-checked_mul
returns-in_err-checked_mul c =
    let ds = c.args.digits.now in
    let i = c.loop-digit.digit-index in
    let big : 2 ^ 64 - 1 < c.loop-digit.value * 10 + (get_or ds i 0 - 48) = omega (arith, c.in_err-checked_mul.ensures) in
    record { value = c.from_residual.ensures ∙ overflow (2 ^ 64 - 1) c.loop-digit.value i ds c.loop-digit-test.true (search rules) big c.loop-digit.invariant.0 }

pub returns-in_err-value : goal.returns-in_err-value
returns-in_err-value c =
    let ds = c.args.digits.now in
    let i = c.loop-digit.digit-index in
    let big : 2 ^ 64 - 1 < c.loop-digit.value * 10 + (get_or ds i 0 - 48) = omega (arith, c.in_err-value.ensures, c.from.ensures) in
    record { value = c.from_residual-in_err-value.ensures ∙ overflow (2 ^ 64 - 1) c.loop-digit.value i ds c.loop-digit-test.true (search rules) big c.loop-digit.invariant.0 }

pub returns : goal.returns
returns c = record { value = digits_after-end c.loop-digit.value c.loop-digit.digit-index c.args.digits.now c.loop-digit.invariant.0 (omega arith) (omega arith) }
