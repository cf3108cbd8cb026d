use Rattle.std.proofs.Common.{◌≤◌, ◌<◌, ◌^◌, ◌∙◌, sym, arith}
use Rattle.script_lines.proofs.BitDigits.{behind_none, behind_room, bit_small}
use Rattle.script_lines.proofs.value.bits_value.Goals as goal

pub returns-in_err-number : goal.returns-in_err-number
returns-in_err-number c =
    let here = c.loop-digit in
    record { value = c.from_residual.ensures ∙ behind_none c.args.digits.now here.digit-iterator.iter.rest.now c.next.new.self.iter.rest.now c.in-Some.digit.now here.number here.invariant c.in-Some.ensures.steps (sym c.in_err-number.ensures.bit) }

pub overflow_mul-number : goal.overflow_mul-number
overflow_mul-number c =
    let here = c.loop-digit in
    let room : here.number < 2 ^ 63 = behind_room c.args.digits.now here.digit-iterator.iter.rest.now c.next.new.self.iter.rest.now c.in-Some.digit.now here.number here.invariant c.in-Some.ensures.steps c.requires in
    omega arith

pub overflow_add-number : goal.overflow_add-number
overflow_add-number c =
    let here = c.loop-digit in
    let room : here.number < 2 ^ 63 = behind_room c.args.digits.now here.digit-iterator.iter.rest.now c.next.new.self.iter.rest.now c.in-Some.digit.now here.number here.invariant c.in-Some.ensures.steps c.requires in
    let small : c.in_ok-number.field-0 ≤ 1 = bit_small c.in-Some.digit.now c.in_ok-number.field-0 (sym c.in_ok-number.ensures.bit) in
    omega arith
