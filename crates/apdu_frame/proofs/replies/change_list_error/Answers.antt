use Rattle.std.proofs.Common.{◌≡◌, ℕ, length, rules}
use Rattle.apdu_frame.proofs.ListErrors.{list_error_short}
use Rattle.apdu_frame.proofs.replies.change_list_error.Goals as goal

pub returns-clause-short : goal.returns-clause-short
returns-clause-short c =
    let three : length c.extend_from_slice.new.self.items ≡ 3 = search rules in
    list_error_short c.extend_from_slice.new.self.items c.write_opening.new.out.items c.write_enumerated.new.out.items c.write_enumerated-2.new.out.items c.write_closing.new.out.items c.write_unsigned.new.out.items c.args.class c.args.code c.args.element three c.in_ok-write_opening.ensures.written (search rules) (search rules) c.in_ok-write_closing.ensures.written c.in_ok-write_unsigned.ensures.written c.ranges.class.fits c.ranges.code.fits
