use Rattle.std.proofs.Common.{◌≡◌, ◌≤◌, length, arith, rules, sym, subst}
use Rattle.bac_values.specs.Services.{longest_apdu}
use Rattle.apdu_frame.specs.Writing.{written_unconfirmed}
use Rattle.property_services.specs.Writing.{written_i_am}
use Rattle.alarm_core.specs.Found.{device_object}
use Rattle.service_desk.proofs.Lengths.{i_am_length}
use Rattle.service_desk.proofs.who_is.i_am.Goals as goal

pub reply_to-requires : goal.reply_to-requires
reply_to-requires c =
    let device = device_object c.args.core.now.site in
    let vendor = c.args.core.now.site.device.vendor in
    let body = written_i_am device vendor in
    let same : c.as_slice-2.result.now ≡ written_unconfirmed 0 body = search rules in
    let short : length (written_unconfirmed 0 body) ≤ longest_apdu = omega (arith, i_am_length device vendor) in
    record { short = subst (λ apdu. length apdu ≤ longest_apdu) (sym same) short }
