use Rattle.std.proofs.Common.{arith}
use Rattle.jiff_core.proofs.CalendarLemmas.{weekday_number_bound}
use Rattle.civil_stamp.specs.LocalTime.{stamp_epoch_day}
use Rattle.civil_stamp.proofs.moment.LocalMoment.weekday_and_time.Goals as goal

pub returns-clause-weekdays : goal.returns-clause-weekdays
returns-clause-weekdays c =
    let weekday = c.self.invariant.shows.weekday in
    let bound = weekday_number_bound (stamp_epoch_day c.self.inside.stamp) in
    (omega arith, omega arith)
