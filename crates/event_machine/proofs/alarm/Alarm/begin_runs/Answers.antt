use Rattle.std.proofs.Common.{sym, subst}
use Rattle.event_machine.specs.Given.{point_of}
use Rattle.event_machine.specs.Summary.{no_runs}
use Rattle.event_machine.specs.Runs.{AreInRange}
use Rattle.event_machine.proofs.Ranges.{runs_in, none_in}
use Rattle.event_machine.proofs.alarm.Alarm.begin_runs.Goals as goal

pub invariant_of-self : goal.invariant_of-self
invariant_of-self c =
    let inside = c.self.inside in
    subst AreInRange (sym c.next_runs-self-inside.ensures.runs)
    (runs_in c.args.snapshot.now.algorithm (point_of c.args.snapshot.now c.args.point.now) inside.state inside.cause no_runs c.requires.moment none_in)
