use Rattle.std.proofs.Common.{sym, ◌∙◌, ap, None}
use Rattle.std.proofs.lemmas.List.{get_or_default}
use Rattle.held_timers.specs.Dues.{least_due}
use Rattle.held_timers.proofs.Winners.{least_of_timers, top_stands}
use Rattle.held_timers.proofs.timers.Timers.next_due.Goals as goal

pub returns : goal.returns
returns c =
    let timers = c.self.inside in
    let there = top_stands timers.count timers.leaves timers.nodes.items c.self.invariant in
    record {
      least = c.index.ensures
          ∙ get_or_default timers.nodes.items 1 c.index.result.now None there
          ∙ sym (least_of_timers timers.count timers.leaves timers.nodes.items c.self.invariant)
          ∙ ap least_due c.self.view_is;
    }
