use Rattle.std.proofs.Common.{◌≤◌, Fits, w32, length, drop, sym, ap, ◌∙◌, arith, rules}
use Rattle.std.proofs.lemmas.List.{length-take}
use Rattle.held_timers.proofs.Unused.{first_of_timers, first_due_from-below}
use Rattle.held_timers.proofs.timers.Timers.due_from.Goals as goal

pub returns-in_err-first : goal.returns-in_err-first
returns-in_err-first c =
    let timers = c.self.inside in
    let found = first_of_timers c.args.moment c.args.index timers.count timers.leaves timers.nodes.items c.deref.result.now c.args.self.now c.first_due.result c.self.invariant c.self.view_is c.requires.within c.deref.ensures.value c.first_due.ensures.first in
    record { first = c.from_residual.ensures ∙ sym c.in_err-first.was ∙ found }

pub overflow_cast-result : goal.overflow_cast-result
overflow_cast-result c =
    let timers = c.self.inside in
    let found = first_of_timers c.args.moment c.args.index timers.count timers.leaves timers.nodes.items c.deref.result.now c.args.self.now c.first_due.result c.self.invariant c.self.view_is c.requires.within c.deref.ensures.value c.first_due.ensures.first in
    let below = first_due_from-below c.args.moment c.args.index c.in_ok-first.first c.args.self.now c.requires.within (sym found ∙ c.in_ok-first.was) in
    let count : Fits w32 timers.count = search rules in
    let whole : length c.args.self.now ≤ timers.count = omega (arith, ap length c.self.view_is, length-take timers.count (drop timers.leaves timers.nodes.items)) in
    omega (arith, below, whole, count)

pub returns : goal.returns
returns c =
    let timers = c.self.inside in
    let found = first_of_timers c.args.moment c.args.index timers.count timers.leaves timers.nodes.items c.deref.result.now c.args.self.now c.first_due.result c.self.invariant c.self.view_is c.requires.within c.deref.ensures.value c.first_due.ensures.first in
    record { first = sym c.in_ok-first.was ∙ found }
