use Rattle.std.proofs.Common.{rules, ◌∙◌, refl}
use Rattle.std.specs.List.{flat_map}
use Rattle.floor_desk.specs.Owed.{sends_of}
use Rattle.floor_desk.specs.declared.pending.Owed.{Owed}
use Rattle.floor_desk.specs.declared.pending.Owed.TheVariants.{Several}
use Rattle.floor_desk.specs.States.{FloorState}
use Rattle.floor_desk.proofs.Inputs.{same_parts}
use Rattle.floor_desk.proofs.floor.Floor.lend_now.Goals as goal

pub returns-then-self-eq0-clause-hindered : goal.returns-then-self-eq0-clause-hindered
returns-then-self-eq0-clause-hindered g c = (refl, (c.in-Home.press, search rules, search rules, search rules))

pub returns-then-place-ge-MOST_PLACES-clause-hindered : goal.returns-then-place-ge-MOST_PLACES-clause-hindered
returns-then-place-ge-MOST_PLACES-clause-hindered g c = (refl, (c.in-Home.press, search rules, search rules))

pub returns-in-Err-clause-hindered : goal.returns-in-Err-clause-hindered
returns-in-Err-clause-hindered g c = (refl, (c.in-Home.press, search rules, search rules))

pub returns-in-Err-take_sends-clause-hindered : goal.returns-in-Err-take_sends-clause-hindered
returns-in-Err-take_sends-clause-hindered g c =
    let inside = c.self.inside in
    let left = c.take_sends.new.self in
    let view : FloorState _ = record {
      core = inside.core;
      records = inside.pending.records.items;
      sends = flat_map sends_of inside.pending.sends.items;
      calls = inside.pending.calls;
      lost = inside.lost;
      durable = inside.durable;
      spot = inside.spot;
      next = inside.next;
      origin = (inside.opened.0.value, inside.opened.1.value);
    } in
    let same = c.take_sends.ensures.same in (
      same_parts view inside.core inside.core left.records.items view.records (flat_map sends_of left.sends.items) view.sends left.calls view.calls refl same.0 c.in-Err-take_sends.ensures.refused same.1 ∙ c.self.view_is,
      (c.in-Home.press, search rules, search rules),
    )
