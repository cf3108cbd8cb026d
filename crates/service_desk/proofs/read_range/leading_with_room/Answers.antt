use Rattle.std.proofs.Common.{◌≡◌, ◌+◌, ◌++◌, length, Some, None, arith, rules, slice_get, sym, ◌∙◌, ap}
use Rattle.std.specs.Prelude.{flat_map}
use Rattle.service_desk.specs.Ranges.{items_from, written_item}
use Rattle.service_desk.proofs.Room.{has_room, is_there, no_number, one_more_fails, one_more_passes, with_one_more}
use Rattle.service_desk.proofs.read_range.leading_with_room.Goals as goal

pub loop-place-init : goal.loop-place-init
loop-place-init c = record { place = omega arith; within = omega arith; most = no_number (has_room c.args.room c.args.log.now c.args.range); written = search rules }

pub unreachable-requires : goal.unreachable-requires
unreachable-requires c =
    let none : slice_get c.args.log.now.records c.loop-place.place ≡ None = search (rules, c.item.ensures.item, c.in_default.is) in
    is_there c.args.log.now.records c.loop-place.place (omega arith) none

pub returns-then-unsigned_size-len-clause-count : goal.returns-then-unsigned_size-len-clause-count
returns-then-unsigned_size-len-clause-count c =
    let there : slice_get c.args.log.now.records c.loop-place.place ≡ Some c.in-Some.entry.now = search rules in
    let found : slice_get c.args.log.now.records (c.args.range.first + c.loop-place.count) ≡ Some c.in-Some.entry.now = ap (slice_get c.args.log.now.records) (sym c.loop-place.invariant.place) ∙ there in
    let written : c.write_item.new.out.items ≡ flat_map written_item (items_from c.args.range.first c.loop-place.count c.args.log.now) ++ written_item c.in-Some.entry.now = search rules in
    let long = ap length written in
    one_more_fails c.args.room c.args.log.now c.args.range c.loop-place.count c.in-Some.entry.now found c.loop-place.invariant.most c.loop-place.invariant.within (omega (arith, long))

pub loop-place-preserved : goal.loop-place-preserved
loop-place-preserved c =
    let there : slice_get c.args.log.now.records c.loop-place.place ≡ Some c.in-Some.entry.now = search rules in
    let found : slice_get c.args.log.now.records (c.args.range.first + c.loop-place.count) ≡ Some c.in-Some.entry.now = ap (slice_get c.args.log.now.records) (sym c.loop-place.invariant.place) ∙ there in
    let written : c.write_item.new.out.items ≡ flat_map written_item (items_from c.args.range.first c.loop-place.count c.args.log.now) ++ written_item c.in-Some.entry.now = search rules in
    let long = ap length written in
    record {
      place = omega arith;
      within = omega arith;
      most = one_more_passes c.args.room c.args.log.now c.args.range c.loop-place.count c.in-Some.entry.now found (omega (arith, long));
      written = written ∙ sym (with_one_more c.args.room c.args.log.now c.args.range c.loop-place.count c.in-Some.entry.now found);
    }
