use Rattle.std.proofs.Common.{◌≡◌, ◌≤◌, ◌+◌}
use Rattle.std.specs.Prelude.{flat_map}
use Rattle.service_desk.specs.Ranges.{greatest, items_from, written_item}
use Rattle.service_desk.proofs.Room.{has_room}
use Rattle.service_desk.proofs.read_range.leading_with_room.Given as goal

-- so many records have room, and these are their octets
abbrev pub invariant-loop-place : goal.invariant-loop-place
invariant-loop-place l = record {
  place : l.place ≡ l.range.first + l.count;
  within : l.count ≤ l.range.count;
  most : greatest (has_room l.room l.log l.range) l.count ≡ l.count;
  written : l.octets.items ≡ flat_map written_item (items_from l.range.first l.count l.log);
}
