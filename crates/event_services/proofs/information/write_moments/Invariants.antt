use Rattle.std.proofs.Common.{◌≡◌, ◌*◌, length, ◌++◌, take}
use Rattle.std.specs.Prelude.{flat_map}
use Rattle.event_services.specs.Information.{written_moment}
use Rattle.event_services.proofs.information.write_moments.Given as goal

abbrev pub invariant-loop-stamp : goal.invariant-loop-stamp
invariant-loop-stamp l = record {
  written : l.out.items ≡ l.initial.out.items ++ flat_map written_moment (take l.stamp-index l.stamps);
  long : length (flat_map written_moment (take l.stamp-index l.stamps)) ≡ 12 * l.stamp-index;
}
