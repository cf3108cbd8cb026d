use Rattle.std.proofs.Common.{◌≡◌, drop}
use Rattle.std.specs.Prelude.{nat_lt}
use Rattle.site_config.specs.Notes.{notes_of}
use Rattle.site_config.proofs.notes.exceed.Given as goal

abbrev pub invariant-loop-class : goal.invariant-loop-class
invariant-loop-class l = nat_lt l.room (notes_of l.destinations (drop l.class-index l.members)) ≡ nat_lt l.limit (notes_of l.destinations l.members)
