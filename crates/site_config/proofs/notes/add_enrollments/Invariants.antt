use Rattle.std.proofs.Common.{◌≡◌, ◌++◌, map, take}
use Rattle.site_config.specs.Notes.{class_of_enrollment}
use Rattle.site_config.proofs.notes.add_enrollments.Given as goal

abbrev pub invariant-loop-site : goal.invariant-loop-site
invariant-loop-site l = l.members.items ≡ l.initial.members.items ++ map class_of_enrollment (take l.site-index l.enrollments)
