use Rattle.std.proofs.Common.{◌≡◌, ◌++◌, drop}
use Rattle.std.specs.List.{filter_map}
use Rattle.site_config.specs.Notes.{class_of_object}
use Rattle.site_config.proofs.notes.add_objects.Given as goal

abbrev pub invariant-loop-site : goal.invariant-loop-site
invariant-loop-site l = l.members.items ++ filter_map class_of_object (drop l.site-index l.objects) ≡ l.initial.members.items ++ filter_map class_of_object l.objects
