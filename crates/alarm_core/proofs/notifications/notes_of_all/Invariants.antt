use Rattle.std.proofs.Common.{◌≡◌, take}
use Rattle.std.specs.List.{All, flat_map}
use Rattle.alarm_core.specs.Notes.{IsShort}
use Rattle.alarm_core.specs.ViewSteps.{notes_to}
use Rattle.alarm_core.proofs.notifications.notes_of_all.Given as goal

abbrev pub invariant-loop-told : goal.invariant-loop-told
invariant-loop-told l = record {
  notes : l.notes.items ≡ flat_map (notes_to l.at) (take l.told-index l.addressed);
  short : All IsShort l.notes.items;
}
