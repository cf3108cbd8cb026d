use Rattle.bac_values.specs.Limits.{most_note_octets}
use Rattle.std.proofs.Common.{◌≡◌, ◌≤◌, length, take, All, Contains}
use Rattle.bac_values.specs.declared.note.Note.{Note}
use Rattle.note_maker.specs.Notes.{notes_for}
use Rattle.note_maker.proofs.making.notes_of.Given as goal

abbrev pub invariant-loop-destination : goal.invariant-loop-destination
invariant-loop-destination l = record {
  made : l.notes.items ≡ notes_for l.facts (take l.destination-index l.destination-items) l.transition l.at.moment l.at.zone;
  short : All (λ (note : Note). length note.body ≤ most_note_octets) l.notes.items;
}
