-- What the calls answer, as plain data.
use Rattle.std.specs.Prelude.{List}
use Rattle.bac_values.specs.declared.note.Note.{Note}
use Rattle.outbox.specs.declared.answers.QueueFault.{QueueFault}
use Rattle.outbox.specs.declared.answers.QueueFault.TheVariants.{Full, NoMemory}

-- the notes that come back
abbrev pub returned : QueueFault → List Note
returned (Full would limit notes) = notes
returned (NoMemory notes) = notes
