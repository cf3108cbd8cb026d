use Rattle.event_services.proofs.NoteWritten.{note_back}
use Rattle.event_services.proofs.read_note.reads_back.Goals as goal

pub returns : goal.returns
returns c = record { notification = note_back }
