use Rattle.profile_laws.proofs.ListsBack.{reads_back_edits, undoes_what_was_added}
use Rattle.profile_laws.proofs.laws.what_is_edited_is_read_back.Goals as goal

pub returns : goal.returns
returns c = record { back = reads_back_edits; undone = undoes_what_was_added }
