use Rattle.profile_laws.proofs.ReadingBack.{reads_back_writes}
use Rattle.profile_laws.proofs.laws.what_is_written_is_read_back.Goals as goal

pub returns : goal.returns
returns c = record { back = reads_back_writes }
