use Rattle.profile_laws.proofs.LongAnswers.{aborts_long_lists, aborts_long_reads, aborts_long_summaries, aborts_segments}
use Rattle.profile_laws.proofs.LongParts.{aborts_long_information, aborts_long_ranges}
use Rattle.profile_laws.proofs.laws.long_answers_are_aborted.Goals as goal

pub returns : goal.returns
returns c = record { reads = aborts_long_reads; lists = aborts_long_lists; summaries = aborts_long_summaries; information = aborts_long_information; ranges = aborts_long_ranges; segments = aborts_segments }
