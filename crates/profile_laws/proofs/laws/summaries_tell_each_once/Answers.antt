use Rattle.profile_laws.proofs.SummaryRows.{summaries_ascend, summaries_have_no_errors}
use Rattle.profile_laws.proofs.laws.summaries_tell_each_once.Goals as goal

pub returns : goal.returns
returns c = record { errors = summaries_have_no_errors; ascending = summaries_ascend }
