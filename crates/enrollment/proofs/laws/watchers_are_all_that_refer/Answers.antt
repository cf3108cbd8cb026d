use Rattle.enrollment.proofs.Untouched.{watchers_are_all_that_refer}
use Rattle.enrollment.proofs.laws.watchers_are_all_that_refer.Goals as goal

pub returns : goal.returns
returns c = record { law = watchers_are_all_that_refer }
