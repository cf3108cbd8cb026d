use Rattle.outbox.proofs.Silent.{gives_up_one, gives_up_all, loses_nothing_else, forgets_the_silent}
use Rattle.outbox.proofs.silence.silent_recipients.Goals as goal

pub returns : goal.returns
returns c = record { one = gives_up_one; all = gives_up_all; loses = loses_nothing_else; forgets = forgets_the_silent }
