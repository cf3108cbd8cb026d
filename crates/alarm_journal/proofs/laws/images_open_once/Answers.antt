use Rattle.alarm_journal.proofs.Images.{opens_once}
use Rattle.alarm_journal.proofs.laws.images_open_once.Goals as goal

pub returns : goal.returns
returns c = record { once = opens_once }
