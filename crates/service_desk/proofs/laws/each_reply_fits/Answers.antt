use Rattle.service_desk.proofs.Fitting.{each_fits}
use Rattle.service_desk.proofs.laws.each_reply_fits.Goals as goal

pub returns : goal.returns
returns c = record { fits = each_fits }
