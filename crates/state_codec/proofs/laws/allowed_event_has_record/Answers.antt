use Rattle.state_codec.proofs.AllowedLaws.{allowed_has_record}
use Rattle.state_codec.proofs.laws.allowed_event_has_record.Goals as goal

pub returns : goal.returns
returns c = record { allowed = λ state moment allowed. allowed_has_record state c.args.event.now c.event_fits.ensures.fits moment allowed }
