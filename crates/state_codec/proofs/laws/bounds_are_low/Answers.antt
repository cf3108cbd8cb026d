use Rattle.state_codec.proofs.SizeLaws.{bound_low, need_low}
use Rattle.state_codec.proofs.laws.bounds_are_low.Goals as goal

pub returns : goal.returns
returns c = record { low = record { snapshot = bound_low; device = need_low } }
