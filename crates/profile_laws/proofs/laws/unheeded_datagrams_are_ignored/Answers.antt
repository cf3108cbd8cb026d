use Rattle.profile_laws.proofs.Heeding.{ignores_the_rest}
use Rattle.profile_laws.proofs.laws.unheeded_datagrams_are_ignored.Goals as goal

pub returns : goal.returns
returns c = record { ignored = ignores_the_rest }
