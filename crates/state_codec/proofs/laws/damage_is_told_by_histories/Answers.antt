use Rattle.state_codec.proofs.DamageLaws.{damage_by_histories}
use Rattle.state_codec.proofs.ReadState.{one_snapshot}
use Rattle.state_codec.proofs.laws.damage_is_told_by_histories.Goals as goal

pub returns : goal.returns
returns c = record { told = damage_by_histories (one_snapshot c.tests_posts.ensures.posts c.restores_what_it_tells.ensures.restores) }
