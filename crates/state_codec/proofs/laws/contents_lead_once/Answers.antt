use Rattle.state_codec.proofs.DamageLaws.{leads_once}
use Rattle.state_codec.proofs.ReadState.{one_snapshot}
use Rattle.state_codec.proofs.laws.contents_lead_once.Goals as goal

pub returns : goal.returns
returns c = record { once = leads_once (one_snapshot c.tests_posts.ensures.posts c.restores_what_it_tells.ensures.restores) }
