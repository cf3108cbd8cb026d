use Rattle.state_codec.proofs.ReadState.{one_snapshot}
use Rattle.state_codec.proofs.laws.snapshots_have_one_spelling.Goals as goal

pub returns : goal.returns
returns c = record { spelling = one_snapshot c.tests_posts.ensures.posts c.restores_what_it_tells.ensures.restores }
