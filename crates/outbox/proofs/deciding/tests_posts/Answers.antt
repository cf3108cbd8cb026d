use Rattle.outbox.proofs.Tested.{tests_posts}
use Rattle.outbox.proofs.deciding.tests_posts.Goals as goal

pub returns : goal.returns
returns c = record { posts = tests_posts }
