use Rattle.outbox.proofs.Finished.{finishes_in_order}
use Rattle.outbox.proofs.Counting.{sends_seldom}
use Rattle.outbox.proofs.Sending.{sends_these_places}
use Rattle.outbox.proofs.order.finishes_in_order.Goals as goal

pub returns : goal.returns
returns c = record { order = finishes_in_order; times = sends_seldom; sends = sends_these_places }
