use Rattle.state_codec.specs.Records.{written_peer}
use Rattle.state_codec.specs.WritingSteps.{written_delivery}
use Rattle.state_codec.proofs.Written.{on_ok, two_parts}
use Rattle.state_codec.proofs.writing_rest.put_told.Goals as goal

pub returns : goal.returns
returns c =
    let post = c.args.post.now in
    record { written = on_ok c.put_delivery.result _ _ (λ e. two_parts c.args.out.now.items (written_peer post.peer) (written_delivery post) _ _ c.in_ok-put_peer.ensures.written e) c.put_delivery.ensures.written }
