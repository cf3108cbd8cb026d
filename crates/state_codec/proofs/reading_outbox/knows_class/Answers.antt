use Rattle.std.proofs.Common.{◌∙◌, ap}
use Rattle.std.specs.List.{list_all}
use Rattle.bac_values.specs.Orders.{is_among}
use Rattle.notify_class.specs.Recipients.{DestinationData}
use Rattle.state_codec.proofs.PostsOf.{all_recipients}
use Rattle.state_codec.proofs.reading_outbox.knows_class.Goals as goal

pub returns : goal.returns
returns c = record {
  exact =
      c.knows_all.ensures.exact
      ∙ ap (list_all (λ (it : DestinationData). is_among c.args.known.now it.peer)) c.as_slice.ensures.same
      ∙ all_recipients c.args.known.now c.args.class.now.destinations;
}
