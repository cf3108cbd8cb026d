use Rattle.std.proofs.Common.{◌∙◌, ap}
use Rattle.outbox.specs.Posts.{is_in_flight}
use Rattle.outbox.proofs.PlaceLemmas.{tested_one, tested_none}
use Rattle.outbox.proofs.all.has_flight.Goals as goal

pub returns-in-Ok : goal.returns-in-Ok
returns-in-Ok c = record {
  in_flight = c.is_in_flight.ensures.in_flight ∙ ap (is_in_flight c.args.invoke) c.index-mailboxes-place.is
      ∙ tested_one (is_in_flight c.args.invoke) c.args.peer.now c.args.mailboxes.now c.in-Ok.place c.index-mailboxes-place.result c.requires.ascending c.in-Ok.ensures.searched;
}

pub returns-in-Err : goal.returns-in-Err
returns-in-Err c = record {
  in_flight = tested_none (is_in_flight c.args.invoke) c.args.peer.now c.args.mailboxes.now _ c.in-Err.ensures.searched;
}
