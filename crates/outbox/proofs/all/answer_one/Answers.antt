use Rattle.std.proofs.Common.{◌∙◌}
use Rattle.outbox.specs.Posts.{is_in_flight}
use Rattle.outbox.proofs.PlaceLemmas.{tested_one, tested_none}
use Rattle.outbox.proofs.Answering.{answered_one, answered_none, left_one, left_none}
use Rattle.outbox.proofs.all.answer_one.Goals as goal

pub returns : goal.returns
returns c =
    let posts = c.args.mailboxes.now in
    let peer = c.args.peer.now in
    record {
      in_flight = c.answer.ensures.in_flight
          ∙ tested_one (is_in_flight c.args.invoke) peer posts c.in-Ok.place c.index-mailboxes-place.result c.requires.ascending c.in-Ok.ensures.searched;
      left = left_one c.args.invoke posts c.in-Ok.place c.answer.new.self c.index-mailboxes-place.result c.answer.result c.in-Ok.ensures.searched.0 c.requires.filled c.answer.ensures.answered c.answer.ensures.in_flight;
      now = answered_one peer c.args.invoke posts c.in-Ok.place c.answer.new.self c.index-mailboxes-place.result c.requires.ascending c.in-Ok.ensures.searched c.answer.ensures.answered;
    }

pub returns-in_default : goal.returns-in_default
returns-in_default c =
    let posts = c.args.mailboxes.now in
    let peer = c.args.peer.now in
    record {
      in_flight = tested_none (is_in_flight c.args.invoke) peer posts c.in_default.field-0 c.in_default.ensures.searched;
      left = left_none posts;
      now = answered_none peer c.args.invoke posts c.in_default.field-0 c.in_default.ensures.searched;
    }
