use Rattle.std.proofs.Common.{rules}
use Rattle.notify_class.specs.Recipients.{DestinationData}
use Rattle.state_codec.proofs.Written.{on_ok, recipient_written}
use Rattle.state_codec.proofs.writing.put_destination.Goals as goal

pub returns : goal.returns
returns c =
    let it : DestinationData = c.args.recipient.now in
    record { written = on_ok c.put_manner.result _ _ (λ e. recipient_written it c.args.out.now.items c.put_window.new.out.items c.put_peer.new.out.items c.put_manner.new.out.items (search rules) (search rules) (search (rules, e))) c.put_manner.ensures.written }
