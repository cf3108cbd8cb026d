use Rattle.std.proofs.Common.{rules, subst, sym, ◌≡◌, List, ℕ}
use Rattle.bvlc_npdu.specs.Frame.{IsFrame}
use Rattle.bvlc_npdu.specs.Writing.{written_frame}
use Rattle.bvlc_npdu.proofs.Sending.{written_is_frame}
use Rattle.bvlc_npdu.proofs.writing.wrap.Goals as goal

pub returns-clause-read_back : goal.returns-clause-read_back
returns-clause-read_back c = λ local sender port.
    let text : c.extend_from_slice-4.new.self.items ≡ written_frame c.args.peer.now c.args.expects_reply c.args.apdu.now = search rules in
    subst (λ (octets : List ℕ). IsFrame sender octets sender c.args.apdu.now) (sym text) (written_is_frame c.args.peer.now c.args.expects_reply c.args.apdu.now c.requires local sender port)
