use Rattle.std.proofs.Common.{◌≡◌, sym, subst}
use Rattle.std.specs.Prelude.{IfOk}
use Rattle.bac_values.specs.declared.note.Send.{Send}
use Rattle.service_desk.proofs.NoRoom.{aborts}
use Rattle.service_desk.proofs.summary_replies.summary_reply.Goals as goal

pub returns-in-None : goal.returns-in-None
returns-in-None c = record {
  reply = λ body none.
      let here = rw c.in-None.is at none in
      subst (λ (reply : Send). IfOk c.abort.result (λ (send : Send). send ≡ reply)) (sym (aborts c.args.requester.now body here)) c.abort.ensures.reply;
}
