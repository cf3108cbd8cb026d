use Rattle.std.proofs.Common.{◌≡◌, IfOk, string_bytes, subst}
use Rattle.work_load.proofs.Joined.{joined}
use Rattle.work_load.proofs.site.destinations_text.Goals as goal

pub returns : goal.returns
returns c =
    let whole = joined c.in_ok-first.ensures.text (joined c.in_ok-second.ensures.text (joined c.in_ok-third.ensures.text (joined c.in_ok-fourth.ensures.text c.in_ok-fifth.ensures.text))) in
    record { text = subst (λ whole. IfOk c.format.result (λ text. string_bytes text ≡ whole)) whole c.format.ensures.ok }
