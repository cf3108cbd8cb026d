use Rattle.std.proofs.Common.{◌∙◌, sym, ap, subst}
use Rattle.std.specs.List.{list_all}
use Rattle.outbox.specs.Posts.{is_post_idle}
use Rattle.outbox.specs.Outboxes.{IsOutbox, is_idle}
use Rattle.outbox.proofs.Idling.{idle_law}
use Rattle.outbox.proofs.outbox.Outbox.idle.Goals as goal

pub returns-clause-nothing : goal.returns-clause-nothing
returns-clause-nothing c =
    let law = idle_law c.args.moment c.args.self.now (subst IsOutbox c.self.view_is c.self.invariant.1) in
    let told = c.are_idle.ensures.idle ∙ ap (list_all (is_post_idle c.args.moment)) c.deref.ensures.value ∙ ap (is_idle c.args.moment) c.self.view_is in
    (λ yes. law.0 (sym told ∙ yes), λ both. told ∙ law.1 both)
