-- A tick is never refused as full where no notification is unfinished.
use Rattle.std.proofs.Common.{◌≡◌, List, Ok, ap, ◌∙◌, subst}
use Rattle.outbox.specs.Outboxes.{unfinished_in}
use Rattle.alarm_core.specs.declared.event.Act.TheVariants.{Tick}
use Rattle.alarm_core.specs.declared.event.Event.{Event}
use Rattle.alarm_core.specs.Allowed.{Represents}
use Rattle.alarm_core.specs.Deliveries.{outbox_after}
use Rattle.alarm_core.specs.History.{tick_at}
use Rattle.alarm_core.specs.Sites.{IsSite}
use Rattle.alarm_core.specs.State.{CoreState}
use Rattle.alarm_core.specs.Verdicts.{step_verdict}
use Rattle.alarm_core.proofs.Standing.{stands}

pub tick_never_full : (history : List Event) (state : CoreState) (event : Event) → IsSite state.site → Represents state history →
    unfinished_in state.outbox.posts ≡ 0 → event.act ≡ Tick → step_verdict event state ≡ Ok tt
tick_never_full history state event is r none tick =
    let empty : unfinished_in (outbox_after state.site history).posts ≡ 0 = subst (λ (s : CoreState). unfinished_in s.outbox.posts ≡ 0) r.shows none in
    let same : event ≡ tick_at event.moment = λ k. record { moment = event.moment; act = tick k } in
    ap (λ e. step_verdict e state) same ∙ (ap (step_verdict (tick_at event.moment)) r.shows ∙ stands.ticks_fit state.site is history r.is_history empty event.moment)
