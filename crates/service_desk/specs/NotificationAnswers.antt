-- What becomes of the answers to confirmed notifications (ANSI/ASHRAE 135-2020, 5.4.4).
use Rattle.std.specs.Prelude.{ℕ, ◌==◌, if◌then◌else◌, None}
use Rattle.bac_values.specs.Address.{PeerData}
use Rattle.bac_values.specs.Services.{confirmed_event_notification_service}
use Rattle.outbox.specs.Outboxes.{has_in_flight}
use Rattle.alarm_core.specs.declared.event.Act.TheVariants.{Answer}
use Rattle.alarm_core.specs.declared.event.Event.{Event}
use Rattle.alarm_core.specs.State.{CoreState}
use Rattle.service_desk.specs.declared.decision.Decision.{Decision}
use Rattle.service_desk.specs.declared.decision.Decision.TheVariants.{Ignore, Enter}

abbrev pub answer_at : ℕ → PeerData → ℕ → ℕ → Event
answer_at moment peer invoke kind = record { moment = moment; act = Answer peer invoke kind }

-- an answer is an event where a confirmed notification to its peer is in flight with its invoke ID (5.4.4)
abbrev pub answer_decision : CoreState → ℕ → PeerData → ℕ → ℕ → Decision
answer_decision state moment peer invoke kind = if has_in_flight peer invoke state.outbox then Enter (answer_at moment peer invoke kind) None None else Ignore

-- one that names its service answers a notification where that is the service of confirmed notifications
abbrev pub named_answer_decision : CoreState → ℕ → PeerData → ℕ → ℕ → ℕ → Decision
named_answer_decision state moment peer invoke service kind =
    if service == confirmed_event_notification_service then answer_decision state moment peer invoke kind else Ignore
