-- What an act makes of a state is what its event makes of it, but for the count of events and the last moment.
use Rattle.std.proofs.Common.{◌≡◌, ◌+◌, List, ap, ◌∙◌}
use Rattle.notify_class.specs.declared.class.Class.{Class}
use Rattle.outbox.specs.Outboxes.{OutboxState}
use Rattle.enrollment.specs.Objects.{ObjectsState}
use Rattle.alarm_core.specs.declared.event.Event.{Event}
use Rattle.alarm_core.specs.declared.site.Site.{Site}
use Rattle.alarm_core.specs.Logs.{SiteLogState}
use Rattle.alarm_core.specs.CoreSteps.{acted, first_state, next_state}
use Rattle.alarm_core.specs.State.{DetectedObjectState, CoreState}

pub stepped : (event : Event) (state after new : CoreState) → after ≡ acted event state → new ≡ record after { events = after.events + 1; last_moment = event.moment } → new ≡ next_state event state
stepped event state after new e n = n ∙ ap (λ (s : CoreState). record s { events = s.events + 1; last_moment = event.moment }) e

-- the parts of a state at its start
pub started : (site copy : Site) (values : ObjectsState) (alarms : List DetectedObjectState) (classes : List Class) (outbox : OutboxState) (logs : List SiteLogState) →
    copy ≡ site → values ≡ (first_state site).values → alarms ≡ (first_state site).alarms → classes ≡ (first_state site).classes → outbox ≡ (first_state site).outbox → logs ≡ (first_state site).logs →
    record { site = copy; events = 0; last_moment = site.device.start; values = values; alarms = alarms; classes = classes; outbox = outbox; logs = logs } ≡ first_state site
started site copy values alarms classes outbox logs p q r s t u =
    λ k. record { site = p k; events = 0; last_moment = site.device.start; values = q k; alarms = r k; classes = s k; outbox = t k; logs = u k }
