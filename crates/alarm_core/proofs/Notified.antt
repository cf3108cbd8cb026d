-- The notifications of the longer history are those of the state's event behind the others.
use Rattle.std.proofs.Common.{◌≡◌, List, ◌∷◌, ◌++◌, ap, ◌∙◌, sym}
use Rattle.alarm_core.specs.declared.event.Event.{Event}
use Rattle.alarm_core.specs.Allowed.{Comes, Represents}
use Rattle.alarm_core.specs.Deliveries.{notifications_of}
use Rattle.alarm_core.specs.CoreSteps.{next_notes}
use Rattle.alarm_core.specs.State.{CoreState}
use Rattle.alarm_core.proofs.Standing.{stands}

pub notifications_after : (history : List Event) (old : CoreState) (event : Event) → Comes old.site event history → Represents old history →
    notifications_of old.site (event ∷ history) ≡ notifications_of old.site history ++ next_notes event old
notifications_after history old event comes r =
    stands.notifications old.site event history comes ∙ ap (λ (s : CoreState). notifications_of old.site history ++ next_notes event s) (sym r.shows)
