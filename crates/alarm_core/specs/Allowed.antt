-- Which events may come after a state, and what it means that a state represents a history.
use Rattle.std.specs.Prelude.{◌≡◌, ◌⊎◌, ◌≤◌, ℕ, ◌-◌, ◌==◌, ◌||◌, not, IsTrue, IsSome, Ok, List, [], ◌∷◌, filter, sum_by}
use Rattle.bac_values.specs.Moments.{IsMoment}
use Rattle.bac_values.specs.Pdus.{abort_pdu, error_pdu, reject_pdu, simple_ack_pdu}
use Rattle.event_machine.specs.Finding.{MayAcknowledge}
use Rattle.notify_class.specs.Edits.{edit_verdict}
use Rattle.notify_class.specs.declared.class.Class.{Class}
use Rattle.outbox.specs.Outboxes.{has_in_flight, peers_of, unfinished_in}
use Rattle.enrollment.specs.Objects.{IsTaken}
use Rattle.alarm_core.specs.declared.event.Act.{Act}
use Rattle.alarm_core.specs.declared.event.Act.TheVariants.{Tick, Write, Ack, Pump, Answer, Edit}
use Rattle.alarm_core.specs.declared.event.Event.{Event}
use Rattle.alarm_core.specs.declared.site.Site.{Site}
use Rattle.alarm_core.specs.Classes.{class_in}
use Rattle.alarm_core.specs.Deliveries.{outbox_after}
use Rattle.alarm_core.specs.History.{last_moment_of}
use Rattle.alarm_core.specs.State.{state_of, CoreState}
use Rattle.alarm_core.specs.Found.{found_in}
use Rattle.alarm_core.specs.Logs.{IsTakenByLog}
use Rattle.alarm_core.specs.Room.{members_at, share_at}
use Rattle.alarm_core.specs.Sites.{IsSite}

-- the kinds of PDU by which a confirmed request is answered (20.1.2): SimpleACK, Error, Reject and Abort
abbrev pub IsAnswer : ℕ → Type 0
IsAnswer kind = IsTrue (kind == simple_ack_pdu || (kind == error_pdu || (kind == reject_pdu || kind == abort_pdu)))

-- how many objects have a class
abbrev pub members_of : CoreState → ℕ → ℕ
members_of state number = members_at state.site number

-- how many notifications one transition of each of its objects gives at most
abbrev pub share_of : CoreState → Class → ℕ
share_of state class = share_at state.site class

-- what the other classes leave of the outbox
abbrev pub room_beside : CoreState → ℕ → ℕ
room_beside state number = state.site.device.outbox - sum_by (share_of state) (filter (λ (class : Class). not (class.instance == number)) state.classes)

-- a write that the properties or a log take; an acknowledgement of a transition that came and isn't acknowledged; an answer to a notification in flight; and an edit of a class that keeps to the limits
abbrev pub IsAllowed : CoreState → Act → Type 0
IsAllowed state Tick = Unit {0}
IsAllowed state (Write change) = IsTaken change state.values ⊎ IsTakenByLog change state.logs
IsAllowed state (Ack object transition named) = MayAcknowledge (found_in state object) transition named
IsAllowed state Pump = Unit {0}
IsAllowed state (Answer peer invoke kind) = IsAnswer kind × IsTrue (has_in_flight peer invoke state.outbox)
IsAllowed state (Edit number recipients) =
    IsSome (class_in number state.classes)
    × (edit_verdict (peers_of state.outbox.posts) recipients (members_of state number) (room_beside state number) ≡ Ok tt)

-- the moments of a history are in range, never fall, and aren't before the site's start; each event is allowed after those before it; and never more notifications wait than there may
abbrev pub IsHistory : Site → List Event → Type 0
IsHistory site [] = Unit {0}
IsHistory site (event ∷ older) =
    (last_moment_of site older ≤ event.moment) × IsMoment event.moment × IsAllowed (state_of site older) event.act
    × (unfinished_in (outbox_after site (event ∷ older)).posts ≤ site.device.outbox) × IsHistory site older

-- An event comes after a history of a site: the site is one that may be, the history is one of it, and the event isn't before the history's last one, nor before the site's start.
pub record Comes (site : Site) (event : Event) (history : List Event) : Type 0 where
  pub is_site : IsSite site
  pub is_history : IsHistory site history
  pub not_before : last_moment_of site history ≤ event.moment

-- a state is the one that a history leaves
pub record Represents (state : CoreState) (history : List Event) : Type 0 where
  pub is_history : IsHistory state.site history
  pub shows : state ≡ state_of state.site history
