-- What a press holds of an order, and what the ground of one that is lost has kept.
use Rattle.std.specs.Prelude.{ℕ, ◌-◌, List, drop, map, Option}
use Rattle.ground_io.specs.Trace.{Told}
use Rattle.bac_values.specs.declared.note.Send.{Send}
use Rattle.alarm_core.specs.Allowed.{Represents}
use Rattle.alarm_core.specs.declared.event.Event.{Event}
use Rattle.alarm_core.specs.State.{CoreState}
use Rattle.alarm_journal.specs.Journal.{Site as Journal}
use Rattle.alarm_journal.specs.Press.{PressState}
use Rattle.floor_desk.specs.Accounts.{Account, Front}
use Rattle.state_codec.specs.Keeping.{HoldsHistory}
use Rattle.floor_desk.specs.Prefixes.{KeepsOrder, with_first}

module _ {G : Type 0} where
  -- the events that the press hasn't taken, and the datagrams
  abbrev pub pending_events : Account G → List Event
  pending_events a = drop a.taken.events a.order

  abbrev pub pending_sends : Account G → List Send
  pending_sends a = map (λ due. due.send) (drop a.taken.dues a.dues)

module _ {G : Type 0} (told : G → Option Told) where
  -- Of each history that the press held at the opening: it holds that, and the first events of the order, up to the last one that is written. Until then just the dues up to a front were sent, and a crash at any moment leaves a prefix that covers them.
  abbrev pub HoldsOrder : CoreState × PressState G → Account G → ℕ → Front → PressState G → Type 0
  HoldsOrder origin a durable back press = (journal : Journal) (history : List Event) → Represents origin.0 history → HoldsHistory journal origin.0.site history origin.1.layout (told origin.1.device)
      → HoldsHistory journal origin.0.site (with_first history (durable - origin.0.events) a.order) press.layout (told press.device)
      × KeepsOrder journal origin.0.site history a.order a.dues back.dues (told origin.1.device) (told press.device)

  -- the ground of a press that is lost
  abbrev pub KeptOrder : CoreState × PressState G → Account G → Front → G → Type 0
  KeptOrder origin a back device = (journal : Journal) (history : List Event) → Represents origin.0 history → HoldsHistory journal origin.0.site history origin.1.layout (told origin.1.device)
      → KeepsOrder journal origin.0.site history a.order a.dues back.dues (told origin.1.device) (told device)
