-- What contracts see of a floor.
use Rattle.std.specs.Prelude.{ℕ, List}
use Rattle.bac_values.specs.declared.note.Send.{Send}
use Rattle.alarm_core.specs.State.{CoreState}
use Rattle.alarm_journal.specs.Press.{PressState}
use Rattle.floor_desk.specs.declared.floor.Spot.{Spot}

-- The core; the records of the events that the press hasn't taken, the datagrams that it hasn't, and how many calls gave them; how many datagrams were lost since the opening; which event is the last that is written; where the press is; of a floor that was closed, the place of the next entry of its history, from 1, and 0 until then; and the core and the press as they were at the opening.
pub record FloorState (G : Type 0) : Type 0 where
  pub core : CoreState
  pub records : List ℕ
  pub sends : List Send
  pub calls : ℕ
  pub lost : ℕ
  pub durable : ℕ
  pub spot : Spot G
  pub next : ℕ
  pub origin : CoreState × PressState G
