-- What it means that a floor stands for a history.
use Rattle.std.specs.Prelude.{◌≡◌, ℕ, ◌-◌, List, Option, Some, None}
use Rattle.ground_io.specs.Counts.{Rose}
use Rattle.ground_io.specs.Trace.{Told}
use Rattle.alarm_core.specs.State.{CoreState}
use Rattle.alarm_journal.specs.Press.{PressState}
use Rattle.state_codec.specs.Contents.{records_of}
use Rattle.floor_desk.specs.Accounts.{Account, account}
use Rattle.floor_desk.specs.Holding.{HoldsOrder, KeptOrder, pending_events, pending_sends}
use Rattle.floor_desk.specs.Legal.{IsLegal}
use Rattle.floor_desk.specs.Courses.{KeepsCourse, KeepsFronts}
use Rattle.floor_desk.specs.Prefixes.{CountsLost, HasLost}
use Rattle.floor_desk.specs.States.{FloorState}
use Rattle.floor_desk.specs.declared.entry.Entry.{Entry}
use Rattle.floor_desk.specs.declared.floor.Spot.{Spot}
use Rattle.floor_desk.specs.declared.floor.Spot.TheVariants.{Home, Out, Broken}

module _ {G : Type 0} (told : G → Option Told) (size disk_faults emit_faults : G → ℕ) where
  -- where the press is: at home as it last came back; out on a loan; or lost, with its disk's faults risen, and no emission's
  abbrev pub Stands : CoreState × PressState G → Account G → ℕ → Spot G → Type 0
  Stands origin a lost (Home press) = (a.loan ≡ None) × (a.failed ≡ None) × (press ≡ a.press)
  Stands origin a lost (Out place upto) = (a.failed ≡ None) × (n : ℕ) × (a.loan ≡ Some record { number = n; place = place; upto = upto })
  Stands origin a lost (Broken device place) =
      (a.loan ≡ None) × (a.failed ≡ Some place) × Rose (disk_faults a.press.device) (disk_faults device) × KeptOrder told origin a a.back device × HasLost lost (told origin.1.device) (told device)
      × (size device ≡ size a.press.device) × (emit_faults device ≡ emit_faults a.press.device)

  -- The core, what is pending, the last event that is written, and the press are as an account tells. The press, as it last came back, holds what is written, and the dues up to then were sent, of which so many were lost, as its ground's emissions failed.
  pub record ShowsAccount (floor : FloorState G) (a : Account G) : Type 0 where
    pub core : floor.core ≡ a.state
    pub records : floor.records ≡ records_of (pending_events a)
    pub sends : floor.sends ≡ pending_sends a
    pub calls : floor.calls ≡ a.calls - a.taken.calls
    pub durable : floor.durable ≡ a.durable
    pub spot : Stands floor.origin a floor.lost floor.spot
    pub holds : HoldsOrder told floor.origin a a.durable a.back a.press
    pub lost : HasLost floor.lost (told floor.origin.1.device) (told a.press.device)
    pub counted : CountsLost (emit_faults floor.origin.1.device) (emit_faults a.press.device) floor.lost
    pub sized : size a.press.device ≡ size floor.origin.1.device
    pub course : KeepsCourse floor.origin a
    pub fronts : KeepsFronts floor.origin a

  -- The floor stands for the history: each entry may follow those before it, and the core, what is pending, and the press are as the entries make them.
  pub record FloorStands (floor : FloorState G) (h : List (ℕ × Entry G)) : Type 0 where
    pub legal : IsLegal told size disk_faults emit_faults floor.origin h
    pub shows : ShowsAccount floor (account floor.origin h)
