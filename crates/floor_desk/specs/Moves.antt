-- Where a floor's press is, and why it doesn't leave.
use Rattle.std.specs.Prelude.{◌≡◌, ◌≢◌}
use Rattle.alarm_journal.specs.Press.{PressState}
use Rattle.floor_desk.specs.States.{FloorState}
use Rattle.floor_desk.specs.declared.faults.CommitFault.{CommitFault}
use Rattle.floor_desk.specs.declared.faults.CommitFault.TheVariants as commits
use Rattle.floor_desk.specs.declared.floor.Spot.{Spot}
use Rattle.floor_desk.specs.declared.floor.Spot.TheVariants.{Home, Out, Broken}

module _ {G : Type 0} where
  abbrev pub IsNotBroken : Spot G → Type 0
  IsNotBroken (Home press) = Unit {0}
  IsNotBroken (Out place upto) = Unit {0}
  IsNotBroken (Broken device place) = ⊥

  abbrev pub IsNotOut : Spot G → Type 0
  IsNotOut (Home press) = Unit {0}
  IsNotOut (Out place upto) = ⊥
  IsNotOut (Broken device place) = Unit {0}

  -- the ground of a press that is at home, or what is left of one that is lost
  abbrev pub IsGroundOf : Spot G → G → Type 0
  IsGroundOf (Home press) device = device ≡ press.device
  IsGroundOf (Out place upto) device = ⊥
  IsGroundOf (Broken left place) device = device ≡ left

  -- why the press doesn't leave
  abbrev pub Hinders : FloorState G → CommitFault → Type 0
  Hinders floor (commits.Stopped at) = (device : G) × (floor.spot ≡ Broken device at)
  Hinders floor (commits.Busy at upto) = floor.spot ≡ Out at upto
  Hinders floor (commits.Nothing upto) = (press : PressState G) × (floor.spot ≡ Home press) × (floor.calls ≡ 0) × (upto ≡ floor.core.events)
  Hinders floor commits.NoMemory = (press : PressState G) × (floor.spot ≡ Home press) × (floor.calls ≢ 0)
  Hinders floor commits.DiskFault = ⊥
