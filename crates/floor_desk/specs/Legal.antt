-- Which entries may follow a history of a floor. The entry of a press that came back, or was lost, carries what was carried out: what its disk holds, what a crash leaves of it at each moment, and what was sent.
use Rattle.std.specs.Prelude.{◌≡◌, ℕ, ⊤, List, [], ◌∷◌, Option, Some, None}
use Rattle.ground_io.specs.Trace.{Told}
use Rattle.alarm_core.specs.State.{CoreState}
use Rattle.alarm_journal.specs.Press.{PressState}
use Rattle.service_desk.specs.Answers.{answer_to}
use Rattle.floor_desk.specs.declared.entry.Entry.{Entry}
use Rattle.floor_desk.specs.declared.entry.Entry.TheVariants.{Event as Happened, Looked, Taken, Returned, Failed}
use Rattle.floor_desk.specs.declared.entry.Look.TheVariants.{Tried, Refused as Denied, Closing}
use Rattle.floor_desk.specs.declared.load.Carried.TheVariants.{Home, Broken}
use Rattle.floor_desk.specs.Accounts.{Account, Loan, IsAnswered, IsDenied, IsEntered, IsOutWith, IsPending, start, step}
use Rattle.floor_desk.specs.Carrying.{IsCarriedOut}

module _ {G : Type 0} (told : G → Option Told) (size disk_faults emit_faults : G → ℕ) (origin : CoreState × PressState G) where
  -- an entry of a pass with this number
  abbrev pub MayComeNext : Account G → ℕ → Entry G → Type 0
  MayComeNext a n (Happened input moment ticket) = IsEntered a (answer_to a.state input.value moment) ticket
  MayComeNext a n (Looked (Tried input moment answer)) = IsAnswered a (answer_to a.state input.value moment) answer
  MayComeNext a n (Looked (Denied fault)) = IsDenied a fault
  MayComeNext a n (Looked Closing) = (loan : Loan) × (a.loan ≡ Some loan)
  MayComeNext a n (Taken upto) = (a.failed ≡ None) × (a.loan ≡ None) × IsPending a × (upto ≡ a.state.events)
  MayComeNext a n (Returned upto press) = IsOutWith a n upto × (lost : ℕ) × IsCarriedOut told size disk_faults emit_faults origin a upto a.taken (Home press.value upto lost)
  MayComeNext a n (Failed upto device) = IsOutWith a n upto × IsCarriedOut told size disk_faults emit_faults origin a upto a.taken (Broken device.value upto)

  abbrev pub IsLegalFrom : Account G → List (ℕ × Entry G) → Type 0
  IsLegalFrom a [] = ⊤
  IsLegalFrom a (e ∷ es) = MayComeNext a e.0 e.1 × IsLegalFrom (step a e.0 e.1) es

  -- each entry may follow those before it
  abbrev pub IsLegal : List (ℕ × Entry G) → Type 0
  IsLegal history = IsLegalFrom (start origin) history
