-- How the disk's count of faults stands behind a history, and on the ground that came back.
use Rattle.std.proofs.Common.{◌≡◌, ◌≢◌, ℕ, List, [], ◌∷◌, refl, sym, ap, ◌∙◌, subst}
use Rattle.std.specs.Prelude.{Option, Some, None, Result, Ok, Err}
use Rattle.ground_io.specs.Counts.{Rose}
use Rattle.ground_io.specs.Trace.{Told}
use Rattle.alarm_core.specs.State.{CoreState}
use Rattle.alarm_journal.specs.Press.{PressState}
use Rattle.service_desk.specs.Answers.{Answer, answer_to}
use Rattle.floor_desk.specs.Accounts.{Account, account, account_from, start, step, tried}
use Rattle.floor_desk.specs.Legal.{IsLegalFrom, MayComeNext}
use Rattle.floor_desk.specs.Moves.{IsGroundOf}
use Rattle.floor_desk.specs.Serving.{LeavesDisk}
use Rattle.floor_desk.specs.ServingSteps.{EndsAccount}
use Rattle.floor_desk.specs.Standing.{FloorStands, Stands}
use Rattle.floor_desk.specs.States.{FloorState}
use Rattle.floor_desk.specs.Tries.{Attempt}
use Rattle.floor_desk.specs.declared.entry.Entry.{Entry}
use Rattle.floor_desk.specs.declared.entry.Entry.TheVariants.{Event as Happened, Looked, Taken, Returned, Failed}
use Rattle.floor_desk.specs.declared.entry.Look.TheVariants.{Tried, Refused as Denied, Closing}
use Rattle.floor_desk.specs.declared.entry.Ticket.{Ticket}
use Rattle.floor_desk.specs.declared.faults.EnterFault.{EnterFault}
use Rattle.floor_desk.specs.declared.faults.EnterFault.TheVariants as enters
use Rattle.floor_desk.specs.declared.floor.Spot.{Spot}
use Rattle.floor_desk.specs.declared.floor.Spot.TheVariants.{Home, Out, Broken}
use Rattle.floor_desk.specs.declared.serve.End.{End}
use Rattle.floor_desk.specs.declared.serve.End.TheVariants as end

module _ {G : Type 0} where
  press_tried : (a : Account G) (answer : Answer) (result : Result Ticket EnterFault) → (tried a answer result).press ≡ a.press
  press_tried a answer (Ok ticket) = refl
  press_tried a answer (Err (enters.Stopped at)) = refl
  press_tried a answer (Err (enters.Behind pending octets)) = refl
  press_tried a answer (Err (enters.Full would limit)) = refl
  press_tried a answer (Err enters.NoMemory) = refl

module _ {G : Type 0} (told : G → Option Told) (size disk_faults emit_faults : G → ℕ) (origin : CoreState × PressState G) where
  faults_step : (a : Account G) (n : ℕ) (e : Entry G) → MayComeNext told size disk_faults emit_faults origin a n e → disk_faults (step a n e).press.device ≡ disk_faults a.press.device
  faults_step a n (Happened input moment ticket) m = refl
  faults_step a n (Looked (Tried input moment answer)) m = ap (λ (p : PressState G). disk_faults p.device) (press_tried a (answer_to a.state input.value moment) answer)
  faults_step a n (Looked (Denied fault)) m = refl
  faults_step a n (Looked Closing) m = refl
  faults_step a n (Taken upto) m = refl
  faults_step a n (Returned upto press) (out, lost, carried) = carried.1.1
  faults_step a n (Failed upto device) m = refl

  faults_from : (a : Account G) (h : List (ℕ × Entry G)) → IsLegalFrom told size disk_faults emit_faults origin a h → disk_faults (account_from a h).press.device ≡ disk_faults a.press.device
  faults_from a [] legal = refl
  faults_from a (e ∷ es) legal = faults_from (step a e.0 e.1) es legal.1 ∙ faults_step a e.0 e.1 legal.0

  works : (a : Account G) (attempts : List Attempt) (tick pump : Result Ticket EnterFault) (ended : End) → EndsAccount a attempts tick pump ended → ended ≢ end.DiskFault → a.failed ≡ None
  works a attempts tick pump end.DiskFault is not = absurd (not refl)
  works a attempts tick pump end.LinkFault is not = is
  works a attempts tick pump end.NoMemory is not = is
  works a attempts tick pump end.Done is not = is.0

  fails : (a : Account G) (attempts : List Attempt) (tick pump : Result Ticket EnterFault) (ended : End) → EndsAccount a attempts tick pump ended → ended ≡ end.DiskFault → (at : ℕ) × (a.failed ≡ Some at)
  fails a attempts tick pump ended is same = subst (λ (z : End). EndsAccount a attempts tick pump z) same is

  no_place : (failed : Option ℕ) (at : ℕ) → failed ≡ None → failed ≡ Some at → ⊥
  no_place failed at none some = cc

  -- the ground of a server that has ended
  pub ground_faults : (floor : FloorState G) (h : List (ℕ × Entry G)) (device : G) (attempts : List Attempt) (tick pump : Result Ticket EnterFault) (ended : End) → FloorStands told size disk_faults emit_faults floor h → floor.origin ≡ origin → IsGroundOf floor.spot device
      → EndsAccount (account origin h) attempts tick pump ended → LeavesDisk (disk_faults origin.1.device) (disk_faults device) ended
  ground_faults floor h device attempts tick pump ended f from ground is =
      by_spot floor.spot (subst (λ (o : CoreState × PressState G). Stands told size disk_faults emit_faults o (account o h) floor.lost floor.spot) from f.shows.spot) ground
    where
      a : Account G
      a = account origin h

      before : disk_faults a.press.device ≡ disk_faults origin.1.device
      before = faults_from (start origin) h (subst (λ (o : CoreState × PressState G). IsLegalFrom told size disk_faults emit_faults o (start o) h) from f.legal)

      by_spot : (spot : Spot G) → Stands told size disk_faults emit_faults origin a floor.lost spot → IsGroundOf spot device → LeavesDisk (disk_faults origin.1.device) (disk_faults device) ended
      by_spot (Home press) s g = record {
        rose = λ same. let (at, failed) = fails a attempts tick pump ended is same in absurd (no_place a.failed at s.1 failed);
        same = λ not. ap disk_faults g ∙ (ap (λ (p : PressState G). disk_faults p.device) s.2 ∙ before);
      }
      by_spot (Out place upto) s g = absurd g
      by_spot (Broken left place) s g = record {
        rose = λ same. subst (λ (n : ℕ). Rose n (disk_faults device)) before (subst (λ (d : G). Rose (disk_faults a.press.device) (disk_faults d)) (sym g) s.2);
        same = λ not. absurd (no_place a.failed place (works a attempts tick pump ended is not) s.1);
      }
