-- A mark that was raised: as many events are durable, now and at each later turn.
use Rattle.std.proofs.Common.{◌≡◌, ℕ, ◌≤◌, List, [], ◌∷◌, ap, arith, ⊎_elim}
use Rattle.std.specs.Prelude.{Option, Some, Result, Ok, Err}
use Rattle.ground_io.specs.Trace.{Told}
use Rattle.alarm_core.specs.State.{CoreState}
use Rattle.alarm_journal.specs.Press.{PressState}
use Rattle.service_desk.specs.Answers.{Answer, answer_to}
use Rattle.floor_desk.specs.Accounts.{Account, GivesMark, Licenses, Loan, accepted, account_from, looked, start, step, tried}
use Rattle.floor_desk.specs.Legal.{IsLegal, IsLegalFrom, MayComeNext}
use Rattle.floor_desk.specs.declared.entry.Entry.{Entry}
use Rattle.floor_desk.specs.declared.entry.Entry.TheVariants.{Event as Happened, Looked, Taken, Returned, Failed}
use Rattle.floor_desk.specs.declared.entry.Look.TheVariants.{Tried, Refused as Denied, Closing}
use Rattle.floor_desk.specs.declared.entry.Ticket.{Ticket}
use Rattle.floor_desk.specs.declared.faults.EnterFault.{EnterFault}
use Rattle.floor_desk.specs.declared.faults.EnterFault.TheVariants as enters
use Rattle.floor_desk.proofs.Growing.{events_behind}

-- no more is durable than there is, nor than a loan writes, and a loan writes no more than there is
record IsWithin {G : Type 0} (a : Account G) : Type 0 where
  durable : a.durable ≤ a.state.events
  before : (loan : Loan) → a.loan ≡ Some loan → a.durable ≤ loan.upto
  within : (loan : Loan) → a.loan ≡ Some loan → loan.upto ≤ a.state.events

module _ {G : Type 0} where
  within_accepted : (a : Account G) (answer : Answer) → IsWithin a → IsWithin (accepted a answer)
  within_accepted a answer w = record {
    durable = omega (arith, w.durable, events_behind a.state answer);
    before = w.before;
    within = λ loan out. omega (arith, w.within loan out, events_behind a.state answer);
  }

  within_looked : (a : Account G) → IsWithin a → IsWithin (looked a)
  within_looked a w = record { durable = w.durable; before = w.before; within = w.within }

  within_tried : (a : Account G) (answer : Answer) (result : Result Ticket EnterFault) → IsWithin a → IsWithin (tried a answer result)
  within_tried a answer (Ok ticket) w = within_accepted a answer w
  within_tried a answer (Err (enters.Stopped at)) w = within_looked a w
  within_tried a answer (Err (enters.Behind pending octets)) w = within_looked a w
  within_tried a answer (Err (enters.Full would limit)) w = within_accepted a answer w
  within_tried a answer (Err enters.NoMemory) w = within_looked a w

  durable_tried : (a : Account G) (answer : Answer) (result : Result Ticket EnterFault) → (tried a answer result).durable ≡ a.durable
  durable_tried a answer (Ok ticket) = omega arith
  durable_tried a answer (Err (enters.Stopped at)) = omega arith
  durable_tried a answer (Err (enters.Behind pending octets)) = omega arith
  durable_tried a answer (Err (enters.Full would limit)) = omega arith
  durable_tried a answer (Err enters.NoMemory) = omega arith

same_loan : (one other : Loan) → Some one ≡ Some other → one ≡ other
same_loan one other same = cc

module _ {G : Type 0} (told : G → Option Told) (size disk_faults emit_faults : G → ℕ) (origin : CoreState × PressState G) where
  within_step : (a : Account G) (n : ℕ) (e : Entry G) → MayComeNext told size disk_faults emit_faults origin a n e → IsWithin a → IsWithin (step a n e)
  within_step a n (Happened input moment ticket) m w = within_accepted a (answer_to a.state input.value moment) w
  within_step a n (Looked (Tried input moment answer)) m w = within_tried a (answer_to a.state input.value moment) answer w
  within_step a n (Looked (Denied fault)) m w = within_looked a w
  within_step a n (Looked Closing) m w = within_looked a w
  within_step a n (Taken upto) m w = record {
    durable = w.durable;
    before = λ loan out. omega (arith, w.durable, m.3, ap (λ (l : Loan). l.upto) (same_loan _ loan out));
    within = λ loan out. omega (arith, m.3, ap (λ (l : Loan). l.upto) (same_loan _ loan out));
  }
  within_step a n (Returned upto press) m w = record {
    durable = omega (arith, w.within m.0.0 m.0.1, m.0.3);
    before = λ loan none. absurd (cc);
    within = λ loan none. absurd (cc);
  }
  within_step a n (Failed upto device) m w = record {
    durable = w.durable;
    before = λ loan none. absurd (cc);
    within = λ loan none. absurd (cc);
  }

  durable_step : (a : Account G) (n : ℕ) (e : Entry G) → MayComeNext told size disk_faults emit_faults origin a n e → IsWithin a → a.durable ≤ (step a n e).durable
  durable_step a n (Happened input moment ticket) m w = omega arith
  durable_step a n (Looked (Tried input moment answer)) m w = omega (arith, durable_tried a (answer_to a.state input.value moment) answer)
  durable_step a n (Looked (Denied fault)) m w = omega arith
  durable_step a n (Looked Closing) m w = omega arith
  durable_step a n (Taken upto) m w = omega arith
  durable_step a n (Returned upto press) m w = omega (arith, w.before m.0.0 m.0.1, m.0.3)
  durable_step a n (Failed upto device) m w = omega arith

  -- what is durable stays so
  durable_grows : (a : Account G) (h : List (ℕ × Entry G)) → IsLegalFrom told size disk_faults emit_faults origin a h → IsWithin a → a.durable ≤ (account_from a h).durable
  durable_grows a [] legal w = omega arith
  durable_grows a (e ∷ es) legal w = omega (arith, durable_step a e.0 e.1 legal.0 w, durable_grows (step a e.0 e.1) es legal.1 (within_step a e.0 e.1 legal.0 w))

  given : (a : Account G) (n : ℕ) (e : Entry G) (to : ℕ) → GivesMark e to → to ≤ (step a n e).durable
  given a n (Happened input moment ticket) to gives = absurd gives
  given a n (Looked look) to gives = absurd gives
  given a n (Taken upto) to gives = absurd gives
  given a n (Returned upto press) to gives = gives
  given a n (Failed upto device) to gives = absurd gives

  licensed_from : (a : Account G) (h : List (ℕ × Entry G)) (to : ℕ) → IsLegalFrom told size disk_faults emit_faults origin a h → IsWithin a → Licenses h to → to ≤ (account_from a h).durable
  licensed_from a [] to legal w l = absurd l
  licensed_from a (e ∷ es) to legal w l =
      let next = within_step a e.0 e.1 legal.0 w in
      ⊎_elim (λ (gives : GivesMark e.1 to). omega (arith, given a e.0 e.1 to gives, durable_grows (step a e.0 e.1) es legal.1 next)) (λ (later : Licenses es to). licensed_from (step a e.0 e.1) es to legal.1 next later) l

  -- a mark that a history licenses is no more than what is durable
  pub licensed_durable : (h : List (ℕ × Entry G)) (to : ℕ) → IsLegal told size disk_faults emit_faults origin h → Licenses h to → to ≤ (account_from (start origin) h).durable
  licensed_durable h to legal l = licensed_from (start origin) h to legal (record { durable = omega arith; before = λ loan none. absurd (cc); within = λ loan none. absurd (cc) }) l
