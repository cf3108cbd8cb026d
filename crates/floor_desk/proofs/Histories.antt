-- Accounts of longer histories, and a loan that stays open.
use Rattle.std.proofs.Common.{◌≡◌, ◌⊎◌, ℕ, ◌+◌, ◌<◌, ◌≤◌, true, false, List, [], ◌∷◌, ◌++◌, length, refl, sym, ap, ◌∙◌, subst, arith, inl, inr, ⊎_elim, eq-eqb, append_assoc}
use Rattle.std.proofs.lemmas.List.{append-nil}
use Rattle.std.specs.Prelude.{Option, Some, None, Ok, Err, Result, ◌==◌, if◌then◌else◌}
use Rattle.ground_io.specs.Trace.{Told}
use Rattle.turnstile.specs.Histories.{entries_under}
use Rattle.alarm_core.specs.State.{CoreState}
use Rattle.alarm_journal.specs.Press.{PressState}
use Rattle.alarm_core.specs.declared.event.Event.{Event}
use Rattle.service_desk.specs.Answers.{Answer, answer_to, event_of}
use Rattle.floor_desk.specs.declared.entry.Entry.{Entry}
use Rattle.floor_desk.specs.declared.entry.Entry.TheVariants.{Event as Happened, Looked, Taken, Returned, Failed}
use Rattle.floor_desk.specs.declared.entry.Look.TheVariants.{Tried, Refused as Denied, Closing}
use Rattle.floor_desk.specs.declared.entry.Ticket.{Ticket}
use Rattle.floor_desk.specs.declared.faults.EnterFault.{EnterFault}
use Rattle.floor_desk.specs.declared.faults.EnterFault.TheVariants as enters
use Rattle.floor_desk.specs.Legal.{MayComeNext, IsLegalFrom}
use Rattle.floor_desk.specs.Accounts.{Account, Due, Loan, Licenses, accepted, account_from, if_event, looked, step, tried}

module _ {G : Type 0} where
  -- one entry more
  pub account_snoc : (a : Account G) (h : List (ℕ × Entry G)) (c : ℕ × Entry G) → account_from a (h ++ c ∷ []) ≡ step (account_from a h) c.0 c.1
  account_snoc a [] c = refl
  account_snoc a (e ∷ es) c = account_snoc (step a e.0 e.1) es c

  -- one history behind the other
  pub account_append : (a : Account G) (h k : List (ℕ × Entry G)) → account_from a (h ++ k) ≡ account_from (account_from a h) k
  account_append a [] k = refl
  account_append a (e ∷ es) k = account_append (step a e.0 e.1) es k

  long_tried : (a : Account G) (answer : Answer) (result : Result Ticket EnterFault) → (tried a answer result).long ≡ a.long + 1
  long_tried a answer (Ok ticket) = refl
  long_tried a answer (Err (enters.Stopped at)) = refl
  long_tried a answer (Err (enters.Behind pending octets)) = refl
  long_tried a answer (Err (enters.Full would limit)) = refl
  long_tried a answer (Err enters.NoMemory) = refl

  long_step : (a : Account G) (n : ℕ) (e : Entry G) → (step a n e).long ≡ a.long + 1
  long_step a n (Happened input moment ticket) = refl
  long_step a n (Looked (Tried input moment answer)) = long_tried a (answer_to a.state input.value moment) answer
  long_step a n (Looked (Denied fault)) = refl
  long_step a n (Looked Closing) = refl
  long_step a n (Taken upto) = refl
  long_step a n (Returned upto press) = refl
  long_step a n (Failed upto device) = refl

  pub long_is : (a : Account G) (h : List (ℕ × Entry G)) → (account_from a h).long ≡ a.long + length h
  long_is a [] = omega arith
  long_is a (e ∷ es) = let i = long_is (step a e.0 e.1) es in let s = long_step a e.0 e.1 in omega arith

  pub licenses_last : (h : List (ℕ × Entry G)) (n upto : ℕ) (e : Entry G) → Licenses ((n, e) ∷ []) upto → Licenses (h ++ (n, e) ∷ []) upto
  licenses_last [] n upto e l = l
  licenses_last (x ∷ h) n upto e l = inr (licenses_last h n upto e l)

  -- ---- a loan that stays open

  -- of two accounts the second has more events, datagrams and calls, and the same of all that the press's entries change
  pub record IsStill (a b : Account G) : Type 0 where
    pub more : List Event
    pub order : b.order ≡ a.order ++ more
    pub owed : List Due
    pub dues : b.dues ≡ a.dues ++ owed
    pub calls : a.calls ≤ b.calls
    pub taken : b.taken ≡ a.taken
    pub back : b.back ≡ a.back
    pub durable : b.durable ≡ a.durable
    pub press : b.press ≡ a.press
    pub loan : b.loan ≡ a.loan
    pub failed : b.failed ≡ a.failed

  pub still_here : (a : Account G) → IsStill a a
  still_here a = record { more = []; order = sym (append-nil a.order); owed = []; dues = sym (append-nil a.dues); calls = omega arith; taken = refl; back = refl; durable = refl; press = refl; loan = refl; failed = refl }

  pub still_then : (a b c : Account G) → IsStill a b → IsStill b c → IsStill a c
  still_then a b c x y = record {
    more = x.more ++ y.more;
    order = y.order ∙ (ap (λ (l : List Event). l ++ y.more) x.order ∙ append_assoc a.order x.more y.more);
    owed = x.owed ++ y.owed;
    dues = y.dues ∙ (ap (λ (l : List Due). l ++ y.owed) x.dues ∙ append_assoc a.dues x.owed y.owed);
    calls = omega (arith, x.calls, y.calls);
    taken = y.taken ∙ x.taken;
    back = y.back ∙ x.back;
    durable = y.durable ∙ x.durable;
    press = y.press ∙ x.press;
    loan = y.loan ∙ x.loan;
    failed = y.failed ∙ x.failed;
  }

  pub still_looked : (a : Account G) → IsStill a (looked a)
  still_looked a = record { more = []; order = sym (append-nil a.order); owed = []; dues = sym (append-nil a.dues); calls = omega arith; taken = refl; back = refl; durable = refl; press = refl; loan = refl; failed = refl }

  pub still_accepted : (a : Account G) (answer : Answer) → IsStill a (accepted a answer)
  still_accepted a answer = record { more = if_event (event_of answer); order = refl; owed = _; dues = refl; calls = omega arith; taken = refl; back = refl; durable = refl; press = refl; loan = refl; failed = refl }

  pub still_tried : (a : Account G) (answer : Answer) (result : Result Ticket EnterFault) → IsStill a (tried a answer result)
  still_tried a answer (Ok ticket) = still_accepted a answer
  still_tried a answer (Err (enters.Stopped at)) = still_looked a
  still_tried a answer (Err (enters.Behind pending octets)) = still_looked a
  still_tried a answer (Err (enters.Full would limit)) = still_accepted a answer
  still_tried a answer (Err enters.NoMemory) = still_looked a

module _ {G : Type 0} (told : G → Option Told) (size disk_faults emit_faults : G → ℕ) (origin : CoreState × PressState G) where
  pub legal_snoc : (a : Account G) (h : List (ℕ × Entry G)) (c : ℕ × Entry G) → IsLegalFrom told size disk_faults emit_faults origin a h → MayComeNext told size disk_faults emit_faults origin (account_from a h) c.0 c.1 → IsLegalFrom told size disk_faults emit_faults origin a (h ++ c ∷ [])
  legal_snoc a [] c l m = (m, tt)
  legal_snoc a (e ∷ es) c l m = (l.0, legal_snoc (step a e.0 e.1) es c l.1 m)

  pub legal_after : (a : Account G) (h k : List (ℕ × Entry G)) → IsLegalFrom told size disk_faults emit_faults origin a (h ++ k) → IsLegalFrom told size disk_faults emit_faults origin (account_from a h) k
  legal_after a [] k l = l
  legal_after a (e ∷ es) k l = legal_after (step a e.0 e.1) es k l.1

  -- the front of a legal history is legal
  pub legal_front : (a : Account G) (h k : List (ℕ × Entry G)) → IsLegalFrom told size disk_faults emit_faults origin a (h ++ k) → IsLegalFrom told size disk_faults emit_faults origin a h
  legal_front a [] k l = tt
  legal_front a (e ∷ es) k l = (l.0, legal_front (step a e.0 e.1) es k l.1)

  other : (a : Account G) (l k : Loan) → a.loan ≡ Some l → a.loan ≡ Some k → k ≡ l
  other a l k x y = cc

  own : (a : Account G) (l k : Loan) (n : ℕ) → a.loan ≡ Some l → a.loan ≡ Some k → k.number ≡ n → (n == l.number) ≡ false → ⊥
  own a l k n x y is differs =
      let same : n ≡ l.number = sym is ∙ ap (λ (z : Loan). z.number) (other a l k x y) in
      let yes : (n == l.number) ≡ true = eq-eqb n l.number same in cc

  -- an entry of another pass
  kept : (a : Account G) (l : Loan) (n : ℕ) (e : Entry G) → a.loan ≡ Some l → MayComeNext told size disk_faults emit_faults origin a n e → (n == l.number) ≡ false → IsStill a (step a n e)
  kept a l n (Happened input moment ticket) x m differs = still_accepted a (answer_to a.state input.value moment)
  kept a l n (Looked (Tried input moment answer)) x m differs = still_tried a (answer_to a.state input.value moment) answer
  kept a l n (Looked (Denied fault)) x m differs = still_looked a
  kept a l n (Looked Closing) x m differs = still_looked a
  kept a l n (Taken upto) x m differs = (let y = m.1 in cc)
  kept a l n (Returned upto press) x m differs = absurd (own a l m.0.0 n x m.0.1 m.0.2 differs)
  kept a l n (Failed upto device) x m differs = absurd (own a l m.0.0 n x m.0.1 m.0.2 differs)

  -- while a loan is open, only its own pass may end it
  pub still_out : (a : Account G) (l : Loan) (h : List (ℕ × Entry G)) → a.loan ≡ Some l → IsLegalFrom told size disk_faults emit_faults origin a h → entries_under l.number h ≡ [] → IsStill a (account_from a h)
  still_out a l [] x legal none_own = still_here a
  still_out a l (e ∷ es) x legal none_own =
      elim (e.0 == l.number) as (λ b. (e.0 == l.number) ≡ b → (if b then (e.1 ∷ entries_under l.number es) else entries_under l.number es) ≡ [] → IsStill a (account_from (step a e.0 e.1) es)) [
        | true ↦ λ is none. cc
        | false ↦ λ is none.
            let one : IsStill a (step a e.0 e.1) = kept a l e.0 e.1 x legal.0 is in
            still_then a (step a e.0 e.1) (account_from (step a e.0 e.1) es) one (still_out (step a e.0 e.1) l es (one.loan ∙ x) legal.1 none)
      ] refl none_own

  -- ---- a loan that is open still

  -- no loan is open, or one that began behind this place
  abbrev IsLater : ℕ → Option Loan → Type 0
  IsLater place None = Unit {0}
  IsLater place (Some loan) = place < loan.place

  not_later : (loan : Option Loan) (l : Loan) → IsLater l.place loan → loan ≡ Some l → ⊥
  not_later None l later is = cc
  not_later (Some k) l later is = omega (arith, later, ap (λ (x : Loan). x.place) (loan_of k l is))
    where
      loan_of : (k l : Loan) → Some k ≡ Some l → k ≡ l
      loan_of k l is = cc

  later_tried : (a : Account G) (place : ℕ) (answer : Answer) (result : Result Ticket EnterFault) → IsLater place a.loan → IsLater place (tried a answer result).loan
  later_tried a place answer result later = subst (λ (o : Option Loan). IsLater place o) (sym (still_tried a answer result).loan) later

  later_step : (a : Account G) (place n : ℕ) (e : Entry G) → place ≤ a.long → IsLater place a.loan → IsLater place (step a n e).loan
  later_step a place n (Happened input moment ticket) few later = later
  later_step a place n (Looked (Tried input moment answer)) few later = later_tried a place (answer_to a.state input.value moment) answer later
  later_step a place n (Looked (Denied fault)) few later = later
  later_step a place n (Looked Closing) few later = later
  later_step a place n (Taken upto) few later = omega (arith, few)
  later_step a place n (Returned upto press) few later = tt
  later_step a place n (Failed upto device) few later = tt

  -- what was ended once isn't open again
  later_from : (a : Account G) (place : ℕ) (h : List (ℕ × Entry G)) → place ≤ a.long → IsLater place a.loan → IsLater place (account_from a h).loan
  later_from a place [] few later = later
  later_from a place (e ∷ es) few later = later_from (step a e.0 e.1) place es (let s = long_step a e.0 e.1 in omega (arith, few)) (later_step a place e.0 e.1 few later)

  -- the entry leaves the loan open, or ends it
  kept_or_ended : (a : Account G) (l : Loan) (n : ℕ) (e : Entry G) → a.loan ≡ Some l → MayComeNext told size disk_faults emit_faults origin a n e → IsStill a (step a n e) ⊎ ((step a n e).loan ≡ None)
  kept_or_ended a l n (Happened input moment ticket) x m = inl (still_accepted a (answer_to a.state input.value moment))
  kept_or_ended a l n (Looked (Tried input moment answer)) x m = inl (still_tried a (answer_to a.state input.value moment) answer)
  kept_or_ended a l n (Looked (Denied fault)) x m = inl (still_looked a)
  kept_or_ended a l n (Looked Closing) x m = inl (still_looked a)
  kept_or_ended a l n (Taken upto) x m = (let y = m.1 in cc)
  kept_or_ended a l n (Returned upto press) x m = inr refl
  kept_or_ended a l n (Failed upto device) x m = inr refl

  -- where the same loan is open behind more entries, it was never ended
  pub still_open : (a : Account G) (l : Loan) (h : List (ℕ × Entry G)) → a.loan ≡ Some l → l.place ≤ a.long → IsLegalFrom told size disk_faults emit_faults origin a h → (account_from a h).loan ≡ Some l → IsStill a (account_from a h)
  still_open a l [] x few legal open_then = still_here a
  still_open a l (e ∷ es) x few legal open_then =
      let b : Account G = step a e.0 e.1 in
      let long : l.place ≤ b.long = (let s = long_step a e.0 e.1 in omega (arith, few)) in
      ⊎_elim
      (λ (still : IsStill a b). still_then a b (account_from b es) still (still_open b l es (still.loan ∙ x) long legal.1 open_then))
      (λ (ended : b.loan ≡ None). absurd (not_later (account_from b es).loan l (later_from b l.place es long (subst (λ (o : Option Loan). IsLater l.place o) (sym ended) tt)) open_then))
      (kept_or_ended a l e.0 e.1 x legal.0)
