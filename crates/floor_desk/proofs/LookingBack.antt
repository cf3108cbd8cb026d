-- An account is what looking back over its history gives.
use Rattle.std.proofs.Common.{◌≡◌, ℕ, ◌+◌, Option, Some, None, List, [], ◌∷◌, ◌++◌, length, map, drop, reverse, refl, ap, ◌∙◌, sym, subst, arith, append_assoc}
use Rattle.std.proofs.lemmas.List.{append-nil, drop-append-le, drop_all, reverse-append, reverse-reverse}
use Rattle.std.specs.Prelude.{Result, Ok, Err}
use Rattle.alarm_core.specs.State.{CoreState}
use Rattle.alarm_core.specs.declared.event.Event.{Event}
use Rattle.alarm_journal.specs.Press.{PressState}
use Rattle.service_desk.specs.Answers.{Answer, answer_to, event_of, state_behind}
use Rattle.floor_desk.specs.declared.entry.Entry.{Entry}
use Rattle.floor_desk.specs.declared.entry.Entry.TheVariants.{Event as Happened, Looked, Taken, Returned, Failed}
use Rattle.floor_desk.specs.declared.entry.Look.TheVariants.{Tried, Refused as Denied, Closing}
use Rattle.floor_desk.specs.declared.faults.EnterFault.TheVariants as enters
use Rattle.floor_desk.specs.Accounts.{Account, Due, Front, accepted, account, if_event, looked, start, step}
use Rattle.floor_desk.specs.LookingBack.{IsLookedBack, before_returned, before_taken, behind_taken, calls_over, calls_with, dues_over, dues_with, durable_over, events_over, events_with, failed_over, loan_over, press_over, reach_over, state_over, state_with, taken_with}
use Rattle.floor_desk.specs.Serving.{IsEnd}
use Rattle.floor_desk.specs.ServingSteps.{EndsAccount}
use Rattle.floor_desk.specs.Tries.{Attempt}
use Rattle.floor_desk.specs.declared.entry.Ticket.{Ticket}
use Rattle.floor_desk.specs.declared.faults.EnterFault.{EnterFault}
use Rattle.floor_desk.specs.declared.serve.End.{End}
use Rattle.floor_desk.specs.declared.serve.End.TheVariants as end
use Rattle.floor_desk.proofs.Histories.{account_snoc}

-- what stands behind the first of two lists
seam : {X : Type 0} (xs ys : List X) → drop (length xs) (xs ++ ys) ≡ ys
seam xs ys = drop-append-le (length xs) xs ys (omega arith) ∙ ap (λ l. l ++ ys) (drop_all (length xs) xs (omega arith))

module _ {G : Type 0} where
  -- an entry with which the press didn't leave
  record IsNotTaken (e : ℕ × Entry G) : Type 0 where
    behind : (older : List (ℕ × Entry G)) → behind_taken (e ∷ older) ≡ e ∷ behind_taken older
    before : (older : List (ℕ × Entry G)) → before_taken (e ∷ older) ≡ before_taken older

  -- an entry that leaves the press where it was
  record StaysPut (e : ℕ × Entry G) : Type 0 where
    before : (older : List (ℕ × Entry G)) → before_taken (e ∷ older) ≡ before_taken older
    returned : (older : List (ℕ × Entry G)) → before_returned (e ∷ older) ≡ before_returned older
    durable : (first : CoreState) (older : List (ℕ × Entry G)) → durable_over first (e ∷ older) ≡ durable_over first older
    press : (first : PressState G) (older : List (ℕ × Entry G)) → press_over first (e ∷ older) ≡ press_over first older
    loan : (older : List (ℕ × Entry G)) → loan_over (e ∷ older) ≡ loan_over older
    failed : (older : List (ℕ × Entry G)) → failed_over (e ∷ older) ≡ failed_over older

  -- ---- what stands before the last entry with which the press left, and what behind it

  state_more : (first : CoreState) (e : ℕ × Entry G) (older : List (ℕ × Entry G)) → IsNotTaken e → state_over first older ≡ state_over (state_over first (before_taken older)) (behind_taken older)
      → state_over first (e ∷ older) ≡ state_over (state_over first (before_taken (e ∷ older))) (behind_taken (e ∷ older))
  state_more first e older not i =
      ap (λ (s : CoreState). state_with s (taken_with s e.1)) i
      ∙ (ap (λ (l : List (ℕ × Entry G)). state_over (state_over first (before_taken older)) l) (sym (not.behind older)) ∙ ap (λ (l : List (ℕ × Entry G)). state_over (state_over first l) (behind_taken (e ∷ older))) (sym (not.before older)))

  state_split : (first : CoreState) (newest : List (ℕ × Entry G)) → state_over first newest ≡ state_over (state_over first (before_taken newest)) (behind_taken newest)
  state_split first [] = refl
  state_split first ((n, Taken upto) ∷ older) = refl
  state_split first ((n, Happened input moment ticket) ∷ older) = state_more first (n, Happened input moment ticket) older (record { behind = λ l. refl; before = λ l. refl }) (state_split first older)
  state_split first ((n, Looked look) ∷ older) = state_more first (n, Looked look) older (record { behind = λ l. refl; before = λ l. refl }) (state_split first older)
  state_split first ((n, Returned upto press) ∷ older) = state_more first (n, Returned upto press) older (record { behind = λ l. refl; before = λ l. refl }) (state_split first older)
  state_split first ((n, Failed upto device) ∷ older) = state_more first (n, Failed upto device) older (record { behind = λ l. refl; before = λ l. refl }) (state_split first older)

  events_more : (first : CoreState) (e : ℕ × Entry G) (older : List (ℕ × Entry G)) → IsNotTaken e
      → events_over first older ≡ events_over first (before_taken older) ++ events_over (state_over first (before_taken older)) (behind_taken older)
      → events_over first (e ∷ older) ≡ events_over first (before_taken (e ∷ older)) ++ events_over (state_over first (before_taken (e ∷ older))) (behind_taken (e ∷ older))
  events_more first e older not i =
      let then : CoreState = state_over first (before_taken older) in
      let front : List Event = events_over first (before_taken older) in
      let added : List Event = events_with (taken_with (state_over first older) e.1) in
      ap (λ (l : List Event). l ++ added) i
      ∙ (append_assoc front (events_over then (behind_taken older)) added
      ∙ (ap (λ (s : CoreState). front ++ (events_over then (behind_taken older) ++ events_with (taken_with s e.1))) (state_split first older)
      ∙ (ap (λ (l : List (ℕ × Entry G)). front ++ events_over then l) (sym (not.behind older)) ∙ ap (λ (l : List (ℕ × Entry G)). events_over first l ++ events_over (state_over first l) (behind_taken (e ∷ older))) (sym (not.before older)))))

  events_split : (first : CoreState) (newest : List (ℕ × Entry G)) → events_over first newest ≡ events_over first (before_taken newest) ++ events_over (state_over first (before_taken newest)) (behind_taken newest)
  events_split first [] = refl
  events_split first ((n, Taken upto) ∷ older) = refl
  events_split first ((n, Happened input moment ticket) ∷ older) = events_more first (n, Happened input moment ticket) older (record { behind = λ l. refl; before = λ l. refl }) (events_split first older)
  events_split first ((n, Looked look) ∷ older) = events_more first (n, Looked look) older (record { behind = λ l. refl; before = λ l. refl }) (events_split first older)
  events_split first ((n, Returned upto press) ∷ older) = events_more first (n, Returned upto press) older (record { behind = λ l. refl; before = λ l. refl }) (events_split first older)
  events_split first ((n, Failed upto device) ∷ older) = events_more first (n, Failed upto device) older (record { behind = λ l. refl; before = λ l. refl }) (events_split first older)

  dues_more : (first : CoreState) (e : ℕ × Entry G) (older : List (ℕ × Entry G)) → IsNotTaken e
      → dues_over first older ≡ dues_over first (before_taken older) ++ dues_over (state_over first (before_taken older)) (behind_taken older)
      → dues_over first (e ∷ older) ≡ dues_over first (before_taken (e ∷ older)) ++ dues_over (state_over first (before_taken (e ∷ older))) (behind_taken (e ∷ older))
  dues_more first e older not i =
      let then : CoreState = state_over first (before_taken older) in
      let front : List Due = dues_over first (before_taken older) in
      let added : List Due = dues_with (state_over first older) (taken_with (state_over first older) e.1) in
      ap (λ (l : List Due). l ++ added) i
      ∙ (append_assoc front (dues_over then (behind_taken older)) added
      ∙ (ap (λ (s : CoreState). front ++ (dues_over then (behind_taken older) ++ dues_with s (taken_with s e.1))) (state_split first older)
      ∙ (ap (λ (l : List (ℕ × Entry G)). front ++ dues_over then l) (sym (not.behind older)) ∙ ap (λ (l : List (ℕ × Entry G)). dues_over first l ++ dues_over (state_over first l) (behind_taken (e ∷ older))) (sym (not.before older)))))

  dues_split : (first : CoreState) (newest : List (ℕ × Entry G)) → dues_over first newest ≡ dues_over first (before_taken newest) ++ dues_over (state_over first (before_taken newest)) (behind_taken newest)
  dues_split first [] = refl
  dues_split first ((n, Taken upto) ∷ older) = refl
  dues_split first ((n, Happened input moment ticket) ∷ older) = dues_more first (n, Happened input moment ticket) older (record { behind = λ l. refl; before = λ l. refl }) (dues_split first older)
  dues_split first ((n, Looked look) ∷ older) = dues_more first (n, Looked look) older (record { behind = λ l. refl; before = λ l. refl }) (dues_split first older)
  dues_split first ((n, Returned upto press) ∷ older) = dues_more first (n, Returned upto press) older (record { behind = λ l. refl; before = λ l. refl }) (dues_split first older)
  dues_split first ((n, Failed upto device) ∷ older) = dues_more first (n, Failed upto device) older (record { behind = λ l. refl; before = λ l. refl }) (dues_split first older)

  calls_more : (first : CoreState) (e : ℕ × Entry G) (older : List (ℕ × Entry G)) → IsNotTaken e
      → calls_over first older ≡ calls_over first (before_taken older) + calls_over (state_over first (before_taken older)) (behind_taken older)
      → calls_over first (e ∷ older) ≡ calls_over first (before_taken (e ∷ older)) + calls_over (state_over first (before_taken (e ∷ older))) (behind_taken (e ∷ older))
  calls_more first e older not i =
      let then : CoreState = state_over first (before_taken older) in
      let front : ℕ = calls_over first (before_taken older) in
      let rest : ℕ = calls_over then (behind_taken older) in
      let added : calls_over first older + calls_with (state_over first older) (taken_with (state_over first older) e.1) ≡ front + (rest + calls_with (state_over first older) (taken_with (state_over first older) e.1)) = omega (arith, i) in
      added
      ∙ (ap (λ (s : CoreState). front + (rest + calls_with s (taken_with s e.1))) (state_split first older)
      ∙ (ap (λ (l : List (ℕ × Entry G)). front + calls_over then l) (sym (not.behind older)) ∙ ap (λ (l : List (ℕ × Entry G)). calls_over first l + calls_over (state_over first l) (behind_taken (e ∷ older))) (sym (not.before older))))

  calls_split : (first : CoreState) (newest : List (ℕ × Entry G)) → calls_over first newest ≡ calls_over first (before_taken newest) + calls_over (state_over first (before_taken newest)) (behind_taken newest)
  calls_split first [] = refl
  calls_split first ((n, Taken upto) ∷ older) = refl
  calls_split first ((n, Happened input moment ticket) ∷ older) = calls_more first (n, Happened input moment ticket) older (record { behind = λ l. refl; before = λ l. refl }) (calls_split first older)
  calls_split first ((n, Looked look) ∷ older) = calls_more first (n, Looked look) older (record { behind = λ l. refl; before = λ l. refl }) (calls_split first older)
  calls_split first ((n, Returned upto press) ∷ older) = calls_more first (n, Returned upto press) older (record { behind = λ l. refl; before = λ l. refl }) (calls_split first older)
  calls_split first ((n, Failed upto device) ∷ older) = calls_more first (n, Failed upto device) older (record { behind = λ l. refl; before = λ l. refl }) (calls_split first older)

  -- ---- entry by entry

  -- all of it but what is pending
  record Tells (origin : CoreState × PressState G) (newest : List (ℕ × Entry G)) (a : Account G) : Type 0 where
    long : a.long ≡ length newest
    state : a.state ≡ state_over origin.0 newest
    order : a.order ≡ events_over origin.0 newest
    dues : a.dues ≡ dues_over origin.0 newest
    calls : a.calls ≡ calls_over origin.0 newest
    taken : a.taken ≡ reach_over origin.0 (before_taken newest)
    back : a.back ≡ reach_over origin.0 (before_returned newest)
    durable : a.durable ≡ durable_over origin.0 newest
    press : a.press ≡ press_over origin.1 newest
    loan : a.loan ≡ loan_over newest
    failed : a.failed ≡ failed_over newest

  module _ (origin : CoreState × PressState G) (older : List (ℕ × Entry G)) (a : Account G) (t : Tells origin older a) where
    abbrev state : CoreState
    state = state_over origin.0 older

    -- an answer that was taken
    tells_accepted : (e : ℕ × Entry G) (x : Answer) → StaysPut e → taken_with state e.1 ≡ Some x → Tells origin (e ∷ older) (accepted a x)
    tells_accepted e x s took = record {
      long = omega (arith, t.long);
      state = ap (λ (z : CoreState). state_behind z x) t.state ∙ ap (λ (o : Option Answer). state_with state o) (sym took);
      order = ap (λ (l : List Event). l ++ if_event (event_of x)) t.order ∙ ap (λ (o : Option Answer). events_over origin.0 older ++ events_with o) (sym took);
      dues =
          ap (λ (l : List Due). l ++ dues_with a.state (Some x)) t.dues
          ∙ (ap (λ (z : CoreState). dues_over origin.0 older ++ dues_with z (Some x)) t.state ∙ ap (λ (o : Option Answer). dues_over origin.0 older ++ dues_with state o) (sym took));
      calls =
          ap (λ (n : ℕ). n + calls_with a.state (Some x)) t.calls
          ∙ (ap (λ (z : CoreState). calls_over origin.0 older + calls_with z (Some x)) t.state ∙ ap (λ (o : Option Answer). calls_over origin.0 older + calls_with state o) (sym took));
      taken = t.taken ∙ ap (λ (l : List (ℕ × Entry G)). reach_over origin.0 l) (sym (s.before older));
      back = t.back ∙ ap (λ (l : List (ℕ × Entry G)). reach_over origin.0 l) (sym (s.returned older));
      durable = t.durable ∙ sym (s.durable origin.0 older);
      press = t.press ∙ sym (s.press origin.1 older);
      loan = t.loan ∙ sym (s.loan older);
      failed = t.failed ∙ sym (s.failed older);
    }

    -- an entry that changes nothing
    tells_looked : (e : ℕ × Entry G) → StaysPut e → taken_with state e.1 ≡ None → Tells origin (e ∷ older) (looked a)
    tells_looked e s took = record {
      long = omega (arith, t.long);
      state = t.state ∙ ap (λ (o : Option Answer). state_with state o) (sym took);
      order = t.order ∙ (sym (append-nil (events_over origin.0 older)) ∙ ap (λ (o : Option Answer). events_over origin.0 older ++ events_with o) (sym took));
      dues = t.dues ∙ (sym (append-nil (dues_over origin.0 older)) ∙ ap (λ (o : Option Answer). dues_over origin.0 older ++ dues_with state o) (sym took));
      calls = t.calls ∙ (omega arith ∙ ap (λ (o : Option Answer). calls_over origin.0 older + calls_with state o) (sym took));
      taken = t.taken ∙ ap (λ (l : List (ℕ × Entry G)). reach_over origin.0 l) (sym (s.before older));
      back = t.back ∙ ap (λ (l : List (ℕ × Entry G)). reach_over origin.0 l) (sym (s.returned older));
      durable = t.durable ∙ sym (s.durable origin.0 older);
      press = t.press ∙ sym (s.press origin.1 older);
      loan = t.loan ∙ sym (s.loan older);
      failed = t.failed ∙ sym (s.failed older);
    }

    same_order : a.order ≡ events_over origin.0 older ++ []
    same_order = t.order ∙ sym (append-nil (events_over origin.0 older))

    same_dues : a.dues ≡ dues_over origin.0 older ++ []
    same_dues = t.dues ∙ sym (append-nil (dues_over origin.0 older))

    same_calls : a.calls ≡ calls_over origin.0 older + 0
    same_calls = omega (arith, t.calls)

    -- the answer to an input by the state of the account is the one by that of the list
    by_state : (answer : CoreState → Answer) → Some (answer state) ≡ Some (answer a.state)
    by_state answer = ap (λ (z : CoreState). Some (answer z)) (sym t.state)

    front_is : record { events = length a.order; dues = length a.dues; calls = a.calls } ≡ reach_over origin.0 older
    front_is =
        ap (λ (l : List Event). record { events = length l; dues = length a.dues; calls = a.calls }) t.order
        ∙ (ap (λ (l : List Due). record { events = length (events_over origin.0 older); dues = length l; calls = a.calls }) t.dues
        ∙ ap (λ (n : ℕ). record { events = length (events_over origin.0 older); dues = length (dues_over origin.0 older); calls = n }) t.calls)

    tells_step : (n : ℕ) (e : Entry G) → Tells origin ((n, e) ∷ older) (step a n e)
    tells_step n (Happened input moment ticket) =
        tells_accepted (n, Happened input moment ticket) (answer_to a.state input.value moment) (record { before = λ l. refl; returned = λ l. refl; durable = λ f l. refl; press = λ f l. refl; loan = λ l. refl; failed = λ l. refl })
        (by_state (λ z. answer_to z input.value moment))
    tells_step n (Looked (Tried input moment (Ok ticket))) =
        tells_accepted (n, Looked (Tried input moment (Ok ticket))) (answer_to a.state input.value moment) (record { before = λ l. refl; returned = λ l. refl; durable = λ f l. refl; press = λ f l. refl; loan = λ l. refl; failed = λ l. refl })
        (by_state (λ z. answer_to z input.value moment))
    tells_step n (Looked (Tried input moment (Err (enters.Full would limit)))) =
        tells_accepted (n, Looked (Tried input moment (Err (enters.Full would limit)))) (answer_to a.state input.value moment) (record { before = λ l. refl; returned = λ l. refl; durable = λ f l. refl; press = λ f l. refl; loan = λ l. refl; failed = λ l. refl })
        (by_state (λ z. answer_to z input.value moment))
    tells_step n (Looked (Tried input moment (Err (enters.Stopped at)))) =
        tells_looked (n, Looked (Tried input moment (Err (enters.Stopped at)))) (record { before = λ l. refl; returned = λ l. refl; durable = λ f l. refl; press = λ f l. refl; loan = λ l. refl; failed = λ l. refl }) refl
    tells_step n (Looked (Tried input moment (Err (enters.Behind pending octets)))) =
        tells_looked (n, Looked (Tried input moment (Err (enters.Behind pending octets)))) (record { before = λ l. refl; returned = λ l. refl; durable = λ f l. refl; press = λ f l. refl; loan = λ l. refl; failed = λ l. refl }) refl
    tells_step n (Looked (Tried input moment (Err enters.NoMemory))) =
        tells_looked (n, Looked (Tried input moment (Err enters.NoMemory))) (record { before = λ l. refl; returned = λ l. refl; durable = λ f l. refl; press = λ f l. refl; loan = λ l. refl; failed = λ l. refl }) refl
    tells_step n (Looked (Denied fault)) = tells_looked (n, Looked (Denied fault)) (record { before = λ l. refl; returned = λ l. refl; durable = λ f l. refl; press = λ f l. refl; loan = λ l. refl; failed = λ l. refl }) refl
    tells_step n (Looked Closing) = tells_looked (n, Looked Closing) (record { before = λ l. refl; returned = λ l. refl; durable = λ f l. refl; press = λ f l. refl; loan = λ l. refl; failed = λ l. refl }) refl
    tells_step n (Taken upto) = record {
      long = omega (arith, t.long);
      state = t.state;
      order = same_order;
      dues = same_dues;
      calls = same_calls;
      taken = front_is;
      back = t.back;
      durable = t.durable;
      press = t.press;
      loan = ap (λ (m : ℕ). Some record { number = n; place = m + 1; upto = upto }) t.long;
      failed = t.failed;
    }
    tells_step n (Returned upto press) = record {
      long = omega (arith, t.long);
      state = t.state;
      order = same_order;
      dues = same_dues;
      calls = same_calls;
      taken = t.taken;
      back = t.taken;
      durable = refl;
      press = refl;
      loan = refl;
      failed = t.failed;
    }
    tells_step n (Failed upto device) = record {
      long = omega (arith, t.long);
      state = t.state;
      order = same_order;
      dues = same_dues;
      calls = same_calls;
      taken = t.taken;
      back = t.back;
      durable = t.durable;
      press = t.press;
      loan = refl;
      failed = ap (λ (m : ℕ). Some (m + 1)) t.long;
    }

  tells : (origin : CoreState × PressState G) (newest : List (ℕ × Entry G)) → Tells origin newest (account origin (reverse newest))
  tells origin [] = record { long = refl; state = refl; order = refl; dues = refl; calls = refl; taken = refl; back = refl; durable = refl; press = refl; loan = refl; failed = refl }
  tells origin (e ∷ older) =
      subst (λ (l : List (ℕ × Entry G)). Tells origin (e ∷ older) (account origin l)) (sym (reverse-append (e ∷ []) older))
      (subst (λ (a : Account G). Tells origin (e ∷ older) a) (sym (account_snoc (start origin) (reverse older) e)) (tells_step origin older (account origin (reverse older)) (tells origin older) e.0 e.1))

  -- ---- what is pending

  pending_of : (origin : CoreState × PressState G) (newest : List (ℕ × Entry G)) (a : Account G) → Tells origin newest a → IsLookedBack origin newest a
  pending_of origin newest a t =
      let then : CoreState = state_over origin.0 (before_taken newest) in
      let events : List Event = events_over origin.0 (before_taken newest) in
      let dues : List Due = dues_over origin.0 (before_taken newest) in record {
        long = t.long;
        state = t.state;
        order = t.order;
        dues = t.dues;
        calls = t.calls;
        taken = t.taken;
        back = t.back;
        durable = t.durable;
        press = t.press;
        loan = t.loan;
        failed = t.failed;
        pending_order =
            ap (λ (f : Front). drop f.events a.order) t.taken
            ∙ (ap (λ (l : List Event). drop (length events) l) (t.order ∙ events_split origin.0 newest) ∙ seam events (events_over then (behind_taken newest)));
        pending_dues =
            ap (λ (l : List Due). map (λ (due : Due). due.send) l)
            (ap (λ (f : Front). drop f.dues a.dues) t.taken
            ∙ (ap (λ (l : List Due). drop (length dues) l) (t.dues ∙ dues_split origin.0 newest) ∙ seam dues (dues_over then (behind_taken newest))));
        pending_calls = t.calls ∙ (calls_split origin.0 newest ∙ ap (λ (f : Front). f.calls + calls_over then (behind_taken newest)) (sym t.taken));
      }

  pub looks_back : (origin : CoreState × PressState G) (history : List (ℕ × Entry G)) → IsLookedBack origin (reverse history) (account origin history)
  looks_back origin history =
      pending_of origin (reverse history) (account origin history)
      (subst (λ (l : List (ℕ × Entry G)). Tells origin (reverse history) (account origin l)) (reverse-reverse history) (tells origin (reverse history)))

  -- ---- how a server ended

  pub end_by_list : (origin : CoreState × PressState G) (newest : List (ℕ × Entry G)) (a : Account G) → IsLookedBack origin newest a → (attempts : List Attempt) (tick pump : Result Ticket EnterFault) (ended : End) → EndsAccount a attempts tick pump ended → IsEnd origin newest attempts tick pump ended
  end_by_list origin newest a l attempts tick pump end.DiskFault is = (is.0, sym l.failed ∙ is.1)
  end_by_list origin newest a l attempts tick pump end.LinkFault is = sym l.failed ∙ is
  end_by_list origin newest a l attempts tick pump end.NoMemory is = sym l.failed ∙ is
  end_by_list origin newest a l attempts tick pump end.Done is = (
    sym l.failed ∙ is.0,
    is.1,
    is.2,
    is.3,
    record {
      written = sym l.durable ∙ (is.4.written ∙ ap (λ (s : CoreState). s.events) l.state);
      sent = ap (λ (f : Front). f.dues) (sym l.back) ∙ (is.4.sent ∙ ap (λ (z : List Due). length z) l.dues);
    },
  )

  pub end_by_account : (origin : CoreState × PressState G) (newest : List (ℕ × Entry G)) (a : Account G) → IsLookedBack origin newest a → (attempts : List Attempt) (tick pump : Result Ticket EnterFault) (ended : End) → IsEnd origin newest attempts tick pump ended → EndsAccount a attempts tick pump ended
  end_by_account origin newest a l attempts tick pump end.DiskFault is = (is.0, l.failed ∙ is.1)
  end_by_account origin newest a l attempts tick pump end.LinkFault is = l.failed ∙ is
  end_by_account origin newest a l attempts tick pump end.NoMemory is = l.failed ∙ is
  end_by_account origin newest a l attempts tick pump end.Done is = (
    l.failed ∙ is.0,
    is.1,
    is.2,
    is.3,
    record {
      written = l.durable ∙ (is.4.written ∙ ap (λ (s : CoreState). s.events) (sym l.state));
      sent = ap (λ (f : Front). f.dues) l.back ∙ (is.4.sent ∙ ap (λ (z : List Due). length z) (sym l.dues));
    },
  )
