-- How a server ends, from its last commit.
use Rattle.std.proofs.Common.{◌≡◌, ◌≤◌, ℕ, ◌+◌, Bool, true, false, true≢false, IsTrue, List, [], ◌∷◌, ◌++◌, Option, Some, None, Result, Ok, Err, arith, refl, sym, ap, ◌∙◌, subst, inl, inr, ⊎_elim}
use Rattle.std.proofs.lemmas.List.{append-nil}
use Rattle.std.specs.Prelude.{◌⊎◌, length, map}
use Rattle.std.specs.List.{All}
use Rattle.ground_io.specs.Trace.{Told}
use Rattle.bac_values.specs.declared.note.Send.{Send}
use Rattle.service_desk.specs.Answers.{Answer, dues_of, event_of, state_behind}
use Rattle.alarm_core.specs.declared.event.Event.{Event}
use Rattle.alarm_core.specs.State.{CoreState}
use Rattle.alarm_journal.specs.Press.{PressState}
use Rattle.floor_desk.specs.declared.entry.Entry.{Entry}
use Rattle.floor_desk.specs.declared.entry.Entry.TheVariants.{Event as Happened, Looked, Taken, Returned, Failed}
use Rattle.floor_desk.specs.declared.entry.Look.TheVariants.{Closing, Refused, Tried}
use Rattle.floor_desk.specs.declared.entry.Ticket.{Ticket}
use Rattle.floor_desk.specs.declared.faults.CommitFault.{CommitFault}
use Rattle.floor_desk.specs.declared.faults.CommitFault.TheVariants as commits
use Rattle.floor_desk.specs.declared.faults.EnterFault.{EnterFault}
use Rattle.floor_desk.specs.declared.faults.EnterFault.TheVariants as enters
use Rattle.floor_desk.specs.Legal.{IsLegalFrom}
use Rattle.floor_desk.specs.Accounts.{Account, accepted, account, account_from, counts, due_after, if_event, start, step, tried}
use Rattle.floor_desk.specs.Ending.{AreOfCommit, IsLastCommit}
use Rattle.floor_desk.specs.Standing.{FloorStands}
use Rattle.floor_desk.specs.States.{FloorState}
use Rattle.floor_desk.proofs.Histories.{account_append, legal_after}
use Rattle.floor_desk.specs.declared.receiver.Ends.{Ends}
use Rattle.floor_desk.specs.declared.serve.End.{End}
use Rattle.floor_desk.specs.declared.serve.End.TheVariants as end
use Rattle.floor_desk.specs.Serving.{WasAnswered}
use Rattle.floor_desk.specs.ServingSteps.{AccountIsDone, EndsAccount, IsEndBy, IsLate, IsUnbroken}
use Rattle.floor_desk.specs.Tries.{Attempt, IsAnsweredBehind}

module _ {G : Type 0} where
  -- ---- where no call is pending, no event and no datagram is

  -- the press has taken no more calls than there are; where it has taken all, it has all events and datagrams
  record HasCounted (a : Account G) : Type 0 where
    no_more : a.taken.calls ≤ a.calls
    all : a.calls ≤ a.taken.calls → (a.taken.events ≡ length a.order) × (a.taken.dues ≡ length a.dues)

  by_event : (a : Account G) (answer : Answer) (event : Option Event) (dues : List Send) → HasCounted a
      → HasCounted (record a {
        long = a.long + 1;
        state = state_behind a.state answer;
        order = a.order ++ if_event event;
        dues = a.dues ++ map (due_after (state_behind a.state answer).events) dues;
        calls = a.calls + counts event dues;
      })
  by_event a answer None [] c = record {
    no_more = let n = c.no_more in omega arith;
    all = λ few. let got = c.all (let n = few in omega arith) in (got.0 ∙ ap (λ z. length z) (sym (append-nil a.order)), got.1 ∙ ap (λ z. length z) (sym (append-nil a.dues)));
  }
  by_event a answer None (due ∷ dues) c = record { no_more = let n = c.no_more in omega arith; all = λ few. absurd (let n = c.no_more in let f = few in omega arith) }
  by_event a answer (Some event) [] c = record { no_more = let n = c.no_more in omega arith; all = λ few. absurd (let n = c.no_more in let f = few in omega arith) }
  by_event a answer (Some event) (due ∷ dues) c = record { no_more = let n = c.no_more in omega arith; all = λ few. absurd (let n = c.no_more in let f = few in omega arith) }

  counted_with : (a : Account G) (answer : Answer) → HasCounted a → HasCounted (accepted a answer)
  counted_with a answer c = by_event a answer (event_of answer) (dues_of a.state answer) c

  counted_tried : (a : Account G) (answer : Answer) (result : Result Ticket EnterFault) → HasCounted a → HasCounted (tried a answer result)
  counted_tried a answer (Ok ticket) c = counted_with a answer c
  counted_tried a answer (Err (enters.Full would limit)) c = counted_with a answer c
  counted_tried a answer (Err (enters.Stopped at)) c = record { no_more = c.no_more; all = c.all }
  counted_tried a answer (Err (enters.Behind pending octets)) c = record { no_more = c.no_more; all = c.all }
  counted_tried a answer (Err enters.NoMemory) c = record { no_more = c.no_more; all = c.all }

  counted_step : (a : Account G) (n : ℕ) (e : Entry G) → HasCounted a → HasCounted (step a n e)
  counted_step a n (Happened input moment ticket) c = counted_with a _ c
  counted_step a n (Looked (Tried input moment answer)) c = counted_tried a _ answer c
  counted_step a n (Looked (Refused fault)) c = record { no_more = c.no_more; all = c.all }
  counted_step a n (Looked Closing) c = record { no_more = c.no_more; all = c.all }
  counted_step a n (Taken upto) c = record { no_more = omega arith; all = λ few. (refl, refl) }
  counted_step a n (Returned upto press) c = record { no_more = c.no_more; all = c.all }
  counted_step a n (Failed upto device) c = record { no_more = c.no_more; all = c.all }

  counted_from : (a : Account G) (h : List (ℕ × Entry G)) → HasCounted a → HasCounted (account_from a h)
  counted_from a [] c = c
  counted_from a (e ∷ es) c = counted_from (step a e.0 e.1) es (counted_step a e.0 e.1 c)

  counted : (origin : CoreState × PressState G) (h : List (ℕ × Entry G)) → HasCounted (account origin h)
  counted origin h = counted_from (start origin) h (record { no_more = omega arith; all = λ few. (refl, refl) })

  -- ---- how it ends

  -- what is known behind the last commit
  record IsKnown (b : Account G) (attempts : List Attempt) (tick pump : Result Ticket EnterFault) (ends : Ends) (answered : Bool) : Type 0 where
    works : b.failed ≡ None
    tried : IsTrue ends.no_memory ⊎ All (λ one. IsAnsweredBehind one.last → ⊥) attempts
    answers : IsTrue answered → WasAnswered tick × WasAnswered pump

  unbroken : (b : Account G) (attempts : List Attempt) (tick pump : Result Ticket EnterFault) (ends : Ends) (answered : Bool) (ended : End) → IsKnown b attempts tick pump ends answered → AccountIsDone b → IsUnbroken ends answered ended
      → (l m a : Bool) → ends.link_fault ≡ l → ends.no_memory ≡ m → answered ≡ a → EndsAccount b attempts tick pump ended
  unbroken b attempts tick pump ends answered ended k s u true m a is_l is_m is_a = subst (λ z. EndsAccount b attempts tick pump z) (sym (u.link is_l)) k.works
  unbroken b attempts tick pump ends answered ended k s u false true a is_l is_m is_a = subst (λ z. EndsAccount b attempts tick pump z) (sym (u.short is_l (inl is_m))) k.works
  unbroken b attempts tick pump ends answered ended k s u false false false is_l is_m is_a = subst (λ z. EndsAccount b attempts tick pump z) (sym (u.short is_l (inr is_a))) k.works
  unbroken b attempts tick pump ends answered ended k s u false false true is_l is_m is_a =
      let both = k.answers is_a in
      let all : All (λ (one : Attempt). IsAnsweredBehind one.last → ⊥) attempts = ⊎_elim (λ is. absurd (true≢false (sym is ∙ is_m))) (λ all. all) k.tried in
      subst (λ z. EndsAccount b attempts tick pump z) (sym (u.well is_l is_m is_a)) (k.works, all, both.0, both.1, s)

  late : (b : Account G) (attempts : List Attempt) (tick pump : Result Ticket EnterFault) (ends : Ends) (ended : End) → b.failed ≡ None → IsLate ends ended → (l : Bool) → ends.link_fault ≡ l → EndsAccount b attempts tick pump ended
  late b attempts tick pump ends ended works u true is_l = subst (λ z. EndsAccount b attempts tick pump z) (sym (u.0 is_l)) works
  late b attempts tick pump ends ended works u false is_l = subst (λ z. EndsAccount b attempts tick pump z) (sym (u.1 is_l)) works

  -- the account behind some entries more
  behind : (origin : CoreState × PressState G) (h es fs : List (ℕ × Entry G)) → es ≡ fs → account origin (h ++ es) ≡ account_from (account origin h) fs
  behind origin h es fs is = account_append (start origin) h es ∙ ap (λ z. account_from (account origin h) z) is

  by_answer : (told : G → Option Told) (size disk_faults emit_faults : G → ℕ) (floor : FloorState G) (h es : List (ℕ × Entry G)) (n : ℕ) (answer : Result ℕ CommitFault) (attempts : List Attempt) (tick pump : Result Ticket EnterFault) (ends : Ends) (answered : Bool) (ended : End)
      → FloorStands told size disk_faults emit_faults floor h → AreOfCommit (account floor.origin h) n es answer → IsLegalFrom told size disk_faults emit_faults floor.origin (account floor.origin h) es → (IsTrue ends.no_memory ⊎ All (λ one. IsAnsweredBehind one.last → ⊥) attempts) → (IsTrue answered → WasAnswered tick × WasAnswered pump)
      → IsEndBy ends answered answer ended → EndsAccount (account floor.origin (h ++ es)) attempts tick pump ended
  by_answer told size disk_faults emit_faults floor h es n (Ok upto) attempts tick pump ends answered ended stands are legal tried answers is =
      let a : Account G = account floor.origin h in
      let fs : List (ℕ × Entry G) = (n, Taken upto) ∷ ((n, Returned upto are.1) ∷ []) in
      let l = (subst (λ z. IsLegalFrom told size disk_faults emit_faults floor.origin a z) are.2 legal).0 in
      subst (λ (b : Account G). EndsAccount b attempts tick pump ended) (sym (behind floor.origin h es fs are.2))
      (unbroken (account_from a fs) attempts tick pump ends answered ended (record { works = l.0; tried = tried; answers = answers }) (record { written = are.0; sent = refl }) is ends.link_fault ends.no_memory answered refl refl refl)
  by_answer told size disk_faults emit_faults floor h es n (Err commits.DiskFault) attempts tick pump ends answered ended stands are legal tried answers is =
      let a : Account G = account floor.origin h in
      let fs : List (ℕ × Entry G) = (n, Taken are.0) ∷ ((n, Failed are.0 are.2) ∷ []) in
      subst (λ (b : Account G). EndsAccount b attempts tick pump ended) (sym (behind floor.origin h es fs are.3))
      (subst (λ z. EndsAccount (account_from a fs) attempts tick pump z) (sym is) ((a.long + 1) + 1, refl))
  by_answer told size disk_faults emit_faults floor h es n (Err (commits.Stopped at)) attempts tick pump ends answered ended stands are legal tried answers is =
      let a : Account G = account floor.origin h in
      let fs : List (ℕ × Entry G) = (n, Looked (Refused (commits.Stopped at))) ∷ [] in
      let l = (subst (λ z. IsLegalFrom told size disk_faults emit_faults floor.origin a z) are legal).0 in
      subst (λ (b : Account G). EndsAccount b attempts tick pump ended) (sym (behind floor.origin h es fs are))
      (subst (λ z. EndsAccount (account_from a fs) attempts tick pump z) (sym is) (at, l))
  by_answer told size disk_faults emit_faults floor h es n (Err (commits.Busy at upto)) attempts tick pump ends answered ended stands are legal tried answers is = absurd are
  by_answer told size disk_faults emit_faults floor h es n (Err (commits.Nothing upto)) attempts tick pump ends answered ended stands are legal tried answers is =
      let a : Account G = account floor.origin h in
      let fs : List (ℕ × Entry G) = (n, Looked (Refused (commits.Nothing upto))) ∷ [] in
      let l = (subst (λ z. IsLegalFrom told size disk_faults emit_faults floor.origin a z) are legal).0 in
      let all = (counted floor.origin h).all l.2 in
      let f = stands.shows.fronts in
      let home = f.home l.1 l.0 in
      let c = stands.shows.course in
      subst (λ (b : Account G). EndsAccount b attempts tick pump ended) (sym (behind floor.origin h es fs are))
      (unbroken (account_from a fs) attempts tick pump ends answered ended (record { works = l.0; tried = tried; answers = answers })
      (record { written = home.1 ∙ (ap (λ z. floor.origin.0.events + z) all.0 ∙ sym c.events); sent = ap (λ z. z.dues) home.0 ∙ all.1 }) is ends.link_fault ends.no_memory answered refl refl refl)
  by_answer told size disk_faults emit_faults floor h es n (Err commits.NoMemory) attempts tick pump ends answered ended stands are legal tried answers is =
      let a : Account G = account floor.origin h in
      let fs : List (ℕ × Entry G) = (n, Looked (Refused commits.NoMemory)) ∷ [] in
      let l = (subst (λ z. IsLegalFrom told size disk_faults emit_faults floor.origin a z) are legal).0 in
      subst (λ (b : Account G). EndsAccount b attempts tick pump ended) (sym (behind floor.origin h es fs are)) (late (account_from a fs) attempts tick pump ends ended l.0 is ends.link_fault refl)

  pub ends_so : (told : G → Option Told) (size disk_faults emit_faults : G → ℕ) (floor after : FloorState G) (h : List (ℕ × Entry G)) (n : ℕ) (answer : Result ℕ CommitFault) (attempts : List Attempt) (tick pump : Result Ticket EnterFault) (ends : Ends) (answered : Bool) (ended : End)
      → FloorStands told size disk_faults emit_faults floor h → (c : IsLastCommit told size disk_faults emit_faults floor after h n answer) → after.origin ≡ floor.origin → (IsTrue ends.no_memory ⊎ All (λ one. IsAnsweredBehind one.last → ⊥) attempts) → (IsTrue answered → WasAnswered tick × WasAnswered pump)
      → IsEndBy ends answered answer ended → EndsAccount (account floor.origin (h ++ c.entries)) attempts tick pump ended
  ends_so told size disk_faults emit_faults floor after h n answer attempts tick pump ends answered ended stands c same tried answers is =
      let legal : IsLegalFrom told size disk_faults emit_faults floor.origin (account floor.origin h) c.entries = legal_after told size disk_faults emit_faults floor.origin (start floor.origin) h c.entries (subst (λ (o : CoreState × PressState G). IsLegalFrom told size disk_faults emit_faults o (start o) (h ++ c.entries)) same c.stands.legal) in
      by_answer told size disk_faults emit_faults floor h c.entries n answer attempts tick pump ends answered ended stands c.are legal tried answers is

-- ---- what an end tells of the receiver

abbrev IsDone : End → Type 0
IsDone end.Done = Unit {0}
IsDone end.DiskFault = ⊥
IsDone end.LinkFault = ⊥
IsDone end.NoMemory = ⊥

abbrev IsLink : End → Type 0
IsLink end.Done = ⊥
IsLink end.DiskFault = ⊥
IsLink end.LinkFault = Unit {0}
IsLink end.NoMemory = ⊥

done_unbroken : (ends : Ends) (answered : Bool) (ended : End) → IsUnbroken ends answered ended → ended ≡ end.Done → (l m : Bool) → ends.link_fault ≡ l → ends.no_memory ≡ m → (ends.link_fault ≡ false) × (ends.no_memory ≡ false)
done_unbroken ends answered ended u done true m is_l is_m = absurd (subst IsDone (sym done ∙ u.link is_l) tt)
done_unbroken ends answered ended u done false true is_l is_m = absurd (subst IsDone (sym done ∙ u.short is_l (inl is_m)) tt)
done_unbroken ends answered ended u done false false is_l is_m = (is_l, is_m)

done_late : (ends : Ends) (ended : End) → IsLate ends ended → ended ≡ end.Done → (l : Bool) → ends.link_fault ≡ l → (ends.link_fault ≡ false) × (ends.no_memory ≡ false)
done_late ends ended u done true is_l = absurd (subst IsDone (sym done ∙ u.0 is_l) tt)
done_late ends ended u done false is_l = absurd (subst IsDone (sym done ∙ u.1 is_l) tt)

-- Done, neither the link failed nor was memory refused
pub done_all : (ends : Ends) (answered : Bool) (answer : Result ℕ CommitFault) (ended : End) → IsEndBy ends answered answer ended → ended ≡ end.Done → (ends.link_fault ≡ false) × (ends.no_memory ≡ false)
done_all ends answered (Ok upto) ended is done = done_unbroken ends answered ended is done ends.link_fault ends.no_memory refl refl
done_all ends answered (Err commits.DiskFault) ended is done = absurd (subst IsDone (sym done ∙ is) tt)
done_all ends answered (Err (commits.Stopped at)) ended is done = absurd (subst IsDone (sym done ∙ is) tt)
done_all ends answered (Err (commits.Nothing upto)) ended is done = done_unbroken ends answered ended is done ends.link_fault ends.no_memory refl refl
done_all ends answered (Err (commits.Busy at upto)) ended is done = done_late ends ended is done ends.link_fault refl
done_all ends answered (Err commits.NoMemory) ended is done = done_late ends ended is done ends.link_fault refl

link_unbroken : (ends : Ends) (answered : Bool) (ended : End) → IsUnbroken ends answered ended → ended ≡ end.LinkFault → (l m a : Bool) → ends.link_fault ≡ l → ends.no_memory ≡ m → answered ≡ a → IsTrue ends.link_fault
link_unbroken ends answered ended u link true m a is_l is_m is_a = is_l
link_unbroken ends answered ended u link false true a is_l is_m is_a = absurd (subst IsLink (sym link ∙ u.short is_l (inl is_m)) tt)
link_unbroken ends answered ended u link false false false is_l is_m is_a = absurd (subst IsLink (sym link ∙ u.short is_l (inr is_a)) tt)
link_unbroken ends answered ended u link false false true is_l is_m is_a = absurd (subst IsLink (sym link ∙ u.well is_l is_m is_a) tt)

link_late : (ends : Ends) (ended : End) → IsLate ends ended → ended ≡ end.LinkFault → (l : Bool) → ends.link_fault ≡ l → IsTrue ends.link_fault
link_late ends ended u link true is_l = is_l
link_late ends ended u link false is_l = absurd (subst IsLink (sym link ∙ u.1 is_l) tt)

-- with LinkFault the link failed
pub link_only : (ends : Ends) (answered : Bool) (answer : Result ℕ CommitFault) (ended : End) → IsEndBy ends answered answer ended → ended ≡ end.LinkFault → IsTrue ends.link_fault
link_only ends answered (Ok upto) ended is link = link_unbroken ends answered ended is link ends.link_fault ends.no_memory answered refl refl refl
link_only ends answered (Err commits.DiskFault) ended is link = absurd (subst IsLink (sym link ∙ is) tt)
link_only ends answered (Err (commits.Stopped at)) ended is link = absurd (subst IsLink (sym link ∙ is) tt)
link_only ends answered (Err (commits.Nothing upto)) ended is link = link_unbroken ends answered ended is link ends.link_fault ends.no_memory answered refl refl refl
link_only ends answered (Err (commits.Busy at upto)) ended is link = link_late ends ended is link ends.link_fault refl
link_only ends answered (Err commits.NoMemory) ended is link = link_late ends ended is link ends.link_fault refl
