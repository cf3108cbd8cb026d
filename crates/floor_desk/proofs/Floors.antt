-- A floor after one turn more.
use Rattle.std.proofs.Common.{◌≡◌, ◌≢◌, inl, inr, ℕ, ◌+◌, ◌-◌, ◌≤◌, ◌<◌, List, [], ◌∷◌, ◌++◌, length, map, refl, sym, ap, ◌∙◌, subst, arith}
use Rattle.std.specs.Prelude.{Option, Some, None, Result, Ok, Err, IfOk, IfErr}
use Rattle.bac_values.specs.Limits.{most_pending_calls}
use Rattle.std.proofs.lemmas.List.{drop_all, take_all}
use Rattle.std.proofs.lemmas.List.Elements.{All-nil}
use Rattle.ground_io.specs.Trace.{Told}
use Rattle.bac_values.specs.declared.input.Input.{Input}
use Rattle.noted.specs.declared.noted.Noted.{Noted}
use Rattle.alarm_core.specs.Fits.{FitsEvent}
use Rattle.alarm_core.specs.State.{CoreState}
use Rattle.alarm_journal.specs.Press.{PressState, room_of}
use Rattle.service_desk.specs.Answers.{Answer, Entered, Full, Refused, Replied, Unchanged, Ignored, answer_to}
use Rattle.state_codec.specs.Contents.{records_of}
use Rattle.state_codec.specs.Records.{HasRecord}
use Rattle.floor_desk.specs.declared.entry.Entry.{Entry}
use Rattle.floor_desk.specs.declared.entry.Entry.TheVariants.{Looked, Taken, Returned, Failed}
use Rattle.floor_desk.specs.declared.entry.Kind.TheVariants as kinds
use Rattle.floor_desk.specs.declared.entry.Look.TheVariants.{Tried, Refused as Denied, Closing}
use Rattle.floor_desk.specs.declared.entry.Ticket.{Ticket}
use Rattle.floor_desk.specs.declared.faults.CommitFault.{CommitFault}
use Rattle.floor_desk.specs.declared.faults.CommitFault.TheVariants as commits
use Rattle.floor_desk.specs.declared.faults.EnterFault.{EnterFault}
use Rattle.floor_desk.specs.declared.faults.EnterFault.TheVariants as enters
use Rattle.floor_desk.specs.declared.load.Carried.{Carried}
use Rattle.floor_desk.specs.declared.load.Carried.TheVariants.{Home as HomeAgain, Broken as Gone}
use Rattle.floor_desk.specs.declared.load.Load.{Load}
use Rattle.floor_desk.specs.declared.floor.Spot.{Spot}
use Rattle.floor_desk.specs.declared.floor.Spot.TheVariants.{Home, Out, Broken}
use Rattle.floor_desk.specs.Accounts.{Account, Due, IsBehind, IsDenied, IsOpen, IsTicketOf, Loan, accepted, account, account_from, entry_for, front_of, looked, start, step, ticket_for, most_pending_octets}
use Rattle.state_codec.specs.Work.{IsWorkOf}
use Rattle.floor_desk.specs.Carrying.{IsCarriedOut, Lends}
use Rattle.floor_desk.specs.Moves.{Hinders, IsNotBroken}
use Rattle.floor_desk.specs.MovesSteps.{Accepts, CameOf, NeedsCommit, IsLentBy, IsReady, MayEnter, Refuses, lent, with_answer}
use Rattle.state_codec.specs.Keeping.{HoldsHistory}
use Rattle.floor_desk.specs.Prefixes.{CountsLost, HasLost, RestsOn, with_first, capped}
use Rattle.floor_desk.specs.Holding.{HoldsOrder, pending_events}
use Rattle.floor_desk.specs.Legal.{IsLegalFrom, MayComeNext}
use Rattle.floor_desk.specs.Standing.{FloorStands, ShowsAccount, Stands}
use Rattle.floor_desk.specs.States.{FloorState}
use Rattle.floor_desk.proofs.Growing.{carried_at, carried_still, course_same, fronts_taken, shows_accepted, shows_looked}
use Rattle.floor_desk.proofs.Histories.{IsStill, account_append, account_snoc, legal_after, legal_snoc, long_is, still_open}
use Rattle.floor_desk.proofs.Emissions.{counts_both, counts_none}
use Rattle.floor_desk.proofs.Prefixes.{keeps_now, lost_both, lost_none}

loan_is : (x y : Loan) → Some x ≡ Some y → x ≡ y
loan_is x y same = cc

some_is : (x y : Ticket) → Some x ≡ Some y → x ≡ y
some_is x y same = cc

module _ {G : Type 0} (told : G → Option Told) (size disk_faults emit_faults : G → ℕ) where
  -- an entry may follow, and the floor is what the account comes to with it
  pub follows : (old new : FloorState G) (h : List (ℕ × Entry G)) (n : ℕ) (e : Entry G) → new.origin ≡ old.origin → FloorStands told size disk_faults emit_faults old h
      → MayComeNext told size disk_faults emit_faults old.origin (account old.origin h) n e → ShowsAccount told size disk_faults emit_faults new (step (account old.origin h) n e) → FloorStands told size disk_faults emit_faults new (h ++ (n, e) ∷ [])
  follows old new h n e same f may shows =
      let is : step (account old.origin h) n e ≡ account new.origin (h ++ (n, e) ∷ []) = sym (account_snoc (start old.origin) h (n, e)) ∙ ap (λ o. account o (h ++ (n, e) ∷ [])) (sym same) in record {
        legal = subst (λ (o : CoreState × PressState G). IsLegalFrom told size disk_faults emit_faults o (start o) (h ++ (n, e) ∷ [])) (sym same) (legal_snoc told size disk_faults emit_faults old.origin (start old.origin) h (n, e) f.legal may);
        shows = subst (λ (a : Account G). ShowsAccount told size disk_faults emit_faults new a) is shows;
      }

  -- ---- an input

  -- a spot that isn't broken
  not_failed : (origin : CoreState × PressState G) (a : Account G) (lost : ℕ) (spot : Spot G) → IsNotBroken spot → Stands told size disk_faults emit_faults origin a lost spot → a.failed ≡ None
  not_failed origin a lost (Home press) not here = here.1
  not_failed origin a lost (Out place upto) not here = here.0
  not_failed origin a lost (Broken device place) not here = absurd not

  not_behind : (floor : FloorState G) (a : Account G) → ShowsAccount told size disk_faults emit_faults floor a → floor.calls < most_pending_calls → length floor.records ≤ most_pending_octets → IsBehind a → ⊥
  not_behind floor a s few short (inl many) = absurd (omega (arith, s.calls, few, many))
  not_behind floor a s few short (inr long) = absurd (omega (arith, ap (λ (l : List ℕ). length l) s.records, short, long))

  is_open : (floor : FloorState G) (a : Account G) → ShowsAccount told size disk_faults emit_faults floor a → IsReady floor → IsOpen a
  is_open floor a s ready = record { works = not_failed floor.origin a floor.lost floor.spot ready.works s.spot; ahead = not_behind floor a s ready.calls ready.records }

  is_behind : (floor : FloorState G) (a : Account G) → ShowsAccount told size disk_faults emit_faults floor a → NeedsCommit floor → IsBehind a
  is_behind floor a s (inl many) = inl (omega (arith, s.calls, many))
  is_behind floor a s (inr long) = inr (omega (arith, ap (λ (l : List ℕ). length l) s.records, long))

  -- an answer that was taken, in the account
  taken_in : (old new : FloorState G) (a : Account G) (answer : Answer) → ShowsAccount told size disk_faults emit_faults old a → Accepts old new answer → ShowsAccount told size disk_faults emit_faults new (accepted a answer)
  taken_in old new a answer s acc =
      let may : MayEnter a.state answer = subst (λ (c : CoreState). MayEnter c answer) s.core acc.enters in
      let is : new ≡ with_answer a.state old answer = subst (λ (c : CoreState). new ≡ with_answer c old answer) s.core acc.with_it in
      subst (λ (f : FloorState G). ShowsAccount told size disk_faults emit_faults f (accepted a answer)) (sym is) (shows_accepted told size disk_faults emit_faults old a answer may s)

  -- the entry of an input that was taken
  ticket_follows : (origin : CoreState × PressState G) (a : Account G) (n moment : ℕ) (input : Noted Input) (answer : Answer) → answer ≡ answer_to a.state input.value moment → IsOpen a → (ticket : Ticket) → IsTicketOf a.state.events answer ticket
      → MayComeNext told size disk_faults emit_faults origin a n (entry_for input moment (Ok ticket)) × (step a n (entry_for input moment (Ok ticket)) ≡ accepted a answer)
  ticket_follows origin a n moment input (Entered event reply) is opened ticket of =
      subst (λ (t : Ticket). MayComeNext told size disk_faults emit_faults origin a n (entry_for input moment (Ok t)) × (step a n (entry_for input moment (Ok t)) ≡ accepted a (Entered event reply))) (sym of)
      (record { looked_at = opened; event = event; reply = reply; answer_is = sym is; ticket_is = refl }, ap (λ (x : Answer). accepted a x) (sym is))
  ticket_follows origin a n moment input (Full would limit reply) is opened ticket of = absurd cc
  ticket_follows origin a n moment input (Refused why) is opened ticket of =
      let t : Ticket = record { number = a.state.events; kind = kinds.Refused why } in
      subst (λ (t : Ticket). MayComeNext told size disk_faults emit_faults origin a n (entry_for input moment (Ok t)) × (step a n (entry_for input moment (Ok t)) ≡ accepted a (Refused why))) (some_is t ticket of)
      ((opened, ap (λ (x : Answer). ticket_for a.state.events x) (sym is)), ap (λ (x : Answer). accepted a x) (sym is))
  ticket_follows origin a n moment input (Replied send) is opened ticket of =
      let t : Ticket = record { number = a.state.events; kind = kinds.Replied } in
      subst (λ (t : Ticket). MayComeNext told size disk_faults emit_faults origin a n (entry_for input moment (Ok t)) × (step a n (entry_for input moment (Ok t)) ≡ accepted a (Replied send))) (some_is t ticket of)
      ((opened, ap (λ (x : Answer). ticket_for a.state.events x) (sym is)), ap (λ (x : Answer). accepted a x) (sym is))
  ticket_follows origin a n moment input Unchanged is opened ticket of =
      let t : Ticket = record { number = a.state.events; kind = kinds.Idle } in
      subst (λ (t : Ticket). MayComeNext told size disk_faults emit_faults origin a n (entry_for input moment (Ok t)) × (step a n (entry_for input moment (Ok t)) ≡ accepted a Unchanged)) (some_is t ticket of)
      ((opened, ap (λ (x : Answer). ticket_for a.state.events x) (sym is)), ap (λ (x : Answer). accepted a x) (sym is))
  ticket_follows origin a n moment input Ignored is opened ticket of =
      let t : Ticket = record { number = a.state.events; kind = kinds.Ignored } in
      subst (λ (t : Ticket). MayComeNext told size disk_faults emit_faults origin a n (entry_for input moment (Ok t)) × (step a n (entry_for input moment (Ok t)) ≡ accepted a Ignored)) (some_is t ticket of)
      ((opened, ap (λ (x : Answer). ticket_for a.state.events x) (sym is)), ap (λ (x : Answer). accepted a x) (sym is))

  -- what came of an input that was looked at
  pub comes : (old new : FloorState G) (h : List (ℕ × Entry G)) (n moment : ℕ) (input : Noted Input) (result : Result Ticket EnterFault) → new.origin ≡ old.origin → FloorStands told size disk_faults emit_faults old h → IsReady old
      → CameOf old new (answer_to old.core input.value moment) result → FloorStands told size disk_faults emit_faults new (h ++ (n, entry_for input moment result) ∷ [])
  comes old new h n moment input (Ok ticket) same f ready came =
      let a : Account G = account old.origin h in
      let answer : Answer = answer_to old.core input.value moment in
      let is : answer ≡ answer_to a.state input.value moment = ap (λ (c : CoreState). answer_to c input.value moment) f.shows.core in
      let of : IsTicketOf a.state.events answer ticket = subst (λ (c : CoreState). IsTicketOf c.events answer ticket) f.shows.core came.1 in
      let may = ticket_follows old.origin a n moment input answer is (is_open old a f.shows ready) ticket of in
      follows old new h n (entry_for input moment (Ok ticket)) same f may.0 (subst (λ (b : Account G). ShowsAccount told size disk_faults emit_faults new b) (sym may.1) (taken_in old new a answer f.shows came.0))
  comes old new h n moment input (Err (enters.Full would limit)) same f ready came =
      let a : Account G = account old.origin h in
      let answer : Answer = answer_to old.core input.value moment in
      let is : answer ≡ answer_to a.state input.value moment = ap (λ (c : CoreState). answer_to c input.value moment) f.shows.core in
      follows old new h n (Looked (Tried input moment (Err (enters.Full would limit)))) same f (is_open old a f.shows ready, came.1, sym is ∙ came.2)
      (subst (λ (x : Answer). ShowsAccount told size disk_faults emit_faults new (accepted a x)) is (taken_in old new a answer f.shows came.0))
  comes old new h n moment input (Err enters.NoMemory) same f ready came =
      let a : Account G = account old.origin h in
      follows old new h n (Looked (Tried input moment (Err enters.NoMemory))) same f (is_open old a f.shows ready) (subst (λ (x : FloorState G). ShowsAccount told size disk_faults emit_faults x (looked a)) (sym came) (shows_looked told size disk_faults emit_faults old a f.shows))
  comes old new h n moment input (Err (enters.Stopped at)) same f ready came = absurd came
  comes old new h n moment input (Err (enters.Behind pending octets)) same f ready came = absurd came

  -- it leaves the origin
  pub comes_origin : (old new : FloorState G) (answer : Answer) (result : Result Ticket EnterFault) → CameOf old new answer result → new.origin ≡ old.origin
  comes_origin old new answer (Ok ticket) came = ap (λ (x : FloorState G). x.origin) came.0.with_it
  comes_origin old new answer (Err (enters.Full would limit)) came = ap (λ (x : FloorState G). x.origin) came.0.with_it
  comes_origin old new answer (Err enters.NoMemory) came = ap (λ (x : FloorState G). x.origin) came
  comes_origin old new answer (Err (enters.Stopped at)) came = absurd came
  comes_origin old new answer (Err (enters.Behind pending octets)) came = absurd came

  broken_at : (origin : CoreState × PressState G) (a : Account G) (lost : ℕ) (spot : Spot G) (device : G) (at : ℕ) → spot ≡ Broken device at → Stands told size disk_faults emit_faults origin a lost spot → a.failed ≡ Some at
  broken_at origin a lost spot device at is here = (subst (λ (s : Spot G). Stands told size disk_faults emit_faults origin a lost s) is here).1

  -- an input that isn't looked at
  pub refuses : (floor : FloorState G) (h : List (ℕ × Entry G)) (n moment : ℕ) (input : Noted Input) (fault : EnterFault) → FloorStands told size disk_faults emit_faults floor h → Refuses floor fault → FloorStands told size disk_faults emit_faults floor (h ++ (n, entry_for input moment (Err fault)) ∷ [])
  refuses floor h n moment input (enters.Stopped at) f why =
      let a : Account G = account floor.origin h in
      follows floor floor h n (Looked (Tried input moment (Err (enters.Stopped at)))) refl f (broken_at floor.origin a floor.lost floor.spot why.0 at why.1 f.shows.spot) (shows_looked told size disk_faults emit_faults floor a f.shows)
  refuses floor h n moment input (enters.Behind pending octets) f why =
      let a : Account G = account floor.origin h in
      follows floor floor h n (Looked (Tried input moment (Err (enters.Behind pending octets)))) refl f
      (not_failed floor.origin a floor.lost floor.spot why.0 f.shows.spot, is_behind floor a f.shows why.1, why.2 ∙ f.shows.calls, why.3 ∙ ap (λ (l : List ℕ). length l) f.shows.records) (shows_looked told size disk_faults emit_faults floor a f.shows)
  refuses floor h n moment input (enters.Full would limit) f why = absurd why
  refuses floor h n moment input enters.NoMemory f why = absurd why

  -- ---- a commit that is refused

  pub looks : (floor : FloorState G) (h : List (ℕ × Entry G)) (n : ℕ) (fault : CommitFault) → FloorStands told size disk_faults emit_faults floor h → IsDenied (account floor.origin h) fault → FloorStands told size disk_faults emit_faults floor (h ++ (n, Looked (Denied fault)) ∷ [])
  looks floor h n fault f why = follows floor floor h n (Looked (Denied fault)) refl f why (shows_looked told size disk_faults emit_faults floor (account floor.origin h) f.shows)

  pub closes : (floor : FloorState G) (h : List (ℕ × Entry G)) (n : ℕ) (loan : Loan) → FloorStands told size disk_faults emit_faults floor h → (account floor.origin h).loan ≡ Some loan → FloorStands told size disk_faults emit_faults floor (h ++ (n, Looked Closing) ∷ [])
  closes floor h n loan f out = follows floor floor h n (Looked Closing) refl f (loan, out) (shows_looked told size disk_faults emit_faults floor (account floor.origin h) f.shows)

  -- what a spot tells of the account
  at_spot : (floor : FloorState G) (a : Account G) (spot : Spot G) → floor.spot ≡ spot → ShowsAccount told size disk_faults emit_faults floor a → Stands told size disk_faults emit_faults floor.origin a floor.lost spot
  at_spot floor a spot is s = subst (λ (x : Spot G). Stands told size disk_faults emit_faults floor.origin a floor.lost x) is s.spot

  pub busy : (floor : FloorState G) (h : List (ℕ × Entry G)) (at upto : ℕ) → floor.spot ≡ Out at upto → FloorStands told size disk_faults emit_faults floor h → IsDenied (account floor.origin h) (commits.Busy at upto)
  busy floor h at upto is f = (let here = at_spot floor (account floor.origin h) (Out at upto) is f.shows in (here.1, here.2))

  pub stopped : (floor : FloorState G) (h : List (ℕ × Entry G)) (device : G) (at : ℕ) → floor.spot ≡ Broken device at → FloorStands told size disk_faults emit_faults floor h → IsDenied (account floor.origin h) (commits.Stopped at)
  stopped floor h device at is f = (at_spot floor (account floor.origin h) (Broken device at) is f.shows).1

  pub idle : (floor : FloorState G) (h : List (ℕ × Entry G)) (press : PressState G) → floor.spot ≡ Home press → floor.calls ≡ 0 → FloorStands told size disk_faults emit_faults floor h → IsDenied (account floor.origin h) (commits.Nothing floor.core.events)
  idle floor h press is none f =
      let here = at_spot floor (account floor.origin h) (Home press) is f.shows in
      (here.1, here.0, omega (arith, none, f.shows.calls), ap (λ (c : CoreState). c.events) f.shows.core)

  pub waits : (floor : FloorState G) (h : List (ℕ × Entry G)) (press : PressState G) → floor.spot ≡ Home press → floor.calls ≢ 0 → FloorStands told size disk_faults emit_faults floor h → IsDenied (account floor.origin h) commits.NoMemory
  waits floor h press is some f =
      let here = at_spot floor (account floor.origin h) (Home press) is f.shows in (here.1, here.0, omega (arith, some, f.shows.calls))

  -- ---- the press leaves

  shows_taken : (floor : FloorState G) (a : Account G) (n place : ℕ) (press : PressState G) → floor.spot ≡ Home press → place ≡ a.long + 1 → ShowsAccount told size disk_faults emit_faults floor a → ShowsAccount told size disk_faults emit_faults (lent floor place) (step a n (Taken floor.core.events))
  shows_taken floor a n place press is at s =
      let b : Account G = step a n (Taken floor.core.events) in
      let upto : floor.core.events ≡ floor.origin.0.events + length a.order = ap (λ (c : CoreState). c.events) s.core ∙ s.course.events in
      let here = at_spot floor a (Home press) is s in record {
        core = s.core;
        records = ap records_of (sym (drop_all (length a.order) a.order (omega arith)));
        sends = ap (λ (l : List Due). map (λ due. due.send) l) (sym (drop_all (length a.dues) a.dues (omega arith)));
        calls = omega arith;
        durable = s.durable;
        spot = (here.1, n, ap (λ (z : ℕ). Some record { number = n; place = z; upto = floor.core.events }) (sym at));
        holds = s.holds;
        lost = s.lost;
        counted = s.counted;
        sized = s.sized;
        course = course_same floor.origin a b refl refl refl s.course;
        fronts = record {
          events = omega arith;
          dues = omega arith;
          calls = omega arith;
          rests = subst (λ (l : List Due). RestsOn (floor.origin.0.events + length a.order) l) (sym (take_all (length a.dues) a.dues (omega arith))) (subst (λ (k : ℕ). RestsOn k a.dues) s.course.events s.course.rests);
          lent = λ loan out. ap (λ (l : Loan). l.upto) (sym (loan_is _ loan out)) ∙ upto;
          home = λ none works. absurd (cc);
          back = omega (arith, s.fronts.back, s.fronts.dues);
          first = s.fronts.first;
          durable = omega (arith, s.fronts.durable, s.fronts.events);
        };
      }

  -- its load is what the account lends
  pub lends : (old new : FloorState G) (h : List (ℕ × Entry G)) (n place : ℕ) (load : Load G) → IsLentBy old new place load → place ≡ length h + 1 → FloorStands told size disk_faults emit_faults old h
      → Lends told old.origin (account old.origin h) load × FloorStands told size disk_faults emit_faults new (h ++ (n, Taken load.upto) ∷ [])
  lends old new h n place load is at f =
      let a : Account G = account old.origin h in
      let here = at_spot old a (Home load.press) is.home f.shows in
      let long = long_is (start old.origin) h in
      let denied = waits old h load.press is.home is.some f in
      let next : FloorStands told size disk_faults emit_faults new (h ++ (n, Taken old.core.events) ∷ []) =
      follows old new h n (Taken old.core.events) (ap (λ (x : FloorState G). x.origin) is.left) f (here.1, here.0, denied.2, ap (λ (c : CoreState). c.events) f.shows.core)
      (subst (λ (x : FloorState G). ShowsAccount told size disk_faults emit_faults x (step a n (Taken old.core.events))) (sym is.left) (shows_taken old a n place load.press is.home (omega (arith, long, at)) f.shows)) in (
        record {
          none = here.0;
          works = here.1;
          upto = is.upto ∙ ap (λ (c : CoreState). c.events) f.shows.core;
          press = here.2;
          sends = is.sends ∙ f.shows.sends;
          work = subst (λ (c : CoreState). IsWorkOf c (records_of (pending_events a)) (room_of load.press.layout) load.work) f.shows.core (subst (λ (l : List ℕ). IsWorkOf old.core l (room_of load.press.layout) load.work) f.shows.records is.work);
          holds = f.shows.holds;
          course = f.shows.course;
          fronts = f.shows.fronts;
        },
        subst (λ (u : ℕ). FloorStands told size disk_faults emit_faults new (h ++ (n, Taken u) ∷ [])) (sym is.upto) next,
      )

  -- a commit that is refused
  pub hinders : (floor : FloorState G) (h : List (ℕ × Entry G)) (n : ℕ) (fault : CommitFault) → FloorStands told size disk_faults emit_faults floor h → Hinders floor fault → FloorStands told size disk_faults emit_faults floor (h ++ (n, Looked (Denied fault)) ∷ [])
  hinders floor h n (commits.Stopped at) f why = looks floor h n (commits.Stopped at) f (stopped floor h why.0 at why.1 f)
  hinders floor h n (commits.Busy at upto) f why = looks floor h n (commits.Busy at upto) f (busy floor h at upto why f)
  hinders floor h n (commits.Nothing upto) f why = looks floor h n (commits.Nothing upto) f (let i = idle floor h why.0 why.1 why.2 f in (i.0, i.1, i.2, why.3 ∙ i.3))
  hinders floor h n commits.NoMemory f why = looks floor h n commits.NoMemory f (waits floor h why.0 why.1 why.2 f)
  hinders floor h n commits.DiskFault f why = absurd why

  -- what became of a commit at its turn
  pub lent_by : (old new : FloorState G) (place : ℕ) (result : Result (Load G) CommitFault) → IfOk result (λ load. IsLentBy old new place load)
      → IfOk result (λ load. (h : List (ℕ × Entry G)) (n : ℕ) → place ≡ length h + 1 → FloorStands told size disk_faults emit_faults old h → Lends told old.origin (account old.origin h) load × FloorStands told size disk_faults emit_faults new (h ++ (n, Taken load.upto) ∷ []))
  lent_by old new place (Ok load) is = λ h n at f. lends old new h n place load is at f
  lent_by old new place (Err fault) is = tt

  pub refused_by : (old new : FloorState G) (result : Result (Load G) CommitFault) → IfErr result (λ fault. (new ≡ old) × Hinders old fault)
      → IfErr result (λ fault. (h : List (ℕ × Entry G)) (n : ℕ) → FloorStands told size disk_faults emit_faults old h → FloorStands told size disk_faults emit_faults new (h ++ (n, Looked (Denied fault)) ∷ []))
  refused_by old new (Ok load) is = tt
  refused_by old new (Err fault) is = λ h n f. subst (λ (x : FloorState G). FloorStands told size disk_faults emit_faults x (h ++ (n, Looked (Denied fault)) ∷ [])) (sym is.0) (hinders old h n fault f is.1)

  pub same_by : (old new : FloorState G) (result : Result (Load G) CommitFault) → IfErr result (λ fault. (new ≡ old) × Hinders old fault) → IfErr result (λ fault. new ≡ old)
  same_by old new (Ok load) is = tt
  same_by old new (Err fault) is = is.0

  pub out_by : (old new : FloorState G) (place : ℕ) (result : Result (Load G) CommitFault) → IfOk result (λ load. IsLentBy old new place load) → IfOk result (λ load. new.spot ≡ Out place load.upto)
  out_by old new place (Ok load) is = ap (λ (x : FloorState G). x.spot) is.left ∙ ap (λ (u : ℕ). Out place u) (sym is.upto)
  out_by old new place (Err fault) is = tt

  pub hinders_by : (old new : FloorState G) (result : Result (Load G) CommitFault) → IfErr result (λ fault. (new ≡ old) × Hinders old fault) → IfErr result (λ fault. Hinders old fault)
  hinders_by old new (Ok load) is = tt
  hinders_by old new (Err fault) is = is.1

  pub origin_by : (old new : FloorState G) (place : ℕ) (result : Result (Load G) CommitFault) → IfOk result (λ load. IsLentBy old new place load) → IfErr result (λ fault. (new ≡ old) × Hinders old fault) → new.origin ≡ old.origin
  origin_by old new place (Ok load) is why = ap (λ (x : FloorState G). x.origin) is.left
  origin_by old new place (Err fault) is why = ap (λ (x : FloorState G). x.origin) why.0

  -- ---- the press comes back

  no_loan : (o : Option Loan) (l : Loan) → o ≡ None → o ≡ Some l → ⊥
  no_loan o l x y = cc

  -- where a loan is open the press is out
  pub is_out : (floor : FloorState G) (a : Account G) (l : Loan) (spot : Spot G) → Stands told size disk_faults emit_faults floor.origin a floor.lost spot → a.loan ≡ Some l → (at : ℕ) × (upto : ℕ) × (spot ≡ Out at upto)
  is_out floor a l (Home press) s out = absurd (no_loan a.loan l s.0 out)
  is_out floor a l (Out place upto) s out = (place, upto, refl)
  is_out floor a l (Broken device place) s out = absurd (no_loan a.loan l s.0 out)

  -- home, with what the load was to write
  pub brings : (old new : FloorState G) (h : List (ℕ × Entry G)) (loan : Loan) (press : PressState G) (memo : Noted (PressState G)) (at to event more : ℕ) → memo.value ≡ press → old.spot ≡ Out at to
      → new ≡ record old { spot = Home press; durable = event; lost = capped (old.lost + more) } → FloorStands told size disk_faults emit_faults old h → (account old.origin h).loan ≡ Some loan
      → IsCarriedOut told size disk_faults emit_faults old.origin (account old.origin h) loan.upto (account old.origin h).taken (HomeAgain press event more) → FloorStands told size disk_faults emit_faults new (h ++ (loan.number, Returned event memo) ∷ [])
  brings old new h loan press memo at to event more shows away is f out carried =
      let a : Account G = account old.origin h in
      let s = f.shows in
      let here = at_spot old a (Out at to) away s in
      let b : Account G = step a loan.number (Returned event memo) in
      let same : press ≡ memo.value = sym shows in
      let upto : event ≡ old.origin.0.events + a.taken.events = carried.0 ∙ s.fronts.lent loan out in
      follows old new h loan.number (Returned event memo) (ap (λ (x : FloorState G). x.origin) is) f (
        (loan, out, refl, sym carried.0),
        more,
        subst (λ (p : PressState G). IsCarriedOut told size disk_faults emit_faults old.origin a event a.taken (HomeAgain p event more)) same
            (subst (λ (u : ℕ). IsCarriedOut told size disk_faults emit_faults old.origin a u a.taken (HomeAgain press event more)) (sym carried.0) carried),
      )
      (subst (λ (x : FloorState G). ShowsAccount told size disk_faults emit_faults x b) (sym is) (record {
        core = s.core;
        records = s.records;
        sends = s.sends;
        calls = s.calls;
        durable = refl;
        spot = (refl, here.0, same);
        holds = subst (λ (p : PressState G). HoldsOrder told old.origin a event a.taken p) same (subst (λ (u : ℕ). HoldsOrder told old.origin a u a.taken press) (sym carried.0) carried.2);
        lost = subst (λ (p : PressState G). HasLost (capped (old.lost + more)) (told old.origin.1.device) (told p.device)) same (lost_both old.lost more (told old.origin.1.device) (told a.press.device) (told press.device) s.lost carried.3);
        counted = subst (λ (p : PressState G). CountsLost (emit_faults old.origin.1.device) (emit_faults p.device) (capped (old.lost + more))) same
            (counts_both old.lost more (emit_faults old.origin.1.device) (emit_faults a.press.device) (emit_faults press.device) s.counted carried.1.2);
        sized = ap (λ (p : PressState G). size p.device) (sym same) ∙ (carried.1.0 ∙ s.sized);
        course = course_same old.origin a b refl refl refl s.course;
        fronts = record {
          events = s.fronts.events;
          dues = s.fronts.dues;
          calls = s.fronts.calls;
          rests = s.fronts.rests;
          lent = λ loan none. absurd (cc);
          home = λ none works. (refl, upto);
          back = omega arith;
          first = omega (arith, upto);
          durable = omega (arith, upto);
        };
      }))

  -- lost, with nothing sent
  pub breaks : (old new : FloorState G) (h : List (ℕ × Entry G)) (loan : Loan) (device : G) (memo : Noted G) (at to place event durable : ℕ) → memo.value ≡ device → old.spot ≡ Out at to → durable ≡ old.durable → new ≡ record old { spot = Broken device place; durable = durable; lost = capped (old.lost + 0) } → place ≡ length h + 1
      → FloorStands told size disk_faults emit_faults old h → (account old.origin h).loan ≡ Some loan
      → IsCarriedOut told size disk_faults emit_faults old.origin (account old.origin h) loan.upto (account old.origin h).taken (Gone device event) → FloorStands told size disk_faults emit_faults new (h ++ (loan.number, Failed event memo) ∷ [])
  breaks old new h loan device memo at to place event durable left away written is here_at f out carried =
      let a : Account G = account old.origin h in
      let s = f.shows in
      let b : Account G = step a loan.number (Failed event memo) in
      let long = long_is (start old.origin) h in
      let place_is : a.long + 1 ≡ place = omega (arith, long, here_at) in
      let before : HasLost (capped (old.lost + 0)) (told old.origin.1.device) (told a.press.device) = lost_both old.lost 0 (told old.origin.1.device) (told a.press.device) (told a.press.device) s.lost (lost_none (told a.press.device)) in
      follows old new h loan.number (Failed event memo) (ap (λ (x : FloorState G). x.origin) is) f (
        (loan, out, refl, sym carried.0),
        subst (λ (d : G). IsCarriedOut told size disk_faults emit_faults old.origin a event a.taken (Gone d event)) (sym left)
            (subst (λ (u : ℕ). IsCarriedOut told size disk_faults emit_faults old.origin a u a.taken (Gone device event)) (sym carried.0) carried),
      )
      (subst (λ (x : FloorState G). ShowsAccount told size disk_faults emit_faults x b) (sym is) (record {
        core = s.core;
        records = s.records;
        sends = s.sends;
        calls = s.calls;
        durable = written ∙ s.durable;
        spot = (refl, ap Some place_is, carried.1.1, carried.2, lost_both old.lost 0 (told old.origin.1.device) (told a.press.device) (told device) s.lost carried.3, carried.1.0, carried.1.2);
        holds = s.holds;
        lost = before;
        counted = counts_both old.lost 0 (emit_faults old.origin.1.device) (emit_faults a.press.device) (emit_faults a.press.device) s.counted (counts_none (emit_faults a.press.device));
        sized = s.sized;
        course = course_same old.origin a b refl refl refl s.course;
        fronts = record {
          events = s.fronts.events;
          dues = s.fronts.dues;
          calls = s.fronts.calls;
          rests = s.fronts.rests;
          lent = λ loan none. absurd (cc);
          home = λ none works. absurd (cc);
          back = s.fronts.back;
          first = s.fronts.first;
          durable = s.fronts.durable;
        };
      }))

  -- what was carried out of a load is what the floor waits for, behind each longer history in which its loan is open
  pub fits : (floor : FloorState G) (h between : List (ℕ × Entry G)) (n : ℕ) (load : Load G) (carried : Carried G) → Lends told floor.origin (account floor.origin h) load
      → IsCarriedOut told size disk_faults emit_faults floor.origin (account floor.origin h) load.upto (front_of (account floor.origin h)) carried → FloorStands told size disk_faults emit_faults floor ((h ++ (n, Taken load.upto) ∷ []) ++ between)
      → (account floor.origin ((h ++ (n, Taken load.upto) ∷ []) ++ between)).loan ≡ Some record { number = n; place = length h + 1; upto = load.upto }
      → IsCarriedOut told size disk_faults emit_faults floor.origin (account floor.origin ((h ++ (n, Taken load.upto) ∷ []) ++ between)) load.upto (account floor.origin ((h ++ (n, Taken load.upto) ∷ []) ++ between)).taken carried
  fits floor h between n load carried lends does f open_then =
      let origin = floor.origin in
      let a : Account G = account origin h in
      let b : Account G = step a n (Taken load.upto) in
      let l : Loan = record { number = n; place = length h + 1; upto = load.upto } in
      let left : List (ℕ × Entry G) = h ++ (n, Taken load.upto) ∷ [] in
      let long : a.long ≡ length h = (let i = long_is (start origin) h in omega arith) in
      let at_left : account origin left ≡ b = account_snoc (start origin) h (n, Taken load.upto) in
      let whole : account origin (left ++ between) ≡ account_from b between = account_append (start origin) left between ∙ ap (λ (x : Account G). account_from x between) at_left in
      let legal : IsLegalFrom told size disk_faults emit_faults origin b between =
      subst (λ (x : Account G). IsLegalFrom told size disk_faults emit_faults origin x between) at_left (legal_after told size disk_faults emit_faults origin (start origin) left between f.legal) in
      let still : IsStill b (account_from b between) =
      still_open told size disk_faults emit_faults origin b l between (ap (λ (k : ℕ). Some record { number = n; place = k + 1; upto = load.upto }) long) (omega (arith, long)) legal (sym (ap (λ (x : Account G). x.loan) whole) ∙ open_then) in
      let upto : load.upto ≡ origin.0.events + b.taken.events = lends.upto ∙ lends.course.events in
      subst (λ (x : Account G). IsCarriedOut told size disk_faults emit_faults origin x load.upto x.taken carried) (sym whole)
      (carried_still origin told size disk_faults emit_faults b (account_from b between) load.upto carried still (fronts_taken origin told a n load lends) upto
      (carried_at origin told size disk_faults emit_faults a n load.upto carried does))

  -- the desk waits for the press, to be closed
  pub waits_out : (floor : FloorState G) (h : List (ℕ × Entry G)) (n at upto : ℕ) → floor.spot ≡ Out at upto → FloorStands told size disk_faults emit_faults floor h → FloorStands told size disk_faults emit_faults floor (h ++ (n, Looked Closing) ∷ [])
  waits_out floor h n at upto is f = (let b = busy floor h at upto is f in closes floor h n (record { number = b.0; place = at; upto = upto }) f b.1)

  -- the place of its next entry is no part of what a floor stands for
  pub stands_at : (floor : FloorState G) (next : ℕ) (h : List (ℕ × Entry G)) → FloorStands told size disk_faults emit_faults floor h → FloorStands told size disk_faults emit_faults (record floor { next = next }) h
  stands_at floor next h f =
      let s = f.shows in record {
        legal = f.legal;
        shows = record { core = s.core; records = s.records; sends = s.sends; calls = s.calls; durable = s.durable; spot = s.spot; holds = s.holds; lost = s.lost; counted = s.counted; sized = s.sized; course = s.course; fronts = s.fronts };
      }

  -- at the opening
  pub opens : (floor : FloorState G) (press : PressState G) → floor.core ≡ floor.origin.0 → floor.records ≡ [] → floor.sends ≡ [] → floor.calls ≡ 0 → floor.lost ≡ 0 → floor.durable ≡ floor.origin.0.events → floor.spot ≡ Home press → press ≡ floor.origin.1 → FloorStands told size disk_faults emit_faults floor []
  opens floor press core records sends calls lost durable spot same = record {
    legal = tt;
    shows = record {
      core = core;
      records = records;
      sends = sends;
      calls = omega (arith, calls);
      durable = durable;
      spot = subst (λ (s : Spot G). Stands told size disk_faults emit_faults floor.origin (start floor.origin) floor.lost s) (sym spot) (refl, refl, same);
      holds = λ journal history stands first. (
        subst (λ (n : ℕ). HoldsHistory journal floor.origin.0.site (with_first history n []) floor.origin.1.layout (told floor.origin.1.device)) (sym none) first,
        keeps_now journal floor.origin.0.site history [] (told floor.origin.1.device) first.0 first.2 first.1.1,
      );
      lost = subst (λ (n : ℕ). HasLost n (told floor.origin.1.device) (told floor.origin.1.device)) (sym lost) (lost_none (told floor.origin.1.device));
      counted = subst (λ (n : ℕ). CountsLost (emit_faults floor.origin.1.device) (emit_faults floor.origin.1.device) n) (sym lost) (counts_none (emit_faults floor.origin.1.device));
      sized = refl;
      course = record {
        events = omega arith;
        site = refl;
        stands = λ history stands. stands;
        recorded = All-nil HasRecord;
        fit = All-nil FitsEvent;
        rests = All-nil (λ (due : Due). due.after ≤ floor.origin.0.events);
      };
      fronts = record {
        events = omega arith;
        dues = omega arith;
        calls = omega arith;
        rests = All-nil (λ (due : Due). due.after ≤ floor.origin.0.events + 0);
        lent = λ loan out. absurd (cc);
        home = λ none works. (refl, omega arith);
        back = omega arith;
        first = omega arith;
        durable = omega arith;
      };
    };
  }
    where
      none : floor.origin.0.events - floor.origin.0.events ≡ 0
      none = omega arith
