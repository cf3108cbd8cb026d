-- What stands for an account stands for one that went on from it.
use Rattle.std.proofs.Common.{◌≡◌, ℕ, ◌+◌, ◌-◌, ◌≤◌, Option, Some, List, [], ◌∷◌, ◌++◌, All, length, map, take, drop, refl, ap, ◌∙◌, sym, subst, arith, length-append}
use Rattle.std.proofs.lemmas.List.{drop-append-le, map-append, take-append-le, take_all}
use Rattle.std.proofs.lemmas.List.Concat.{flat_map-append}
use Rattle.std.proofs.lemmas.List.Elements.{All-append, All-map, All-weaker}
use Rattle.ground_io.specs.Counts.{Rose}
use Rattle.ground_io.specs.Trace.{Told}
use Rattle.bac_values.specs.declared.note.Send.{Send}
use Rattle.alarm_core.specs.Allowed.{Represents}
use Rattle.alarm_core.specs.Fits.{FitsEvent}
use Rattle.alarm_core.specs.State.{CoreState}
use Rattle.alarm_core.specs.declared.event.Event.{Event}
use Rattle.alarm_journal.specs.Press.{PressState}
use Rattle.service_desk.specs.Answers.{Answer, Entered, Full, Refused, Replied, Unchanged, Ignored, dues_of, event_of, state_behind}
use Rattle.state_codec.specs.Contents.{records_of}
use Rattle.state_codec.specs.Records.{HasRecord, written_event}
use Rattle.floor_desk.specs.Accounts.{Account, Due, Front, Loan, accepted, due_after, front_of, if_event, looked, step}
use Rattle.floor_desk.specs.Carrying.{BreaksLoan, CountsCarried, IsCarriedOut, KeepsLoan, Lends, SendsAlone, WritesEventsAlone, WritesThenSends}
use Rattle.floor_desk.specs.Courses.{KeepsCourse, KeepsFronts}
use Rattle.state_codec.specs.Keeping.{Commits, HoldsHistory}
use Rattle.floor_desk.specs.MovesSteps.{MayEnter, with_answer}
use Rattle.floor_desk.specs.Prefixes.{HasLost, KeepsOrder, RestsOn, with_first}
use Rattle.floor_desk.specs.Holding.{KeptOrder, HoldsOrder, pending_sends}
use Rattle.floor_desk.specs.Standing.{ShowsAccount, Stands}
use Rattle.floor_desk.specs.States.{FloorState}
use Rattle.floor_desk.specs.declared.entry.Entry.TheVariants.{Taken}
use Rattle.floor_desk.specs.declared.load.Carried.{Carried}
use Rattle.floor_desk.specs.declared.load.Load.{Load}
use Rattle.floor_desk.specs.declared.load.Carried.TheVariants.{Home as HomeAgain, Broken as Gone}
use Rattle.floor_desk.specs.declared.floor.Spot.{Spot}
use Rattle.floor_desk.specs.declared.floor.Spot.TheVariants.{Home, Out, Broken}
use Rattle.floor_desk.proofs.Histories.{IsStill, still_accepted, still_looked}
use Rattle.floor_desk.proofs.Prefixes.{first_of_more, first_more, keeps_more}

-- ---- what an answer makes of a state, and the dues that it gives

pub events_behind : (state : CoreState) (answer : Answer) → (state_behind state answer).events ≡ state.events + length (if_event (event_of answer))
events_behind state (Entered event reply) = refl
events_behind state (Full would limit reply) = omega arith
events_behind state (Refused why) = omega arith
events_behind state (Replied send) = omega arith
events_behind state Unchanged = omega arith
events_behind state Ignored = omega arith

site_behind : (state : CoreState) (answer : Answer) → (state_behind state answer).site ≡ state.site
site_behind state (Entered event reply) = refl
site_behind state (Full would limit reply) = refl
site_behind state (Refused why) = refl
site_behind state (Replied send) = refl
site_behind state Unchanged = refl
site_behind state Ignored = refl

dues_rest : (events : ℕ) (sends : List Send) → RestsOn events (map (due_after events) sends)
dues_rest events sends = All-map (λ (due : Due). due.after ≤ events) (due_after events) sends (λ k d few. omega arith)

sends_of_dues : (events : ℕ) (sends : List Send) → map (λ (due : Due). due.send) (map (due_after events) sends) ≡ sends
sends_of_dues events [] = refl
sends_of_dues events (send ∷ sends) = ap (λ (l : List Send). send ∷ l) (sends_of_dues events sends)

loan_is : (x y : Loan) → Some x ≡ Some y → x ≡ y
loan_is x y same = cc

module _ {G : Type 0} (origin : CoreState × PressState G) where
  -- ---- what the press took

  pub fronts_still : (a b : Account G) → IsStill a b → KeepsFronts origin a → KeepsFronts origin b
  fronts_still a b s f = record {
    events = omega (arith, f.events, ap (λ (t : Front). t.events) s.taken, ap (λ (l : List Event). length l) s.order, length-append a.order s.more);
    dues = omega (arith, f.dues, ap (λ (t : Front). t.dues) s.taken, ap (λ (l : List Due). length l) s.dues, length-append a.dues s.owed);
    calls = omega (arith, f.calls, s.calls, ap (λ (t : Front). t.calls) s.taken);
    rests =
        subst (λ (l : List Due). RestsOn (origin.0.events + b.taken.events) (take b.taken.dues l)) (sym s.dues)
        (subst (λ (t : Front). RestsOn (origin.0.events + t.events) (take t.dues (a.dues ++ s.owed))) (sym s.taken)
        (subst (λ (l : List Due). RestsOn (origin.0.events + a.taken.events) l) (sym (take-append-le a.taken.dues a.dues s.owed f.dues)) f.rests));
    lent = λ loan is. f.lent loan (sym s.loan ∙ is) ∙ ap (λ (t : Front). origin.0.events + t.events) (sym s.taken);
    home = λ none works.
        let h = f.home (sym s.loan ∙ none) (sym s.failed ∙ works) in
        (s.back ∙ (h.0 ∙ sym s.taken), s.durable ∙ (h.1 ∙ ap (λ (t : Front). origin.0.events + t.events) (sym s.taken)));
    back = omega (arith, f.back, ap (λ (t : Front). t.dues) s.taken, ap (λ (t : Front). t.dues) s.back);
    first = omega (arith, f.first, s.durable);
    durable = omega (arith, f.durable, s.durable, ap (λ (t : Front). t.events) s.taken);
  }

  -- ---- what the press holds

  module _ (told : G → Option Told) where
    pub held_more : (a b : Account G) (back : Front) (device : G) → IsStill a b → back.dues ≤ length a.dues → KeptOrder told origin a back device → KeptOrder told origin b back device
    held_more a b back device s few held journal history stands holds =
        subst (λ (l : List Event). KeepsOrder journal origin.0.site history l b.dues back.dues (told origin.1.device) (told device)) (sym s.order)
        (subst (λ (l : List Due). KeepsOrder journal origin.0.site history (a.order ++ s.more) l back.dues (told origin.1.device) (told device)) (sym s.dues)
        (keeps_more journal origin.0.site history a.order s.more a.dues s.owed back.dues (told origin.1.device) (told device) few (held journal history stands holds)))

    pub holds_more : (a b : Account G) (durable : ℕ) (back : Front) (press : PressState G) → IsStill a b → durable - origin.0.events ≤ length a.order → back.dues ≤ length a.dues → HoldsOrder told origin a durable back press → HoldsOrder told origin b durable back press
    holds_more a b durable back press s within few holds journal history stands first =
        let both = holds journal history stands first in
        let same : with_first history (durable - origin.0.events) b.order ≡ with_first history (durable - origin.0.events) a.order =
        ap (λ (l : List Event). with_first history (durable - origin.0.events) l) s.order ∙ first_of_more history a.order s.more (durable - origin.0.events) within in (
          subst (λ (h : List Event). HoldsHistory journal origin.0.site h press.layout (told press.device)) (sym same) both.0,
          held_more a b back press.device s few (λ j h r f. (holds j h r f).1) journal history stands first,
        )

    pub holds_still : (a b : Account G) → IsStill a b → KeepsFronts origin a → HoldsOrder told origin a a.durable a.back a.press → HoldsOrder told origin b b.durable b.back b.press
    holds_still a b s f holds =
        subst (λ (d : ℕ). HoldsOrder told origin b d b.back b.press) (sym s.durable)
        (subst (λ (t : Front). HoldsOrder told origin b a.durable t b.press) (sym s.back)
        (subst (λ (p : PressState G). HoldsOrder told origin b a.durable a.back p) (sym s.press)
        (holds_more a b a.durable a.back a.press s (omega (arith, f.durable, f.events)) (omega (arith, f.back, f.dues)) holds)))

    pub stands_still : (size disk_faults emit_faults : G → ℕ) (a b : Account G) (lost : ℕ) (spot : Spot G) → IsStill a b → KeepsFronts origin a → Stands told size disk_faults emit_faults origin a lost spot → Stands told size disk_faults emit_faults origin b lost spot
    stands_still size disk_faults emit_faults a b lost (Home press) s f here = (s.loan ∙ here.0, s.failed ∙ here.1, here.2 ∙ sym s.press)
    stands_still size disk_faults emit_faults a b lost (Out place upto) s f here = (s.failed ∙ here.0, here.1, s.loan ∙ here.2)
    stands_still size disk_faults emit_faults a b lost (Broken device place) s f here = (
      s.loan ∙ here.0,
      s.failed ∙ here.1,
      subst (λ (p : PressState G). Rose (disk_faults p.device) (disk_faults device)) (sym s.press) here.2,
      subst (λ (t : Front). KeptOrder told origin b t device) (sym s.back) (held_more a b a.back device s (omega (arith, f.back, f.dues)) here.3),
      here.4,
      here.5 ∙ ap (λ (p : PressState G). size p.device) (sym s.press),
      here.6 ∙ ap (λ (p : PressState G). emit_faults p.device) (sym s.press),
    )

    -- ---- what comes back

    -- the first events of the order, and the datagrams that a loan took, are the same
    firsts_still : (a b : Account G) (history : List Event) (count : ℕ) → IsStill a b → count ≤ length a.order → with_first history count b.order ≡ with_first history count a.order
    firsts_still a b history count s few = ap (λ (l : List Event). with_first history count l) s.order ∙ first_of_more history a.order s.more count few

    durable_still : (a b : Account G) (history : List Event) → IsStill a b → KeepsFronts origin a → with_first history (b.durable - origin.0.events) b.order ≡ with_first history (a.durable - origin.0.events) a.order
    durable_still a b history s f = ap (λ (d : ℕ). with_first history (d - origin.0.events) b.order) s.durable ∙ firsts_still a b history (a.durable - origin.0.events) s (omega (arith, f.durable, f.events))

    sends_still : (a b : Account G) → IsStill a b → KeepsFronts origin a → map (λ (due : Due). due.send) (drop b.back.dues (take b.taken.dues b.dues)) ≡ map (λ (due : Due). due.send) (drop a.back.dues (take a.taken.dues a.dues))
    sends_still a b s f =
        ap (λ (l : List Due). map (λ (due : Due). due.send) l)
        (ap (λ (t : Front). drop t.dues (take b.taken.dues b.dues)) s.back
        ∙ (ap (λ (t : Front). drop a.back.dues (take t.dues b.dues)) s.taken
        ∙ ap (λ (l : List Due). drop a.back.dues l) (ap (λ (l : List Due). take a.taken.dues l) s.dues ∙ take-append-le a.taken.dues a.dues s.owed f.dues)))

    loan_still : (a b : Account G) (upto lost : ℕ) (press : PressState G) → IsStill a b → KeepsFronts origin a → upto ≡ origin.0.events + a.taken.events → KeepsLoan told origin a upto a.taken lost press → KeepsLoan told origin b upto b.taken lost press
    loan_still a b upto lost press s f is kept journal history stands first =
        let site = origin.0.site in
        let before = with_first history (a.durable - origin.0.events) a.order in
        let after = with_first history (upto - origin.0.events) a.order in
        let sends : List Send = map (λ (due : Due). due.send) (drop b.back.dues (take b.taken.dues b.dues)) in
        let after' = with_first history (upto - origin.0.events) b.order in
        let same : after' ≡ after = firsts_still a b history (upto - origin.0.events) s (omega (arith, is, f.events)) in
        subst (λ (h : List Event). WritesThenSends journal site h after' sends lost (told b.press.device) (told press.device)) (sym (durable_still a b history s f))
        (subst (λ (h : List Event). WritesThenSends journal site before h sends lost (told b.press.device) (told press.device)) (sym same)
        (subst (λ (l : List Send). WritesThenSends journal site before after l lost (told b.press.device) (told press.device)) (sym (sends_still a b s f))
        (subst (λ (p : PressState G). WritesThenSends journal site before after (map (λ (due : Due). due.send) (drop a.back.dues (take a.taken.dues a.dues))) lost (told p.device) (told press.device)) (sym s.press) (kept journal history stands first))))

    break_still : (a b : Account G) (upto : ℕ) (device : G) → IsStill a b → KeepsFronts origin a → upto ≡ origin.0.events + a.taken.events → BreaksLoan told origin a upto device → BreaksLoan told origin b upto device
    break_still a b upto device s f is kept journal history stands first =
        let site = origin.0.site in
        let before = with_first history (a.durable - origin.0.events) a.order in
        let after = with_first history (upto - origin.0.events) a.order in
        let after' = with_first history (upto - origin.0.events) b.order in
        let same : after' ≡ after = firsts_still a b history (upto - origin.0.events) s (omega (arith, is, f.events)) in
        subst (λ (h : List Event). Commits journal site h after' (told b.press.device) (told device)) (sym (durable_still a b history s f))
        (subst (λ (h : List Event). Commits journal site before h (told b.press.device) (told device)) (sym same)
        (subst (λ (p : PressState G). Commits journal site before after (told p.device) (told device)) (sym s.press) (kept journal history stands first)))

    alone_still : (a b : Account G) (upto : ℕ) (carried : Carried G) → IsStill a b → KeepsFronts origin a → WritesEventsAlone told a upto a.taken carried → WritesEventsAlone told b upto b.taken carried
    alone_still a b upto carried s f alone same =
        subst (λ (l : List Send). SendsAlone told l b.press carried) (sym (sends_still a b s f))
        (subst (λ (p : PressState G). SendsAlone told (map (λ (due : Due). due.send) (drop a.back.dues (take a.taken.dues a.dues))) p carried) (sym s.press) (alone (same ∙ s.durable)))

    pub carried_still : (size disk_faults emit_faults : G → ℕ) (a b : Account G) (upto : ℕ) (carried : Carried G) → IsStill a b → KeepsFronts origin a → upto ≡ origin.0.events + a.taken.events → IsCarriedOut told size disk_faults emit_faults origin a upto a.taken carried → IsCarriedOut told size disk_faults emit_faults origin b upto b.taken carried
    carried_still size disk_faults emit_faults a b upto (HomeAgain press event more) s f is c = (
      c.0,
      subst (λ (p : PressState G). CountsCarried size disk_faults emit_faults p.device (HomeAgain press event more)) (sym s.press) c.1,
      subst (λ (t : Front). HoldsOrder told origin b upto t press) (sym s.taken) (holds_more a b upto a.taken press s (omega (arith, is, f.events)) f.dues c.2),
      subst (λ (p : PressState G). HasLost more (told p.device) (told press.device)) (sym s.press) c.3,
      loan_still a b upto more press s f is c.4,
      alone_still a b upto (HomeAgain press event more) s f c.5,
    )
    carried_still size disk_faults emit_faults a b upto (Gone device event) s f is c = (
      c.0,
      subst (λ (p : PressState G). CountsCarried size disk_faults emit_faults p.device (Gone device event)) (sym s.press) c.1,
      subst (λ (t : Front). KeptOrder told origin b t device) (sym s.back) (held_more a b a.back device s (omega (arith, f.back, f.dues)) c.2),
      subst (λ (p : PressState G). HasLost 0 (told p.device) (told device)) (sym s.press) c.3,
      break_still a b upto device s f is c.4,
      alone_still a b upto (Gone device event) s f c.5,
    )

    -- what the press took at that entry
    pub fronts_taken : (a : Account G) (n : ℕ) (load : Load G) → Lends told origin a load → KeepsFronts origin (step a n (Taken load.upto))
    fronts_taken a n load l = record {
      events = omega arith;
      dues = omega arith;
      calls = omega arith;
      rests = subst (λ (z : List Due). RestsOn (origin.0.events + length a.order) z) (sym (take_all (length a.dues) a.dues (omega arith))) (subst (λ (k : ℕ). RestsOn k a.dues) l.course.events l.course.rests);
      lent = λ loan out. ap (λ (k : Loan). k.upto) (sym (loan_is _ loan out)) ∙ (l.upto ∙ l.course.events);
      home = λ none works. absurd (cc);
      back = omega (arith, l.fronts.back, l.fronts.dues);
      first = l.fronts.first;
      durable = omega (arith, l.fronts.durable, l.fronts.events);
    }

    -- behind the entry with which the press left
    pub carried_at : (size disk_faults emit_faults : G → ℕ) (a : Account G) (n upto : ℕ) (carried : Carried G) → IsCarriedOut told size disk_faults emit_faults origin a upto (front_of a) carried → IsCarriedOut told size disk_faults emit_faults origin (step a n (Taken upto)) upto (step a n (Taken upto)).taken carried
    carried_at size disk_faults emit_faults a n upto (HomeAgain press event more) c = c
    carried_at size disk_faults emit_faults a n upto (Gone device event) c = c

  -- ---- an answer that is taken

  pub course_accepted : (a : Account G) (answer : Answer) → MayEnter a.state answer → KeepsCourse origin a → KeepsCourse origin (accepted a answer)
  course_accepted a answer may c =
      let event : List Event = if_event (event_of answer) in
      let state = state_behind a.state answer in
      let more : state.events ≡ a.state.events + length event = events_behind a.state answer in record {
        events = omega (arith, more, c.events, length-append a.order event);
        site = site_behind a.state answer ∙ c.site;
        stands = λ history stands. subst (λ (h : List Event). Represents state h) (sym (first_more history a.order event)) (may.stands (with_first history (length a.order) a.order) (c.stands history stands));
        recorded = All-append HasRecord a.order event c.recorded may.recorded;
        fit = All-append FitsEvent a.order event c.fit may.fit;
        rests =
            All-append (λ (due : Due). due.after ≤ state.events) a.dues (map (due_after state.events) (dues_of a.state answer))
            (All-weaker (λ (due : Due). due.after ≤ a.state.events) (λ (due : Due). due.after ≤ state.events) (λ due h. omega (arith, h, more)) a.dues c.rests) (dues_rest state.events (dues_of a.state answer));
      }

  -- the same events and datagrams
  pub course_same : (a b : Account G) → b.state ≡ a.state → b.order ≡ a.order → b.dues ≡ a.dues → KeepsCourse origin a → KeepsCourse origin b
  course_same a b state order dues c = record {
    events = ap (λ (s : CoreState). s.events) state ∙ (c.events ∙ ap (λ (l : List Event). origin.0.events + length l) (sym order));
    site = ap (λ (s : CoreState). s.site) state ∙ c.site;
    stands = λ history stands. subst (λ (s : CoreState). Represents s (with_first history (length b.order) b.order)) (sym state) (subst (λ (l : List Event). Represents a.state (with_first history (length l) l)) (sym order) (c.stands history stands));
    recorded = subst (λ (l : List Event). All HasRecord l) (sym order) c.recorded;
    fit = subst (λ (l : List Event). All FitsEvent l) (sym order) c.fit;
    rests = subst (λ (s : CoreState). RestsOn s.events b.dues) (sym state) (subst (λ (l : List Due). RestsOn a.state.events l) (sym dues) c.rests);
  }

module _ {G : Type 0} (told : G → Option Told) (size disk_faults emit_faults : G → ℕ) where
  -- an answer is taken: the floor with it shows the account with it
  pub shows_accepted : (floor : FloorState G) (a : Account G) (answer : Answer) → MayEnter a.state answer → ShowsAccount told size disk_faults emit_faults floor a → ShowsAccount told size disk_faults emit_faults (with_answer a.state floor answer) (accepted a answer)
  shows_accepted floor a answer may s =
      let origin = floor.origin in
      let event : List Event = if_event (event_of answer) in
      let dues : List Due = map (due_after (state_behind a.state answer).events) (dues_of a.state answer) in
      let still : IsStill a (accepted a answer) = still_accepted a answer in record {
        core = refl;
        records =
            ap (λ (l : List ℕ). l ++ records_of event) s.records
            ∙ (sym (flat_map-append written_event (drop a.taken.events a.order) event) ∙ ap records_of (sym (drop-append-le a.taken.events a.order event s.fronts.events)));
        sends =
            ap (λ (l : List Send). l ++ dues_of a.state answer) s.sends
            ∙ (ap (λ (l : List Send). pending_sends a ++ l) (sym (sends_of_dues (state_behind a.state answer).events (dues_of a.state answer)))
            ∙ (sym (map-append (λ (due : Due). due.send) (drop a.taken.dues a.dues) dues) ∙ ap (λ (l : List Due). map (λ due. due.send) l) (sym (drop-append-le a.taken.dues a.dues dues s.fronts.dues))));
        calls = omega (arith, s.calls, s.fronts.calls);
        durable = s.durable;
        spot = stands_still origin told size disk_faults emit_faults a (accepted a answer) floor.lost floor.spot still s.fronts s.spot;
        holds = holds_still origin told a (accepted a answer) still s.fronts s.holds;
        lost = s.lost;
        counted = s.counted;
        sized = s.sized;
        course = course_accepted origin a answer may s.course;
        fronts = fronts_still origin a (accepted a answer) still s.fronts;
      }

  -- an entry that changes nothing
  pub shows_looked : (floor : FloorState G) (a : Account G) → ShowsAccount told size disk_faults emit_faults floor a → ShowsAccount told size disk_faults emit_faults floor (looked a)
  shows_looked floor a s = record {
    core = s.core;
    records = s.records;
    sends = s.sends;
    calls = s.calls;
    durable = s.durable;
    spot = stands_still floor.origin told size disk_faults emit_faults a (looked a) floor.lost floor.spot (still_looked a) s.fronts s.spot;
    holds = s.holds;
    lost = s.lost;
    counted = s.counted;
    sized = s.sized;
    course = course_same floor.origin a (looked a) refl refl refl s.course;
    fronts = fronts_still floor.origin a (looked a) (still_looked a) s.fronts;
  }
