-- What a closed desk's history has, when the last commit is added.
use Rattle.std.proofs.Common.{◌≡◌, ◌≢◌, ℕ, ◌≤◌, List, [], ◌∷◌, ◌++◌, zero, suc, arith, refl, sym, ap, ◌∙◌, subst, append_assoc}
use Rattle.std.proofs.lemmas.List.{append-nil}
use Rattle.std.specs.Prelude.{replicate, Option, Result, Ok, Err}
use Rattle.std.specs.List.{All}
use Rattle.ground_io.specs.Trace.{Told}
use Rattle.bac_values.specs.declared.note.Send.{Send}
use Rattle.turnstile.specs.Histories.{Accounts, IsOnce, NoOther, among, times}
use Rattle.turnstile.specs.Passes.{IsWhole, Known, all_calls}
use Rattle.turnstile.proofs.Counts.{times_here, under_other, under_same}
use Rattle.alarm_core.specs.State.{CoreState}
use Rattle.alarm_journal.specs.Press.{PressState}
use Rattle.floor_desk.specs.declared.entry.Entry.{Entry}
use Rattle.floor_desk.specs.declared.entry.Entry.TheVariants.{Looked, Taken, Returned, Failed}
use Rattle.floor_desk.specs.declared.entry.Look.TheVariants.{Closing, Refused}
use Rattle.floor_desk.specs.declared.entry.Ticket.{Ticket}
use Rattle.floor_desk.specs.declared.faults.CommitFault.{CommitFault}
use Rattle.floor_desk.specs.declared.faults.CommitFault.TheVariants as commits
use Rattle.floor_desk.specs.declared.faults.EnterFault.{EnterFault}
use Rattle.floor_desk.specs.Accounts.{Account}
use Rattle.floor_desk.specs.Ending.{AreOfCommit, IsClosed}
use Rattle.floor_desk.specs.States.{FloorState}
use Rattle.floor_desk.specs.declared.receiver.Ends.{Ends}
use Rattle.floor_desk.specs.Serving.{AreLast, AreWorkings, EndsWith, HasAll, Workings, calls_of}
use Rattle.floor_desk.specs.ServingSteps.{HasEnded, WorkedTogether}
use Rattle.floor_desk.specs.Tries.{Attempt, Try, tried_by, tries_in}
use Rattle.floor_desk.proofs.Working.{tries_append}

module _ {G : Type 0} where
  -- ---- one entry more under the server's number

  apart : (w : Workings G) → IsOnce (calls_of w) → (w.server ≢ w.committer) × (w.server ≢ w.ticker)
  apart w once =
      let C : List (ℕ × List (Entry G)) = (w.committer, w.kept) ∷ ((w.ticker, w.ticked) ∷ []) in
      let T : List (ℕ × List (Entry G)) = (w.ticker, w.ticked) ∷ [] in (
        (λ same. absurd (let one = once w.server in
            let a = times_here w.server (w.server, w.received ++ w.last) C refl in let b = times_here w.server (w.committer, w.kept) T (sym same) in omega arith)),
        (λ same. absurd (let one = once w.server in
            let a = times_here w.server (w.server, w.received ++ w.last) C refl in let c = times_here w.server (w.ticker, w.ticked) [] (sym same) in
            let d : times w.server T ≤ times w.server C = omega arith in omega arith)),
      )

  tail_of : (h : List (ℕ × Entry G)) (c : ℕ × List (Entry G)) (cs : List (ℕ × List (Entry G))) → Accounts h (c ∷ cs) → Accounts h cs
  tail_of h c cs a = a.1

  grow_one : (h : List (ℕ × Entry G)) (w : Workings G) (e : Entry G) → HasAll h w → HasAll (h ++ (w.server, e) ∷ []) (record w { last = w.last ++ e ∷ [] })
  grow_one h w e all =
      let ne = apart w all.once in
      let T : List (ℕ × List (Entry G)) = (w.ticker, w.ticked) ∷ [] in
      let C : List (ℕ × List (Entry G)) = (w.committer, w.kept) ∷ T in
      let behind : Accounts h C = tail_of h (w.server, w.received ++ w.last) C all.accounts in
      let last : Accounts h T = tail_of h (w.committer, w.kept) T behind in record {
        accounts = (
          under_same w.server h e ∙ (ap (λ z. z ++ e ∷ []) all.accounts.0 ∙ append_assoc w.received w.last (e ∷ [])),
          (under_other w.committer w.server h e ne.0 ∙ behind.0, (under_other w.ticker w.server h e ne.1 ∙ last.0, tt)),
        );
        once = all.once;
        only = λ n none. under_other n w.server h e (λ same. absurd (let a = times_here n (w.server, w.received ++ w.last) C same in omega arith)) ∙ all.only n none;
      }

  -- entries that try nothing change nothing of what was tried
  ends_quiet : (shows : ℕ → Type 0) (es fs : List (Entry G)) (tick pump : Result Ticket EnterFault) → tries_in fs ≡ [] → EndsWith shows es tick pump → EndsWith shows (es ++ fs) tick pump
  ends_quiet shows es fs tick pump quiet e =
      let same : tries_in (es ++ fs) ≡ tries_in es = tries_append es fs ∙ (ap (λ z. tries_in es ++ z) quiet ∙ append-nil (tries_in es)) in record {
        tries = subst (λ z. AreLast z tick pump) (sym same) e.tries;
        shown = subst (λ z. All (λ (one : Try). shows one.moment) z) (sym same) e.shown;
      }

  -- ---- a desk that was closed

  -- a history with all workings of a server, of which this is all that it did at its end
  pub record Stays (shows : ℕ → Type 0) (old new : Option (List Send)) (history : List (ℕ × Entry G)) (w : Workings G) (attempts : List Attempt) (tick pump : Result Ticket EnterFault) : Type 0 where
    pub all : HasAll history w
    pub are : AreWorkings shows old new w attempts
    pub ends : EndsWith shows w.last tick pump

  same_quiet : (one : Entry G) (count : ℕ) → tried_by one ≡ [] → tries_in (replicate count one) ≡ []
  same_quiet one zero quiet = refl
  same_quiet one (suc count) quiet = ap (λ z. z ++ tries_in (replicate count one)) quiet ∙ same_quiet one count quiet

  -- the pass that has waited for the press has this
  pub closes : (shows : ℕ → Type 0) (old new : Option (List Send)) (told : G → Option Told) (size disk_faults emit_faults : G → ℕ) (p q : Known (Entry G) (CoreState × PressState G)) (ends : Ends) (tick pump : Result Ticket EnterFault) (floor : FloorState G)
      → (w : WorkedTogether shows old new p ends) → (e : HasEnded shows p q tick pump) → (c : IsClosed told size disk_faults emit_faults q floor)
      → Stays shows old new c.last.seen (record w.workings { last = e.entries ++ replicate c.waited.count (Looked Closing) }) w.attempts tick pump
  closes shows old new told size disk_faults emit_faults p q ends tick pump floor w e c =
      let k = c.waited.count in
      let more : List (Entry G) = replicate k (Looked Closing) in
      let v : Workings G = record w.workings { last = e.entries ++ more } in
      let number : c.last.number ≡ w.workings.server =
      ap (λ (k : Known (Entry G) (CoreState × PressState G)). k.number) c.sees.same ∙ (ap (λ (k : Known (Entry G) (CoreState × PressState G)). k.number) c.waited.same
      ∙ (ap (λ (k : Known (Entry G) (CoreState × PressState G)). k.number) e.worked.same ∙ w.number)) in
      let mine : c.last.mine ≡ w.workings.received ++ (e.entries ++ more) =
      ap (λ (k : Known (Entry G) (CoreState × PressState G)). k.mine) c.sees.same ∙ (ap (λ (k : Known (Entry G) (CoreState × PressState G)). k.mine) c.waited.same
      ∙ (ap (λ (z : List (Entry G)). z ++ more) (ap (λ (k : Known (Entry G) (CoreState × PressState G)). k.mine) e.worked.same ∙ ap (λ (z : List (Entry G)). z ++ e.entries) w.mine) ∙ append_assoc w.workings.received e.entries more)) in
      let carried : c.last.carried ≡ (w.workings.committer, w.workings.kept) ∷ ((w.workings.ticker, w.workings.ticked) ∷ []) =
      ap (λ (k : Known (Entry G) (CoreState × PressState G)). k.carried) c.sees.same ∙ (ap (λ (k : Known (Entry G) (CoreState × PressState G)). k.carried) c.waited.same
      ∙ (ap (λ (k : Known (Entry G) (CoreState × PressState G)). k.carried) e.worked.same ∙ w.carried)) in
      let calls : all_calls c.last ≡ calls_of v =
      ap (λ (n : ℕ). (n, c.last.mine) ∷ c.last.carried) number ∙ (ap (λ (z : List (Entry G)). (w.workings.server, z) ∷ c.last.carried) mine ∙ ap (λ (z : List (ℕ × List (Entry G))). (w.workings.server, w.workings.received ++ (e.entries ++ more)) ∷ z) carried) in
      let same1 : q ≡ record p { mine = p.mine ++ e.entries; seen = q.seen; mark = q.mark } = e.worked.same in
      let whole : IsWhole c.waiting = λ n. let is = w.whole n in
      let calls' : times n (all_calls c.waiting) ≡ times n (all_calls p) = ap (λ (k : Known (Entry G) (CoreState × PressState G)). times n (all_calls k)) c.waited.same ∙ ap (λ (k : Known (Entry G) (CoreState × PressState G)). times n (all_calls k)) same1 in
      let off : among n c.waiting.split_off ≡ among n p.split_off = ap (λ (k : Known (Entry G) (CoreState × PressState G)). among n k.split_off) c.waited.same ∙ ap (λ (k : Known (Entry G) (CoreState × PressState G)). among n k.split_off) same1 in omega arith in record {
        all = record {
          accounts = subst (λ z. Accounts c.last.seen z) calls c.sees.accounts;
          once = subst IsOnce calls c.sees.once;
          only = subst (λ z. NoOther c.last.seen z) calls (c.sees.only whole);
        };
        are = record { received = w.are.received; ticks = w.are.ticks; only_ticks = w.are.only_ticks; ticks_shown = w.are.ticks_shown; commits = w.are.commits };
        ends = ends_quiet shows e.entries more tick pump (same_quiet (Looked Closing) k refl) e.ends;
      }

  -- ---- and the last commit

  grow : (shows : ℕ → Type 0) (old new : Option (List Send)) (h : List (ℕ × Entry G)) (w : Workings G) (attempts : List Attempt) (tick pump : Result Ticket EnterFault) (e : Entry G) → tried_by e ≡ []
      → Stays shows old new h w attempts tick pump → Stays shows old new (h ++ (w.server, e) ∷ []) (record w { last = w.last ++ e ∷ [] }) attempts tick pump
  grow shows old new h w attempts tick pump e quiet s = record {
    all = grow_one h w e s.all;
    are = record { received = s.are.received; ticks = s.are.ticks; only_ticks = s.are.only_ticks; ticks_shown = s.are.ticks_shown; commits = s.are.commits };
    ends = ends_quiet shows w.last (e ∷ []) tick pump (ap (λ z. z ++ []) quiet) s.ends;
  }

  pub record HasGrown (shows : ℕ → Type 0) (old new : Option (List Send)) (h : List (ℕ × Entry G)) (attempts : List Attempt) (tick pump : Result Ticket EnterFault) : Type 0 where
    pub workings : Workings G
    pub stays : Stays shows old new h workings attempts tick pump

  grow_two : (shows : ℕ → Type 0) (old new : Option (List Send)) (h : List (ℕ × Entry G)) (w : Workings G) (attempts : List Attempt) (tick pump : Result Ticket EnterFault) (e f : Entry G) → tried_by e ≡ [] → tried_by f ≡ []
      → Stays shows old new h w attempts tick pump → HasGrown shows old new (h ++ (w.server, e) ∷ ((w.server, f) ∷ [])) attempts tick pump
  grow_two shows old new h w attempts tick pump e f quiet still s =
      let one = grow shows old new h w attempts tick pump e quiet s in
      let v : Workings G = record w { last = w.last ++ e ∷ [] } in
      let two = grow shows old new (h ++ (w.server, e) ∷ []) v attempts tick pump f still one in record {
        workings = record v { last = (w.last ++ e ∷ []) ++ f ∷ [] };
        stays = subst (λ z. Stays shows old new z (record v { last = (w.last ++ e ∷ []) ++ f ∷ [] }) attempts tick pump) (append_assoc h ((w.server, e) ∷ []) ((w.server, f) ∷ [])) two;
      }

  refused : (shows : ℕ → Type 0) (old new : Option (List Send)) (h es : List (ℕ × Entry G)) (w : Workings G) (attempts : List Attempt) (tick pump : Result Ticket EnterFault) (fault : CommitFault) → es ≡ (w.server, Looked (Refused fault)) ∷ []
      → Stays shows old new h w attempts tick pump → HasGrown shows old new (h ++ es) attempts tick pump
  refused shows old new h es w attempts tick pump fault are s = subst (λ z. HasGrown shows old new (h ++ z) attempts tick pump) (sym are) (record {
    workings = record w { last = w.last ++ Looked (Refused fault) ∷ [] };
    stays = grow shows old new h w attempts tick pump (Looked (Refused fault)) refl s;
  })

  pub settles : (shows : ℕ → Type 0) (old new : Option (List Send)) (h es : List (ℕ × Entry G)) (w : Workings G) (attempts : List Attempt) (tick pump : Result Ticket EnterFault) (a : Account G) (answer : Result ℕ CommitFault) → AreOfCommit a w.server es answer
      → Stays shows old new h w attempts tick pump → HasGrown shows old new (h ++ es) attempts tick pump
  settles shows old new h es w attempts tick pump a (Ok upto) are s = subst (λ z. HasGrown shows old new (h ++ z) attempts tick pump) (sym are.2) (grow_two shows old new h w attempts tick pump (Taken upto) (Returned upto are.1) refl refl s)
  settles shows old new h es w attempts tick pump a (Err commits.DiskFault) are s = subst (λ z. HasGrown shows old new (h ++ z) attempts tick pump) (sym are.3) (grow_two shows old new h w attempts tick pump (Taken are.0) (Failed are.0 are.2) refl refl s)
  settles shows old new h es w attempts tick pump a (Err (commits.Stopped at)) are s = refused shows old new h es w attempts tick pump (commits.Stopped at) are s
  settles shows old new h es w attempts tick pump a (Err (commits.Busy at upto)) are s = absurd are
  settles shows old new h es w attempts tick pump a (Err (commits.Nothing upto)) are s = refused shows old new h es w attempts tick pump (commits.Nothing upto) are s
  settles shows old new h es w attempts tick pump a (Err commits.NoMemory) are s = refused shows old new h es w attempts tick pump commits.NoMemory are s
