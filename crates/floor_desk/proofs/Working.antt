-- What a pass made, one stretch after the other.
use Rattle.std.proofs.Common.{Option, ◌≡◌, ◌≤◌, ℕ, List, [], ◌∷◌, ◌++◌, refl, sym, ap, ◌∙◌, subst, le_refl, le_trans, append_assoc, max, arith}
use Rattle.std.proofs.lemmas.List.{append-nil}
use Rattle.std.proofs.lemmas.List.Elements.{All-cons, All-head, All-nil, All-tail}
use Rattle.std.proofs.Math.Nat.{le-max_left}
use Rattle.std.proofs.lemmas.Grind.{flat_map-append}
use Rattle.std.specs.Prelude.{Result, Ok, Err}
use Rattle.std.specs.List.{All}
use Rattle.bac_values.specs.declared.input.Input.{Input}
use Rattle.ground_io.specs.Trace.{Told}
use Rattle.turnstile.specs.Passes.{Known}
use Rattle.noted.specs.declared.noted.Noted.{Noted}
use Rattle.alarm_core.specs.State.{CoreState}
use Rattle.alarm_journal.specs.Press.{PressState}
use Rattle.floor_desk.specs.declared.entry.Entry.{Entry}
use Rattle.floor_desk.specs.declared.entry.Entry.TheVariants.{Event, Looked, Taken, Returned, Failed}
use Rattle.floor_desk.specs.declared.entry.Kind.{Kind}
use Rattle.floor_desk.specs.declared.entry.Kind.TheVariants as kinds
use Rattle.floor_desk.specs.declared.entry.Look.TheVariants.{Tried, Refused, Closing}
use Rattle.floor_desk.specs.declared.entry.Ticket.{Ticket}
use Rattle.floor_desk.specs.declared.faults.CommitFault.{CommitFault}
use Rattle.floor_desk.specs.declared.faults.CommitFault.TheVariants as commits
use Rattle.floor_desk.specs.declared.faults.EnterFault.{EnterFault}
use Rattle.floor_desk.specs.declared.desk.Standing.{Standing}
use Rattle.floor_desk.specs.declared.desk.Standing.TheVariants.{Durable, NotYet}
use Rattle.floor_desk.specs.Accounts.{entry_by, entry_for}
use Rattle.floor_desk.specs.Desks.{MakesEntry, HasCommitted, TellsStanding, Leaves}
use Rattle.floor_desk.specs.Tries.{IsOfCommit, IsOfInput, tried_by, tries_in}
use Rattle.floor_desk.specs.Workers.{MadeEntries, calls_in}

module _ {G : Type 0} where
  -- nothing was made
  pub worked_none : (p : Known (Entry G) (CoreState × PressState G)) → MadeEntries p p []
  worked_none p = record {
    begins = ([], sym (append-nil p.seen));
    same = ap (λ (z : List (Entry G)). record p { mine = z; seen = p.seen; mark = p.mark }) (sym (append-nil p.mine));
    mark = le_refl p.mark;
  }

  -- one stretch behind the other
  pub worked_then : (p q r : Known (Entry G) (CoreState × PressState G)) (es fs : List (Entry G)) → MadeEntries p q es → MadeEntries q r fs → MadeEntries p r (es ++ fs)
  worked_then p q r es fs a b =
      let mine : (q.mine ++ fs) ≡ p.mine ++ (es ++ fs) = ap (λ z. z ++ fs) (ap (λ (k : Known (Entry G) (CoreState × PressState G)). k.mine) a.same) ∙ append_assoc p.mine es fs in record {
        begins = (a.begins.0 ++ b.begins.0, b.begins.1 ∙ (ap (λ z. z ++ b.begins.0) a.begins.1 ∙ append_assoc p.seen a.begins.0 b.begins.0));
        same = b.same ∙ (ap (λ (k : Known (Entry G) (CoreState × PressState G)). record k { mine = q.mine ++ fs; seen = r.seen; mark = r.mark }) a.same ∙ ap (λ (z : List (Entry G)). record p { mine = z; seen = r.seen; mark = r.mark }) mine);
        mark = le_trans a.mark b.mark;
      }

  -- ---- what the entries tried

  pub tries_append : (es fs : List (Entry G)) → tries_in (es ++ fs) ≡ tries_in es ++ tries_in fs
  tries_append es fs = flat_map-append tried_by es fs

  tries_cons : (e : Entry G) (es : List (Entry G)) → tries_in (e ∷ es) ≡ tried_by e ++ tries_in es
  tries_cons e es = refl

  quiet_commit : (e : Entry G) → IsOfCommit e → tried_by e ≡ []
  quiet_commit (Taken upto) is = refl
  quiet_commit (Returned upto press) is = refl
  quiet_commit (Failed upto device) is = refl
  quiet_commit (Looked (Refused fault)) is = refl
  quiet_commit (Looked (Tried input moment answer)) is = absurd is
  quiet_commit (Looked Closing) is = absurd is
  quiet_commit (Event input moment ticket) is = absurd is

  -- a commit tries nothing
  pub no_tries : (es : List (Entry G)) → All IsOfCommit es → tries_in es ≡ []
  no_tries [] all = refl
  no_tries (e ∷ es) all = ap (λ z. z ++ tries_in es) (quiet_commit e (All-head IsOfCommit e es all)) ∙ no_tries es (All-tail IsOfCommit e es all)

  by_kind : (e : Entry G) (memo : Noted Input) (moment number : ℕ) (kind : Kind) → e ≡ entry_by memo moment number kind → tried_by e ≡ record { input = memo.value; moment = moment; answer = Ok record { number = number; kind = kind } } ∷ []
  by_kind e memo moment number kinds.Entered is = ap tried_by is
  by_kind e memo moment number kinds.Idle is = ap tried_by is
  by_kind e memo moment number kinds.Ignored is = ap tried_by is
  by_kind e memo moment number kinds.Replied is = ap tried_by is
  by_kind e memo moment number (kinds.Refused why) is = ap tried_by is

  -- the entry of an input tells what was tried
  pub tried_of : (e : Entry G) (memo : Noted Input) (moment : ℕ) (answer : Result Ticket EnterFault) → e ≡ entry_for memo moment answer → tried_by e ≡ record { input = memo.value; moment = moment; answer = answer } ∷ []
  tried_of e memo moment (Err fault) is = ap tried_by is
  tried_of e memo moment (Ok ticket) is = by_kind e memo moment ticket.number ticket.kind is

  input_kind : (e : Entry G) (memo : Noted Input) (moment number : ℕ) (kind : Kind) → e ≡ entry_by memo moment number kind → IsOfInput e
  input_kind e memo moment number kinds.Entered is = subst IsOfInput (sym is) tt
  input_kind e memo moment number kinds.Idle is = subst IsOfInput (sym is) tt
  input_kind e memo moment number kinds.Ignored is = subst IsOfInput (sym is) tt
  input_kind e memo moment number kinds.Replied is = subst IsOfInput (sym is) tt
  input_kind e memo moment number (kinds.Refused why) is = subst IsOfInput (sym is) tt

  pub is_of_input : (e : Entry G) (memo : Noted Input) (moment : ℕ) (answer : Result Ticket EnterFault) → e ≡ entry_for memo moment answer → IsOfInput e
  is_of_input e memo moment (Err fault) is = subst IsOfInput (sym is) tt
  is_of_input e memo moment (Ok ticket) is = input_kind e memo moment ticket.number ticket.kind is

-- ---- what a call of the desk made

module _ {G : Type 0} where
  -- an entry was made by one call, or it is the second of a commit
  pub calls_one : (e : Entry G) → calls_in (e ∷ []) ≤ 1
  calls_one (Event input moment ticket) = omega arith
  calls_one (Looked look) = omega arith
  calls_one (Taken upto) = omega arith
  calls_one (Returned upto press) = omega arith
  calls_one (Failed upto device) = omega arith

module _ {G : Type 0} (told : G → Option Told) (size disk_faults emit_faults : G → ℕ) (origin : CoreState × PressState G) where
  -- one entry
  pub worked_entry : (p q : Known (Entry G) (CoreState × PressState G)) (e : Entry G) → MakesEntry told size disk_faults emit_faults origin p q e → MadeEntries p q (e ∷ [])
  worked_entry p q e a =
      let seen : q.seen ≡ (p.seen ++ a.between) ++ (p.number, e) ∷ [] = ap (λ (k : Known (Entry G) (CoreState × PressState G)). k.seen) a.same in
      let mark : q.mark ≡ p.mark = ap (λ (k : Known (Entry G) (CoreState × PressState G)). k.mark) a.same in record {
        begins = (a.between ++ (p.number, e) ∷ [], seen ∙ append_assoc p.seen a.between ((p.number, e) ∷ []));
        same = a.same ∙ (ap (λ (z : List (ℕ × Entry G)). record p { mine = p.mine ++ e ∷ []; seen = z }) (sym seen) ∙ ap (λ (m : ℕ). record p { mine = p.mine ++ e ∷ []; seen = q.seen; mark = m }) (sym mark));
        mark = subst (λ m. p.mark ≤ m) (sym mark) (le_refl p.mark);
      }

  leaves_worked : (p q : Known (Entry G) (CoreState × PressState G)) (upto : ℕ) (e : Entry G) (mark : ℕ) → p.mark ≤ mark → Leaves told size disk_faults emit_faults origin p q upto e mark → MadeEntries p q (Taken upto ∷ (e ∷ []))
  leaves_worked p q upto e mark up l =
      let first : List (ℕ × Entry G) = (p.number, Taken upto) ∷ [] in
      let last : List (ℕ × Entry G) = (p.number, e) ∷ [] in
      let seen : q.seen ≡ (((p.seen ++ l.before) ++ first) ++ l.between) ++ last = ap (λ (k : Known (Entry G) (CoreState × PressState G)). k.seen) l.same in
      let is : q.mark ≡ mark = ap (λ (k : Known (Entry G) (CoreState × PressState G)). k.mark) l.same in
      let all : q.seen ≡ p.seen ++ (l.before ++ (first ++ (l.between ++ last))) =
      seen ∙ (append_assoc ((p.seen ++ l.before) ++ first) l.between last ∙ (append_assoc (p.seen ++ l.before) first (l.between ++ last) ∙ append_assoc p.seen l.before (first ++ (l.between ++ last)))) in
      let mine : (p.mine ++ Taken upto ∷ []) ++ e ∷ [] ≡ p.mine ++ Taken upto ∷ (e ∷ []) = append_assoc p.mine (Taken upto ∷ []) (e ∷ []) in record {
        begins = (l.before ++ (first ++ (l.between ++ last)), all);
        same = l.same ∙ (ap (λ (z : List (Entry G)). record p { mine = z; seen = (((p.seen ++ l.before) ++ first) ++ l.between) ++ last; mark = mark }) mine
            ∙ (ap (λ (z : List (ℕ × Entry G)). record p { mine = p.mine ++ Taken upto ∷ (e ∷ []); seen = z; mark = mark }) (sym seen) ∙ ap (λ (m : ℕ). record p { mine = p.mine ++ Taken upto ∷ (e ∷ []); seen = q.seen; mark = m }) (sym is)));
        mark = subst (λ m. p.mark ≤ m) (sym is) up;
      }

  -- a commit makes entries of a commit alone
  pub record MadeCommit (p q : Known (Entry G) (CoreState × PressState G)) : Type 0 where
    pub entries : List (Entry G)
    pub worked : MadeEntries p q entries
    pub parts : All IsOfCommit entries
    pub calls : calls_in entries ≤ 1

  refused_one : (p q : Known (Entry G) (CoreState × PressState G)) (fault : CommitFault) → MakesEntry told size disk_faults emit_faults origin p q (Looked (Refused fault)) → MadeCommit p q
  refused_one p q fault a = record { entries = Looked (Refused fault) ∷ []; worked = worked_entry p q (Looked (Refused fault)) a; parts = All-cons IsOfCommit (Looked (Refused fault)) [] tt (All-nil IsOfCommit); calls = omega arith }

  pub made_commit : (p q : Known (Entry G) (CoreState × PressState G)) (result : Result ℕ CommitFault) → HasCommitted told size disk_faults emit_faults origin p q result → MadeCommit p q
  made_commit p q (Ok upto) c = record {
    entries = Taken upto ∷ (Returned upto c.0 ∷ []);
    worked = leaves_worked p q upto (Returned upto c.0) (max p.mark upto) (le-max_left p.mark upto) c.1;
    parts = All-cons IsOfCommit (Taken upto) (Returned upto c.0 ∷ []) tt (All-cons IsOfCommit (Returned upto c.0) [] tt (All-nil IsOfCommit));
    calls = omega arith;
  }
  made_commit p q (Err commits.DiskFault) c = record {
    entries = Taken c.0 ∷ (Failed c.0 c.1 ∷ []);
    worked = leaves_worked p q c.0 (Failed c.0 c.1) p.mark (le_refl p.mark) c.2;
    parts = All-cons IsOfCommit (Taken c.0) (Failed c.0 c.1 ∷ []) tt (All-cons IsOfCommit (Failed c.0 c.1) [] tt (All-nil IsOfCommit));
    calls = omega arith;
  }
  made_commit p q (Err (commits.Stopped at)) c = refused_one p q (commits.Stopped at) c
  made_commit p q (Err (commits.Busy at upto)) c = refused_one p q (commits.Busy at upto) c
  made_commit p q (Err (commits.Nothing upto)) c = refused_one p q (commits.Nothing upto) c
  made_commit p q (Err commits.NoMemory) c = refused_one p q commits.NoMemory c

module _ {G : Type 0} where
  -- a look at the mark makes none
  marked_none : (p q : Known (Entry G) (CoreState × PressState G)) (mark : ℕ) → p.mark ≤ mark → q ≡ record p { mark = mark } → MadeEntries p q []
  marked_none p q mark up is =
      let seen : q.seen ≡ p.seen = ap (λ (k : Known (Entry G) (CoreState × PressState G)). k.seen) is in
      let m : q.mark ≡ mark = ap (λ (k : Known (Entry G) (CoreState × PressState G)). k.mark) is in record {
        begins = ([], seen ∙ sym (append-nil p.seen));
        same = is ∙ (ap (λ (z : List (Entry G)). record p { mine = z; mark = mark }) (sym (append-nil p.mine))
            ∙ (ap (λ (z : List (ℕ × Entry G)). record p { mine = p.mine ++ []; seen = z; mark = mark }) (sym seen) ∙ ap (λ (n : ℕ). record p { mine = p.mine ++ []; seen = q.seen; mark = n }) (sym m)));
        mark = subst (λ n. p.mark ≤ n) (sym m) up;
      }

  pub worked_look : (number : ℕ) (p q : Known (Entry G) (CoreState × PressState G)) (standing : Standing) → TellsStanding number p q standing → MadeEntries p q []
  worked_look number p q (Durable mark) t = marked_none p q mark t.1 t.2
  worked_look number p q (NotYet mark) t = marked_none p q mark t.1 t.2
