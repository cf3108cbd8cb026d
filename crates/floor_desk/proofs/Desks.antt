-- What a caller knows after its turn.
use Rattle.std.proofs.Common.{◌≡◌, ◌≢◌, ◌≤◌, ℕ, ◌+◌, List, [], ◌∷◌, ◌++◌, refl, sym, ap, ◌∙◌, subst, max, append_assoc}
use Rattle.std.proofs.lemmas.List.{append-nil, replicate_more}
use Rattle.std.specs.Prelude.{Option, Err, replicate}
use Rattle.ground_io.specs.Trace.{Told}
use Rattle.turnstile.specs.Histories.{entries_under}
use Rattle.turnstile.specs.Passes.{Identity, IsOf, Known, Sees, with_entry}
use Rattle.turnstile.proofs.Counts.{under_append, under_same}
use Rattle.noted.specs.declared.noted.Noted.{Noted}
use Rattle.alarm_core.specs.State.{CoreState}
use Rattle.alarm_journal.specs.Press.{PressState}
use Rattle.floor_desk.specs.declared.entry.Entry.{Entry}
use Rattle.floor_desk.specs.declared.entry.Entry.TheVariants.{Looked, Taken, Returned, Failed}
use Rattle.floor_desk.specs.declared.entry.Look.TheVariants.{Refused as Denied, Closing}
use Rattle.floor_desk.specs.declared.faults.CommitFault.{CommitFault}
use Rattle.floor_desk.specs.declared.faults.CommitFault.TheVariants as commits
use Rattle.floor_desk.specs.declared.load.Carried.{Carried}
use Rattle.floor_desk.specs.declared.load.Load.{Load}
use Rattle.floor_desk.specs.Accounts.{Account, Licenses, account, account_from, front_of, start}
use Rattle.floor_desk.specs.Legal.{IsLegal, IsLegalFrom}
use Rattle.floor_desk.specs.Carrying.{IsCarriedOut, LeftWith, Lends}
use Rattle.floor_desk.specs.Courses.{KeepsFronts}
use Rattle.floor_desk.specs.Desks.{MakesEntry, HasCommitted, HasTaken, Leaves, TakesPress, Waited}
use Rattle.floor_desk.specs.Standing.{FloorStands}
use Rattle.floor_desk.specs.States.{FloorState}
use Rattle.floor_desk.proofs.Growing.{carried_at, carried_still}
use Rattle.floor_desk.proofs.Histories.{IsStill, account_append, account_snoc, legal_after, legal_front, still_out}
use Rattle.floor_desk.proofs.Marks.{licensed_durable}

module _ {G : Type 0} (told : G → Option Told) (size disk_faults emit_faults : G → ℕ) where
  abbrev K : Type 0
  K = Known (Entry G) (CoreState × PressState G)

  -- the pass's own entries, at its turn, are those from before
  own_calls : (licenses : List (ℕ × Entry G) → ℕ → Type 0) (p q : K) → (s : Sees licenses p q) → entries_under p.number (p.seen ++ s.begins.0) ≡ p.mine
  own_calls licenses p q s =
      let number : q.number ≡ p.number = ap (λ (k : K). k.number) s.same in let mine : q.mine ≡ p.mine = ap (λ (k : K). k.mine) s.same in
      (λ i. entries_under (sym number i) (sym s.begins.1 i)) ∙ (s.accounts.0 ∙ mine)

  -- as many events are durable at its turn as its mark tells
  marked_at : (origin : CoreState × PressState G) (p q : K) → (s : Sees Licenses p q) → IsLegal told size disk_faults emit_faults origin q.seen → p.mark ≢ 0 → p.mark ≤ (account origin (p.seen ++ s.begins.0)).durable
  marked_at origin p q s legal some =
      let mark : q.mark ≡ p.mark = ap (λ (k : K). k.mark) s.same in
      let licensed : Licenses q.seen p.mark = subst (λ (m : ℕ). Licenses q.seen m) mark (s.licensed (λ none. some (sym mark ∙ none))) in
      subst (λ (z : List (ℕ × Entry G)). p.mark ≤ (account origin z).durable) s.begins.1 (licensed_durable told size disk_faults emit_faults origin q.seen p.mark legal licensed)

  -- a turn that was given back with an entry
  pub adds : (origin : CoreState × PressState G) (p q r : K) (e : Entry G) (floor : FloorState G) → Sees Licenses p q → r ≡ with_entry q e → floor.origin ≡ origin
      → FloorStands told size disk_faults emit_faults floor (q.seen ++ (q.number, e) ∷ []) → MakesEntry told size disk_faults emit_faults origin p r e
  adds origin p q r e floor s gave from f =
      let whole : IsLegal told size disk_faults emit_faults origin (q.seen ++ (q.number, e) ∷ []) = subst (λ (o : CoreState × PressState G). IsLegal told size disk_faults emit_faults o (q.seen ++ (q.number, e) ∷ [])) from f.legal in
      record {
        between = s.begins.0;
        same = gave ∙ (ap (λ (k : K). with_entry k e) s.same ∙ ap (λ (z : List (ℕ × Entry G)). record p { mine = p.mine ++ e ∷ []; seen = z ++ (p.number, e) ∷ [] }) s.begins.1);
        legal = subst (λ (z : List (ℕ × Entry G)). IsLegal told size disk_faults emit_faults origin z) (sym (ap (λ (k : K). k.seen) gave)) whole;
        own = own_calls Licenses p q s;
        marked = marked_at origin p q s (legal_front told size disk_faults emit_faults origin (start origin) q.seen ((q.number, e) ∷ []) whole);
      }

  -- the press left at this turn
  pub takes : (origin : CoreState × PressState G) (p q r : K) (upto : ℕ) (floor : FloorState G) → Sees Licenses p q → r ≡ with_entry q (Taken upto) → floor.origin ≡ origin
      → upto ≡ (account origin q.seen).state.events → FloorStands told size disk_faults emit_faults floor (q.seen ++ (q.number, Taken upto) ∷ []) → TakesPress told size disk_faults emit_faults origin p r upto
  unfolding adds
  takes origin p q r upto floor s gave from all f =
      let after = account_snoc (start origin) q.seen (q.number, Taken upto) in
      let seen : r.seen ≡ q.seen ++ (q.number, Taken upto) ∷ [] = ap (λ (k : K). k.seen) gave in record {
        adds = adds origin p q r (Taken upto) floor s gave from f;
        all = all ∙ ap (λ (h : List (ℕ × Entry G)). (account origin h).state.events) s.begins.1;
        has = record {
          loan = record { number = q.number; place = (account origin q.seen).long + 1; upto = upto };
          number = sym (ap (λ (k : K). k.number) gave);
          upto_is = refl;
          out = ap (λ (h : List (ℕ × Entry G)). (account origin h).loan) seen ∙ ap (λ (a : Account G). a.loan) after;
          own = (λ i. entries_under (gave i).number (gave i).seen) ∙ (under_same q.number q.seen (Taken upto) ∙ (ap (λ z. z ++ Taken upto ∷ []) s.accounts.0 ∙ sym (ap (λ (k : K). k.mine) gave)));
          fronts = subst (λ (h : List (ℕ × Entry G)). KeepsFronts origin (account origin h)) (sym seen) (subst (λ (o : CoreState × PressState G). KeepsFronts o (account o (q.seen ++ (q.number, Taken upto) ∷ []))) from f.shows.fronts);
        };
      }

  -- and the load belongs to what the pass has seen
  pub left : (origin : CoreState × PressState G) (q r : K) (load : Load G) → r ≡ with_entry q (Taken load.upto) → Lends told origin (account origin q.seen) load → LeftWith told origin (account origin r.seen) load
  left origin q r load gave lends =
      (account origin q.seen, q.number, ap (λ (k : K). account origin k.seen) gave ∙ account_snoc (start origin) q.seen (q.number, Taken load.upto), lends)

  cancel : {A : Type 0} (xs ys : List A) → xs ++ ys ≡ xs → ys ≡ []
  cancel [] ys e = e
  cancel (x ∷ xs) ys e = cancel xs ys (let f = e in cc)

  -- what a pass that took the press finds at a later turn: the press is still out, on its account
  pub still_taken : (origin : CoreState × PressState G) (licenses : List (ℕ × Entry G) → ℕ → Type 0) (p q : K) (upto : ℕ) → HasTaken origin p upto → Sees licenses p q → IsLegal told size disk_faults emit_faults origin q.seen → IsStill (account origin p.seen) (account origin q.seen)
  still_taken origin licenses p q upto t s legal =
      let rest : List (ℕ × Entry G) = s.begins.0 in let is : q.seen ≡ p.seen ++ rest = s.begins.1 in
      let number : q.number ≡ p.number = ap (λ (k : K). k.number) s.same in let mine : q.mine ≡ p.mine = ap (λ (k : K). k.mine) s.same in
      let same : entries_under p.number (p.seen ++ rest) ≡ p.mine = (λ i. entries_under (sym number i) (sym is i)) ∙ (s.accounts.0 ∙ mine) in
      let own : p.mine ++ entries_under p.number rest ≡ p.mine = ap (λ z. z ++ entries_under p.number rest) (sym t.own) ∙ (sym (under_append p.number p.seen rest) ∙ same) in
      let none_own : entries_under t.loan.number rest ≡ [] = ap (λ z. entries_under z rest) t.number ∙ cancel p.mine (entries_under p.number rest) own in
      let begin = start origin in
      let after : account origin q.seen ≡ account_from (account origin p.seen) rest = ap (λ (h : List (ℕ × Entry G)). account origin h) is ∙ account_append begin p.seen rest in
      subst (λ (a : Account G). IsStill (account origin p.seen) a) (sym after) (still_out told size disk_faults emit_faults origin (account origin p.seen) t.loan rest t.out
      (legal_after told size disk_faults emit_faults origin begin p.seen rest (subst (λ (h : List (ℕ × Entry G)). IsLegalFrom told size disk_faults emit_faults origin begin h) is legal)) none_own)

  -- the same, for the floor in hand at that turn
  pub open_at : (origin : CoreState × PressState G) (licenses : List (ℕ × Entry G) → ℕ → Type 0) (p q : K) (upto : ℕ) (floor : FloorState G) → HasTaken origin p upto → Sees licenses p q → floor.origin ≡ origin → FloorStands told size disk_faults emit_faults floor q.seen
      → IsStill (account origin p.seen) (account floor.origin q.seen)
  open_at origin licenses p q upto floor t s from f =
      subst (λ (o : CoreState × PressState G). IsStill (account origin p.seen) (account o q.seen)) (sym from)
      (still_taken origin licenses p q upto t s (subst (λ (o : CoreState × PressState G). IsLegal told size disk_faults emit_faults o q.seen) from f.legal))

  -- so what was carried out for the pass is what the floor waits for
  pub carried_for : (origin : CoreState × PressState G) (licenses : List (ℕ × Entry G) → ℕ → Type 0) (p q : K) (upto : ℕ) (floor : FloorState G) (carried : Carried G) → (t : HasTaken origin p upto) → Sees licenses p q → floor.origin ≡ origin → FloorStands told size disk_faults emit_faults floor q.seen
      → IsCarriedOut told size disk_faults emit_faults origin (account origin p.seen) upto (account origin p.seen).taken carried
      → IsCarriedOut told size disk_faults emit_faults floor.origin (account floor.origin q.seen) t.loan.upto (account floor.origin q.seen).taken carried
  carried_for origin licenses p q upto floor carried t s from f c =
      let a : Account G = account origin p.seen in
      let is : upto ≡ origin.0.events + a.taken.events = sym t.upto_is ∙ t.fronts.lent t.loan t.out in
      let legal : IsLegal told size disk_faults emit_faults origin q.seen = subst (λ (o : CoreState × PressState G). IsLegal told size disk_faults emit_faults o q.seen) from f.legal in
      subst (λ (u : ℕ). IsCarriedOut told size disk_faults emit_faults floor.origin (account floor.origin q.seen) u (account floor.origin q.seen).taken carried) (sym t.upto_is)
      (subst (λ (o : CoreState × PressState G). IsCarriedOut told size disk_faults emit_faults o (account o q.seen) upto (account o q.seen).taken carried) (sym from)
      (carried_still origin told size disk_faults emit_faults a (account origin q.seen) upto carried (still_taken origin licenses p q upto t s legal) t.fronts is c))

  -- and it belongs to the pass that took the press
  pub carried_out : (origin : CoreState × PressState G) (b : Account G) (load : Load G) (carried : Carried G) → LeftWith told origin b load → ((o : CoreState × PressState G) (a : Account G) → Lends told o a load → IsCarriedOut told size disk_faults emit_faults o a load.upto (front_of a) carried)
      → IsCarriedOut told size disk_faults emit_faults origin b load.upto b.taken carried
  carried_out origin b load carried (a, n, is, lends) does =
      subst (λ (x : Account G). IsCarriedOut told size disk_faults emit_faults origin x load.upto x.taken carried) (sym is) (carried_at origin told size disk_faults emit_faults a n load.upto carried (does origin a lends))

  -- both turns of a commit, and a mark
  pub leaves : (origin : CoreState × PressState G) (p q r s : K) (upto : ℕ) (e : Entry G) (mark : ℕ) → TakesPress told size disk_faults emit_faults origin p q upto → MakesEntry told size disk_faults emit_faults origin q r e → s ≡ record r { mark = mark } → Leaves told size disk_faults emit_faults origin p s upto e mark
  leaves origin p q r s upto e mark t a marked = record {
    before = t.adds.between;
    between = a.between;
    same = marked ∙ (ap (λ (k : K). record k { mark = mark }) a.same ∙ ap (λ (k : K). record k { mine = k.mine ++ e ∷ []; seen = (k.seen ++ a.between) ++ (k.number, e) ∷ []; mark = mark }) t.adds.same);
    all = t.all;
    legal = subst (λ (h : List (ℕ × Entry G)). IsLegal told size disk_faults emit_faults origin h) (sym (ap (λ (k : K). k.seen) marked)) a.legal;
    own = t.adds.own;
    marked = t.adds.marked;
  }

  -- neither turn has changed the mark
  pub mark_stays : (origin : CoreState × PressState G) (p q r : K) (upto : ℕ) (e : Entry G) → TakesPress told size disk_faults emit_faults origin p q upto → MakesEntry told size disk_faults emit_faults origin q r e → r.mark ≡ p.mark
  mark_stays origin p q r upto e t a = ap (λ (k : K). k.mark) a.same ∙ ap (λ (k : K). k.mark) t.adds.same

  -- a commit whose press came back, and its mark
  pub writes : (origin : CoreState × PressState G) (p q r s : K) (to upto : ℕ) (e : Entry G) (memo : Noted (PressState G)) → TakesPress told size disk_faults emit_faults origin p q to → MakesEntry told size disk_faults emit_faults origin q r e → e ≡ Returned upto memo → upto ≡ to
      → s ≡ record r { mark = max r.mark upto } → Leaves told size disk_faults emit_faults origin p s upto (Returned upto memo) (max p.mark upto)
  writes origin p q r s to upto e memo t a is same marked =
      let t' : TakesPress told size disk_faults emit_faults origin p q upto = subst (λ u. TakesPress told size disk_faults emit_faults origin p q u) (sym same) t in
      let a' : MakesEntry told size disk_faults emit_faults origin q r (Returned upto memo) = subst (λ (x : Entry G). MakesEntry told size disk_faults emit_faults origin q r x) is a in
      leaves origin p q r s upto (Returned upto memo) (max p.mark upto) t' a' (marked ∙ ap (λ z. record r { mark = max z upto }) (mark_stays origin p q r upto (Returned upto memo) t' a'))

  -- a commit whose disk failed
  pub fails : (origin : CoreState × PressState G) (p q r : K) (to upto : ℕ) (e : Entry G) (memo : Noted G) → TakesPress told size disk_faults emit_faults origin p q to → MakesEntry told size disk_faults emit_faults origin q r e → e ≡ Failed upto memo → upto ≡ to → Leaves told size disk_faults emit_faults origin p r upto (Failed upto memo) p.mark
  fails origin p q r to upto e memo t a is same =
      let t' : TakesPress told size disk_faults emit_faults origin p q upto = subst (λ u. TakesPress told size disk_faults emit_faults origin p q u) (sym same) t in
      let a' : MakesEntry told size disk_faults emit_faults origin q r (Failed upto memo) = subst (λ (x : Entry G). MakesEntry told size disk_faults emit_faults origin q r x) is a in
      leaves origin p q r r upto (Failed upto memo) p.mark t' a' (ap (λ z. record r { mark = z }) (mark_stays origin p q r upto (Failed upto memo) t' a'))

  -- a commit that was refused; none is for a disk that failed
  pub refused_commits : (origin : CoreState × PressState G) (p q : K) (fault : CommitFault) → MakesEntry told size disk_faults emit_faults origin p q (Looked (Denied fault)) → HasCommitted told size disk_faults emit_faults origin p q (Err fault)
  refused_commits origin p q (commits.Stopped at) a = a
  refused_commits origin p q (commits.Busy at upto) a = a
  refused_commits origin p q (commits.Nothing upto) a = a
  refused_commits origin p q commits.NoMemory a = a
  refused_commits origin p q commits.DiskFault a =
      let seen : q.seen ≡ (p.seen ++ a.between) ++ (p.number, Looked (Denied commits.DiskFault)) ∷ [] = ap (λ (k : K). k.seen) a.same in
      absurd ((legal_after told size disk_faults emit_faults origin (start origin) (p.seen ++ a.between) ((p.number, Looked (Denied commits.DiskFault)) ∷ []) (subst (λ (h : List (ℕ × Entry G)). IsLegalFrom told size disk_faults emit_faults origin (start origin) h) seen a.legal)).0)

module _ {G : Type 0} where
  -- nothing was waited for
  pub waited_here : (p : Known (Entry G) (CoreState × PressState G)) → Waited p p
  waited_here p = record {
    count = 0;
    begins = ([], sym (append-nil p.seen));
    same = ap (λ (z : List (Entry G)). record p { mine = z; seen = p.seen }) (sym (append-nil p.mine));
  }

  -- one turn more was given back
  pub waited_more : (licenses : List (ℕ × Entry G) → ℕ → Type 0) (p q r s : Known (Entry G) (CoreState × PressState G)) → Waited p q → Sees licenses q r → s ≡ with_entry r (Looked Closing) → Waited p s
  waited_more licenses p q r s w t gave =
      let e : Entry G = Looked Closing in
      let last : List (ℕ × Entry G) = (p.number, e) ∷ [] in
      let one : s ≡ record q { mine = q.mine ++ e ∷ []; seen = r.seen ++ (q.number, e) ∷ [] } = gave ∙ ap (λ (k : Known (Entry G) (CoreState × PressState G)). with_entry k e) t.same in
      let two : s ≡ record p { mine = (p.mine ++ replicate w.count e) ++ e ∷ []; seen = r.seen ++ last } =
      one ∙ ap (λ (k : Known (Entry G) (CoreState × PressState G)). record k { mine = k.mine ++ e ∷ []; seen = r.seen ++ (k.number, e) ∷ [] }) w.same in
      let more : (p.mine ++ replicate w.count e) ++ e ∷ [] ≡ p.mine ++ replicate (w.count + 1) e = append_assoc p.mine (replicate w.count e) (e ∷ []) ∙ ap (λ (z : List (Entry G)). p.mine ++ z) (replicate_more w.count e) in
      let three : s ≡ record p { mine = p.mine ++ replicate (w.count + 1) e; seen = r.seen ++ last } = two ∙ ap (λ (z : List (Entry G)). record p { mine = z; seen = r.seen ++ last }) more in
      let seen : s.seen ≡ r.seen ++ last = ap (λ (k : Known (Entry G) (CoreState × PressState G)). k.seen) three in record {
        count = w.count + 1;
        begins = (
          (w.begins.0 ++ t.begins.0) ++ last,
          seen ∙ (ap (λ (z : List (ℕ × Entry G)). z ++ last) (t.begins.1 ∙ (ap (λ (z : List (ℕ × Entry G)). z ++ t.begins.0) w.begins.1 ∙ append_assoc p.seen w.begins.0 t.begins.0)) ∙ append_assoc p.seen (w.begins.0 ++ t.begins.0) last),
        );
        same = three ∙ ap (λ (z : List (ℕ × Entry G)). record p { mine = p.mine ++ replicate (w.count + 1) e; seen = z }) (sym seen);
      }

  -- the pass is still one of its turnstile
  pub still_of : (licenses : List (ℕ × Entry G) → ℕ → Type 0) (t : Identity (CoreState × PressState G)) (p q s : Known (Entry G) (CoreState × PressState G)) (e : Entry G) → IsOf t p → Sees licenses p q → s ≡ with_entry q e → IsOf t s
  still_of licenses t p q s e is sees gave =
      let after : s ≡ with_entry (record p { seen = q.seen }) e = gave ∙ ap (λ (k : Known (Entry G) (CoreState × PressState G)). with_entry k e) sees.same in record {
        table = ap (λ (k : Known (Entry G) (CoreState × PressState G)). k.table) after ∙ is.table;
        origin = ap (λ (k : Known (Entry G) (CoreState × PressState G)). k.origin) after ∙ is.origin;
      }
