-- Seats that come, tell and join keep the rule, and so does the table at its opening.
use Rattle.std.proofs.Common.{◌≡◌, ◌≢◌, inl, inr, ⊎_elim, ℕ, ◌+◌, ◌<◌, ◌≤◌, List, [], ◌∷◌, length, set, refl, sym, ap, ◌∙◌, subst, arith, le_refl}
use mathlib.Core.Option.{Option, none, some, some-ne-none}
use mathlib.Core.Logic.{dite}
use native.Mathlib.Decide.{ℕ_discrete, dec_le}
use lib.ListN.{get_elem?}
use lib.Seq.{set-get_or}
use Rattle.std.specs.Prelude.{max}
use Rattle.atomic_table.specs.Table.{State, Me, step, keeps, Allows, Splits, Joins, opening}
use Rattle.atomic_table.proofs.Lists.{at_set, at_snoc, set_else, at_longer}
use Rattle.turnstile.specs.Histories.{times, among, Licensed}
use Rattle.turnstile.specs.ViewSteps.{IsWithin, own_number, newcomer, named, left_of, right_of, nobody, joined}
use Rattle.turnstile.specs.declared.view.View.{View}
use Rattle.turnstile.specs.declared.view.Place.{Place}
use Rattle.turnstile.specs.declared.view.Place.TheVariants.{Held}
use Rattle.turnstile.specs.declared.view.Stage.TheVariants.{Idle}
use Rattle.turnstile.specs.RuleSteps.{total, has_ticket, has_some_ticket, AreAbove, Fits, Kept}
use Rattle.turnstile.specs.Steps.{Named}
use Rattle.turnstile.proofs.Counts.{total_set, total_snoc, total_at, times_append, accounts_append, times_one, times_none, times_here, times_there, own_times, above_both, among_append, among_here, among_there, there_set, there_same}

module _ {T E O : Type 0} (stands : T → List (ℕ × E) → Type 0) (origin : T → O) (first : O) (licenses : List (ℕ × E) → ℕ → Type 0) where
  abbrev Log : Type 0
  Log = List (ℕ × E)

  abbrev right : T → Type 0
  right x = origin x ≡ first

  abbrev P : Type 0
  P = Place T E

  abbrev St : Type 0
  St = State P (View E O)

  abbrev M : Type 0
  M = Me P (View E O)

  abbrev Rule : St → Type 0
  Rule = Kept stands origin first licenses

  abbrev F : Log → ℕ → ℕ → List (Option P) → View E O → Type 0
  F = Fits stands origin first licenses

  abbrev ticket : ℕ → View E O → ℕ
  ticket t v = has_ticket t v.stage

  abbrev some_ticket : View E O → ℕ
  some_ticket v = has_some_ticket v.stage

  abbrev number : ℕ → View E O → ℕ
  number n v = times n v.calls

  abbrev debt : ℕ → View E O → ℕ
  debt n v = among n v.split_off

  pub opens : (x : T) → stands x [] → right x → Rule (opening (0 ∷ 0 ∷ 0 ∷ []) (Held x ∷ []) (newcomer first 0))
  opens x h r = record {
    log = [];
    drawn = 0;
    mark = 0;
    names = 1;
    words = refl;
    few = omega arith;
    counted = omega arith;
    licensed = λ ne. absurd (ne refl);
    locked = inl (Held x, refl, (h, r));
    each = λ k v at. ⊎_elim (λ none_there. absurd (some-ne-none v (sym none_there))) (λ (is : newcomer first 0 ≡ v). subst (F [] 0 0 (some (Held x) ∷ [])) is record {
      seen = ([], refl);
      told = ([], refl);
      calls = (refl, tt);
      marked = omega arith;
      licensed = λ ne. absurd (ne refl);
      staged = tt;
      whole = λ h. absurd h;
      from = λ o e. cc;
    }) (at_snoc [] (newcomer first 0) v k at);
    queue = λ t. omega arith;
    once = λ n. let one = times_one {E = E} n (0, []) in omega arith;
    owed = λ n pos below. absurd (omega arith);
    above = λ k v at. ⊎_elim (λ none_there. absurd (some-ne-none v (sym none_there))) (λ (is : newcomer first 0 ≡ v). subst (λ (z : View E O). AreAbove z.calls z.split_off) is (λ n here. absurd (omega arith))) (at_snoc [] (newcomer first 0) v k at);
    fresh = λ n above. (ap (λ (z : ℕ). z + 0) (times_none {E = E} n (0, []) (λ is. omega arith)), refl);
  }

  -- a seat comes to a number that no view has, and no entry
  pub names : (slots id : ℕ) (m : M) → 0 < length m.0.calls → Allows Rule slots id m 0 (λ n. n) (Named (step slots 0 0 0 none) m)
  names slots id m some_number s r wide at _ =
      let v : View E O = m.0 in let n : ℕ = r.names in let w : View E O = named v n in let old = r.each id v at in let f = r.fresh n (le_refl n) in
      let own : ℕ = own_number v.calls in let has : 1 ≤ number own v = own_times v.calls some_number in
      let lower : own < n = dite (dec_le n own) (λ le. let none_there = (r.fresh own le).0 in let a = total_at (number own) s.views id v at in absurd (omega arith)) (λ gt. omega arith) in
      let high : AreAbove v.calls (n ∷ v.split_off) = λ z there. dite (ℕ_discrete n z)
      (λ e. (own, (let x = lower in omega arith), has))
      (λ ne. r.above id v at z (let x = among_there z n v.split_off ne in omega arith)) in (
        w,
        keeps,
        tt,
        subst (λ (ws : List ℕ). Rule record { words = ws; homes = s.homes; views = set s.views id w }) (sym (set-get_or s.words 0 0)) record {
          log = r.log;
          drawn = r.drawn;
          mark = r.mark;
          names = n + 1;
          words = r.words;
          few = r.few;
          counted = let a = total_set some_ticket s.views id v w at in let c = r.counted in omega arith;
          licensed = r.licensed;
          locked = ⊎_elim inl (λ (i : (k : ℕ) × (u : View E O) × (get_elem? s.views k ≡ some u) × IsWithin u.stage).
              dite (ℕ_discrete i.0 id)
              (λ e. inr (id, w, there_set s.views id v w at, subst IsWithin (ap (λ (z : View E O). z.stage) (there_same s.views i.0 id i.1 v e i.2 at)) i.3))
              (λ ne. inr (i.0, i.1, set_else s.views id i.0 w ne ∙ i.2, i.3))) r.locked;
          each = λ k u there. ⊎_elim (λ (e : (k ≡ id) × (w ≡ u)). subst (F r.log r.drawn r.mark s.homes) e.1
              record { seen = old.seen; told = old.told; calls = (f.1, old.calls); marked = old.marked; licensed = old.licensed; staged = old.staged; whole = old.whole; from = old.from })
              (λ (e : (k ≢ id) × (get_elem? s.views k ≡ some u)). r.each k u e.1) (at_set s.views id k w u there);
          queue = λ t. let a = total_set (ticket t) s.views id v w at in let q = r.queue t in omega arith;
          once = λ z. let a = total_set (number z) s.views id v w at in let o = r.once z in dite (ℕ_discrete n z)
              (λ e. let none_there : total (number z) s.views ≡ 0 = (r.fresh z (omega arith)).0 in let one : number z w ≡ 1 + number z v = times_here z (n, []) v.calls e in omega arith)
              (λ ne. let same : number z w ≡ number z v = times_there z (n, []) v.calls ne in omega arith);
          owed = λ z pos below. let a = total_set (debt z) s.views id v w at in dite (ℕ_discrete n z)
              (λ e. let one : debt z w ≡ 1 + debt z v = among_here z n v.split_off e in omega arith)
              (λ ne. let same : debt z w ≡ debt z v = among_there z n v.split_off ne in let o = r.owed z pos (omega arith) in omega arith);
          above = λ k u there. ⊎_elim (λ (e : (k ≡ id) × (w ≡ u)). subst (λ (z : View E O). AreAbove z.calls z.split_off) e.1
              (λ z x. let h = high z x in let here = h.2 in (h.0, h.1, omega arith)))
              (λ (e : (k ≢ id) × (get_elem? s.views k ≡ some u)). r.above k u e.1) (at_set s.views id k w u there);
          fresh = λ z above. let g = r.fresh z (omega arith) in let a = total_set (number z) s.views id v w at in
              let same : number z w ≡ number z v = times_there z (n, []) v.calls (λ e. omega arith) in ((let b = g.0 in omega arith), g.1);
        },
        (n, refl, high, (let none_there = f.0 in let a = total_at (number n) s.views id v at in omega arith)),
      )

  -- the number in front is split off
  splits : (id n : ℕ) (before : View E O) → AreAbove before.calls (n ∷ before.split_off) → Splits Rule id (named before n) (left_of (named before n)) (right_of (named before n))
  splits id n before high s r at =
      let v : View E O = named before n in let l : View E O = left_of v in let w : View E O = right_of v in let first : List (View E O) = set s.views id l in let old = r.each id v at in record {
        log = r.log;
        drawn = r.drawn;
        mark = r.mark;
        names = r.names;
        words = r.words;
        few = r.few;
        counted = let x = total_set some_ticket s.views id v l at in let y = total_snoc some_ticket first w in let c = r.counted in omega arith;
        licensed = r.licensed;
        locked = ⊎_elim inl (λ (i : (k : ℕ) × (u : View E O) × (get_elem? s.views k ≡ some u) × IsWithin u.stage).
            dite (ℕ_discrete i.0 id)
            (λ e. inr (id, l, at_longer first (w ∷ []) id l (there_set s.views id v l at), subst IsWithin (ap (λ (z : View E O). z.stage) (there_same s.views i.0 id i.1 v e i.2 at)) i.3))
            (λ ne. inr (i.0, i.1, at_longer first (w ∷ []) i.0 i.1 (set_else s.views id i.0 l ne ∙ i.2), i.3))) r.locked;
        each = λ k u there. ⊎_elim (λ was. ⊎_elim
            (λ (e : (k ≡ id) × (l ≡ u)). subst (F r.log r.drawn r.mark s.homes) e.1 record { seen = old.seen; told = old.told; calls = old.calls.1; marked = old.marked; licensed = old.licensed; staged = old.staged; whole = old.whole; from = old.from })
            (λ (e : (k ≢ id) × (get_elem? s.views k ≡ some u)). r.each k u e.1) (at_set s.views id k l u was))
            (λ (is : w ≡ u). subst (F r.log r.drawn r.mark s.homes) is record { seen = old.seen; told = (r.log, refl); calls = (old.calls.0, tt); marked = old.marked; licensed = old.licensed; staged = tt; whole = λ h. absurd h; from = old.from })
            (at_snoc first w u k there);
        queue = λ t. let x = total_set (ticket t) s.views id v l at in let y = total_snoc (ticket t) first w in let q = r.queue t in omega arith;
        once = λ z. let x = total_set (number z) s.views id v l at in let y = total_snoc (number z) first w in let o = r.once z in omega arith;
        owed = λ z pos below. let x = total_set (debt z) s.views id v l at in let y = total_snoc (debt z) first w in let o = r.owed z pos below in omega arith;
        above = λ k u there. ⊎_elim (λ was. ⊎_elim
            (λ (e : (k ≡ id) × (l ≡ u)). subst (λ (z : View E O). AreAbove z.calls z.split_off) e.1 high)
            (λ (e : (k ≢ id) × (get_elem? s.views k ≡ some u)). r.above k u e.1) (at_set s.views id k l u was))
            (λ (is : w ≡ u). subst (λ (z : View E O). AreAbove z.calls z.split_off) is (λ z here. absurd (omega arith)))
            (at_snoc first w u k there);
        fresh = λ z above. let f = r.fresh z above in let x = total_set (number z) s.views id v l at in let y = total_snoc (number z) first w in ((let b = f.0 in omega arith), f.1);
      }

  pub splits_named : (slots id r : ℕ) (m m' : M) → Named (step slots 0 0 0 none) m r m' → Splits Rule id m'.0 (left_of m'.0) (right_of m'.0)
  splits_named slots id r m m' told = let view : m'.0 ≡ named m.0 told.0 = ap (λ (z : M). z.0) told.1 in
      subst (λ (z : View E O). Splits Rule id z (left_of z) (right_of z)) (sym view) (splits id told.0 m.0 told.2)

  pub joins : (id : ℕ) (v : View E O) (other : ℕ) (w : View E O) → w.stage ≡ Idle → Joins Rule id v other w (joined v w) nobody
  joins id v other w idle s r at ne there =
      let b : View E O = joined v w in let first : List (View E O) = set s.views id b in let last : List (View E O) = set first other nobody in
      let was : get_elem? s.views other ≡ some w = sym (set_else s.views id other b ne) ∙ there in
      let old = r.each id v at in let its = r.each other w was in let known = old.marked in let known' = its.marked in record {
        log = r.log;
        drawn = r.drawn;
        mark = r.mark;
        names = r.names;
        words = r.words;
        few = r.few;
        counted = let x = total_set some_ticket s.views id v b at in let y = total_set some_ticket first other w nobody there in let z : some_ticket w ≡ 0 = ap has_some_ticket idle in let c = r.counted in omega arith;
        licensed = r.licensed;
        locked = ⊎_elim inl (λ (i : (k : ℕ) × (u : View E O) × (get_elem? s.views k ≡ some u) × IsWithin u.stage).
            dite (ℕ_discrete i.0 other)
            (λ e. absurd (subst IsWithin (ap (λ (z : View E O). z.stage) (there_same s.views i.0 other i.1 w e i.2 was) ∙ idle) i.3))
            (λ apart. dite (ℕ_discrete i.0 id)
            (λ e. inr (id, b, set_else first other id nobody (λ x. ne (sym x)) ∙ there_set s.views id v b at, subst IsWithin (ap (λ (z : View E O). z.stage) (there_same s.views i.0 id i.1 v e i.2 at)) i.3))
            (λ apart'. inr (i.0, i.1, set_else first other i.0 nobody apart ∙ (set_else s.views id i.0 b apart' ∙ i.2), i.3)))) r.locked;
        each = λ k u here. ⊎_elim
            (λ (e : (k ≡ other) × (nobody ≡ u)). subst (F r.log r.drawn r.mark s.homes) e.1 record { seen = (r.log, refl); told = (r.log, refl); calls = tt; marked = omega arith; licensed = λ z. absurd (z refl); staged = tt; whole = λ h. absurd h; from = λ o e. cc })
            (λ (e : (k ≢ other) × (get_elem? first k ≡ some u)). ⊎_elim
            (λ (f : (k ≡ id) × (b ≡ u)). subst (F r.log r.drawn r.mark s.homes) f.1 record {
              seen = old.seen;
              told = its.seen;
              calls = accounts_append r.log v.calls w.calls old.calls its.calls;
              marked = omega arith;
              licensed = either_licensed r.log v.mark w.mark old.licensed its.licensed;
              staged = old.staged;
              whole = old.whole;
              from = old.from;
            })
            (λ (f : (k ≢ id) × (get_elem? s.views k ≡ some u)). r.each k u f.1) (at_set s.views id k b u e.1)) (at_set first other k nobody u here);
        queue = λ t. let x = total_set (ticket t) s.views id v b at in let y = total_set (ticket t) first other w nobody there in let q = r.queue t in omega arith;
        once = λ z. let x = total_set (number z) s.views id v b at in let y = total_set (number z) first other w nobody there in let q = r.once z in let sum = times_append z v.calls w.calls in omega arith;
        owed = λ z pos below. let x = total_set (debt z) s.views id v b at in let y = total_set (debt z) first other w nobody there in let o = r.owed z pos below in let sum = among_append z v.split_off w.split_off in omega arith;
        above = λ k u here. ⊎_elim
            (λ (e : (k ≡ other) × (nobody ≡ u)). subst (λ (z : View E O). AreAbove z.calls z.split_off) e.1 (λ z x. absurd (omega arith)))
            (λ (e : (k ≢ other) × (get_elem? first k ≡ some u)). ⊎_elim
            (λ (f : (k ≡ id) × (b ≡ u)). subst (λ (z : View E O). AreAbove z.calls z.split_off) f.1 (above_both v.calls w.calls v.split_off w.split_off (r.above id v at) (r.above other w was)))
            (λ (f : (k ≢ id) × (get_elem? s.views k ≡ some u)). r.above k u f.1) (at_set s.views id k b u e.1)) (at_set first other k nobody u here);
        fresh = λ z above. let f = r.fresh z above in
            let x = total_set (number z) s.views id v b at in let y = total_set (number z) first other w nobody there in let sum = times_append z v.calls w.calls in ((let q = f.0 in omega arith), f.1);
      }
    where
      either_licensed : (log : Log) (x y : ℕ) → Licensed licenses log x → Licensed licenses log y → Licensed licenses log (max x y)
      either_licensed log x y p q = dite (dec_le x y) (λ le. subst (Licensed licenses log) (let e : y ≡ max x y = omega arith in e) q)
          (λ gt. subst (Licensed licenses log) (let e : x ≡ max x y = omega arith in e) p)
