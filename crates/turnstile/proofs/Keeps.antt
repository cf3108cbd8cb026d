-- Each step on a word keeps the rule: the walk of a seat through its turn, and the marks.
use Rattle.std.proofs.Common.{◌≡◌, ◌≢◌, inl, inr, ⊎_elim, ℕ, suc, zero, ◌+◌, ◌%◌, ◌^◌, ◌<◌, ◌≤◌, Bool, true, List, [], ◌∷◌, ◌++◌, length, set, get_or, refl, sym, ap, ◌∙◌, subst, arith, append-nil, eq-eqb, ne_eqb, eqb, length-append}
use mathlib.Core.Option.{Option, none, some, some-injective}
use mathlib.Core.Logic.{dite}
use native.Mathlib.Decide.{ℕ_discrete, dec_le}
use lib.ListN.{get_elem?}
use lib.Seq.{set-get_or}
use prog.Atomic.{either}
use Rattle.std.specs.Prelude.{if◌then◌else◌, max}
use Rattle.noted.specs.declared.noted.Noted.{Noted}
use Rattle.atomic_table.specs.Table.{State, Me, Act, step, keeps, takes, gives, stepped, Allows, Enters, Splits, Joins, opening, put_back, homes_after, carried_after, Valid}
use Rattle.atomic_table.proofs.Lists.{at_set, set_else, exchanged}
use Rattle.turnstile.specs.Histories.{StartsWith, entries_under, times, among, NoOther, Licensed}
use Rattle.turnstile.specs.ViewSteps.{IsHolding, own_number, longer, is_within, IsWithin, shut_of, heard, at_stage, inside, after_call, with_mark}
use Rattle.turnstile.specs.declared.view.View.{View}
use Rattle.turnstile.specs.declared.view.Place.{Place}
use Rattle.turnstile.specs.declared.view.Place.TheVariants.{Empty, Held, Given}
use Rattle.turnstile.specs.declared.view.Stage.{Stage}
use Rattle.turnstile.specs.declared.view.Stage.TheVariants.{Idle, Waits, Within, Shut}
use Rattle.turnstile.specs.RuleSteps.{total, has_ticket, has_some_ticket, AreAbove, Staged, Holds, Fits, Locked, Kept}
use Rattle.turnstile.specs.Steps.{Drew, PassedOn, Settled, Closed, Raised, Loaded, Turned, Looked}
use Rattle.turnstile.proofs.Counts.{total_set, total_at, total_two, total_found, own_times, above_more, among_here, among_there, under_other, times_with_call, accounts_other, accounts_own, starts_append, total_zero, there_set, there_same, starts_both}
use Rattle.turnstile.proofs.Stages.{other_ticket, waits_same, within_some, within_is, within_served, more_drawn, restaged, within_out, shut_out}
use Rattle.std.proofs.lemmas.Bool.{le-leb, lt-leb}

module _ {T E O : Type 0} (stands : T → List (ℕ × E) → Type 0) (origin : T → O) (first : O) (licenses : List (ℕ × E) → ℕ → Type 0) where
  abbrev Log : Type 0
  Log = List (ℕ × E)

  abbrev right : T → Type 0
  right x = origin x ≡ first

  abbrev P : Type 0
  P = Place T E

  abbrev St : Type 0
  St = State P (View E O)

  abbrev M : Type 0
  M = Me P (View E O)

  abbrev Rule : St → Type 0
  Rule = Kept stands origin first licenses

  abbrev F : Log → ℕ → ℕ → List (Option P) → View E O → Type 0
  F = Fits stands origin first licenses

  abbrev ticket : ℕ → View E O → ℕ
  ticket t v = has_ticket t v.stage

  abbrev some_ticket : View E O → ℕ
  some_ticket v = has_some_ticket v.stage

  abbrev number : ℕ → View E O → ℕ
  number n v = times n v.calls

  abbrev debt : ℕ → View E O → ℕ
  debt n v = among n v.split_off

  -- the seat id goes from v to w, and the rest of the state to what is given
  moved : (s : St) (r : Rule s) (id : ℕ) (v w : View E O) (log : Log) (drawn mark : ℕ) (words : List ℕ) (homes : List (Option P)) → get_elem? s.views id ≡ some v
      → words ≡ drawn ∷ length log ∷ mark ∷ [] → drawn < 2 ^ 64 → (length log + some_ticket w) + r.drawn ≡ (drawn + some_ticket v) + length r.log → Licensed licenses log mark → Locked stands origin first licenses log homes (set s.views id w)
      → F log drawn mark homes w → ((k : ℕ) (u : View E O) → k ≢ id → get_elem? s.views k ≡ some u → F log drawn mark homes u)
      → ((t : ℕ) → total (ticket t) (set s.views id w) ≤ 1) → ((n : ℕ) → number n w ≡ number n v) → w.split_off ≡ v.split_off → ((n : ℕ) → r.names ≤ n → entries_under n log ≡ [])
      → Rule record { words = words; homes = homes; views = set s.views id w }
  moved s r id v w log drawn mark words homes at is few even licensed locked mine others queue same owes fresh = record {
    log = log;
    drawn = drawn;
    mark = mark;
    names = r.names;
    words = is;
    few = few;
    counted = let a = total_set some_ticket s.views id v w at in let c = r.counted in omega arith;
    licensed = licensed;
    locked = locked;
    each = λ k u there. ⊎_elim (λ (e : (k ≡ id) × (w ≡ u)). subst (F log drawn mark homes) e.1 mine) (λ (e : (k ≢ id) × (get_elem? s.views k ≡ some u)). others k u e.0 e.1) (at_set s.views id k w u there);
    queue = queue;
    once = λ n. let a = total_set (number n) s.views id v w at in let b = same n in let o = r.once n in omega arith;
    owed = λ n pos below. let a = total_set (debt n) s.views id v w at in let b : debt n w ≡ debt n v = ap (among n) owes in let o = r.owed n pos below in omega arith;
    above = λ k u there. ⊎_elim (λ (e : (k ≡ id) × (w ≡ u)). subst (λ (z : View E O). AreAbove z.calls z.split_off) e.1
        (subst (AreAbove w.calls) (sym owes) (above_more v.calls w.calls v.split_off (λ m. let b = same m in omega arith) (r.above id v at))))
        (λ (e : (k ≢ id) × (get_elem? s.views k ≡ some u)). r.above k u e.1) (at_set s.views id k w u there);
    fresh = λ n above. ((let a = total_set (number n) s.views id v w at in let b = same n in let o = (r.fresh n above).0 in omega arith), fresh n above);
  }

  -- the seat has the ticket of another only if it is the same seat
  one_ticket : (s : St) (r : Rule s) (t j k : ℕ) (v w : View E O) → get_elem? s.views j ≡ some v → get_elem? s.views k ≡ some w → has_ticket t v.stage ≡ 1 → has_ticket t w.stage ≡ 1 → j ≡ k
  one_ticket s r t j k v w a b x y = dite (ℕ_discrete j k) (λ e. e) (λ ne. let two = total_two (ticket t) s.views j k v w ne a b in let q = r.queue t in absurd (omega arith))

  -- a step that leaves the log and the slot as they are
  locked_still : (s : St) (r : Rule s) (id : ℕ) (v w : View E O) → get_elem? s.views id ≡ some v → (IsWithin v.stage → IsWithin w.stage) → Locked stands origin first licenses r.log s.homes s.views → Locked stands origin first licenses r.log s.homes (set s.views id w)
  locked_still s r id v w at keep l = ⊎_elim inl (λ (i : (k : ℕ) × (u : View E O) × (get_elem? s.views k ≡ some u) × IsWithin u.stage).
      dite (ℕ_discrete i.0 id)
      (λ e. inr (id, w, there_set s.views id v w at, keep (subst (λ (z : View E O). IsWithin z.stage) (there_same s.views i.0 id i.1 v e i.2 at) i.3)))
      (λ ne. inr (i.0, i.1, set_else s.views id i.0 w ne ∙ i.2, i.3))) l

  queue_same : (s : St) (r : Rule s) (id : ℕ) (v w : View E O) → get_elem? s.views id ≡ some v → ((t : ℕ) → ticket t w ≡ ticket t v) → (t : ℕ) → total (ticket t) (set s.views id w) ≤ 1
  queue_same s r id v w at same t = let a = total_set (ticket t) s.views id v w at in let b = same t in let q = r.queue t in omega arith

  -- a step that leaves the words, the slot and the log as they are
  still : (s : St) (r : Rule s) (i id : ℕ) (c : List (ℕ × P)) (v w : View E O) → get_elem? s.views id ≡ some v → (IsWithin v.stage → IsWithin w.stage) → (some_ticket w ≡ some_ticket v) → ((t : ℕ) → ticket t w ≡ ticket t v)
      → ((n : ℕ) → number n w ≡ number n v) → w.split_off ≡ v.split_off → F r.log r.drawn r.mark s.homes w → Rule (stepped s i (get_or s.words i 0) id c w keeps)
  still s r i id c v w at keep some_same tickets numbers owes mine = subst (λ (ws : List ℕ). Rule record { words = ws; homes = s.homes; views = set s.views id w }) (sym (set-get_or s.words i 0))
      (moved s r id v w r.log r.drawn r.mark s.words s.homes at r.words r.few (omega arith) r.licensed (locked_still s r id v w at keep r.locked) mine (λ k u ne there. r.each k u there)
      (queue_same s r id v w at tickets) numbers owes (λ n above. (r.fresh n above).1))

  -- a load that changes nothing
  unchanged : (s : St) (r : Rule s) (i id : ℕ) (c : List (ℕ × P)) (v : View E O) → get_elem? s.views id ≡ some v → Rule (stepped s i (get_or s.words i 0) id c v keeps)
  unchanged s r i id c v at = still s r i id c v v at (λ h. h) refl (λ t. refl) (λ n. refl) refl (r.each id v at)

  -- no view has the next ticket
  next_free : (s : St) (r : Rule s) → total (ticket r.drawn) s.views ≡ 0
  next_free s r = total_zero (ticket r.drawn) s.views (λ k v there. below v.stage (r.each k v there).staged)
    where
      below : (st : Stage) → Staged s.homes (length r.log) r.drawn st → has_ticket r.drawn st ≡ 0
      below Idle a = refl
      below (Waits t) a = ap (λ z. if z then 1 else 0) (ne_eqb t r.drawn (λ e. omega arith))
      below (Within t) a = let h = a.0 in ap (λ z. if z then 1 else 0) (ne_eqb t r.drawn (λ e. omega arith))
      below (Shut t) a = let h = a.0 in ap (λ z. if z then 1 else 0) (ne_eqb t r.drawn (λ e. omega arith))

  -- the next ticket is drawn
  ticketed : (s : St) (r : Rule s) (id : ℕ) (v : View E O) (n : ℕ) (c : List (ℕ × P)) → get_elem? s.views id ≡ some v → v.stage ≡ Idle → n ≡ r.drawn → n + 1 < 2 ^ 64 → Rule (stepped s 0 (n + 1) id c (at_stage v (Waits n)) keeps)
  ticketed s r id v n c at idle is room =
      let w : View E O = at_stage v (Waits n) in let old = r.each id v at in let not_within : IsWithin v.stage → IsWithin w.stage = λ h. absurd (subst IsWithin idle h) in
      moved s r id v w r.log (n + 1) r.mark (set s.words 0 (n + 1)) s.homes at (ap (λ (ws : List ℕ). set ws 0 (n + 1)) r.words) room (let none_yet : some_ticket v ≡ 0 = ap has_some_ticket idle in omega arith) r.licensed (locked_still s r id v w at not_within r.locked)
      record { seen = old.seen; told = old.told; calls = old.calls; marked = old.marked; licensed = old.licensed; staged = omega arith; whole = λ h. absurd h; from = old.from }
      (λ k u ne there. let o = r.each k u there in record { seen = o.seen; told = o.told; calls = o.calls; marked = o.marked; licensed = o.licensed; staged = more_drawn s.homes (length r.log) r.drawn (n + 1) u.stage (omega arith) o.staged; whole = o.whole; from = o.from })
      (λ t. let a = total_set (ticket t) s.views id v w at in let z : ticket t v ≡ 0 = ap (has_ticket t) idle in let q = r.queue t in
      dite (ℕ_discrete n t)
      (λ e. let free : total (ticket t) s.views ≡ 0 = subst (λ (u : ℕ). total (ticket u) s.views ≡ 0) (sym is ∙ e) (next_free s r) in let one : ticket t w ≡ 1 = ap (λ b. if b then 1 else 0) (eq-eqb n t e) in omega arith)
      (λ ne. let none_here : ticket t w ≡ 0 = other_ticket n t ne in omega arith))
      (λ m. refl) refl (λ m above. (r.fresh m above).1)

  pub draws : (slots id n : ℕ) (m : M) → m.0.stage ≡ Idle → n + 1 < 2 ^ 64 → Allows Rule slots id m 0 (λ y. either (eqb y n) (n + 1) y) (Drew (step slots 0 n (n + 1) none) m)
  draws slots id n m idle room s r wide at _ = let y : ℕ = get_or s.words 0 0 in let is : y ≡ r.drawn = ap (λ (ws : List ℕ). get_or ws 0 0) r.words in
      exchanged y n (n + 1) (λ z. (w : View E O) × (a : Act P) × Valid s.homes m.1 a × Rule (stepped s 0 z id m.1 w a) × Drew (step slots 0 n (n + 1) none) m y (w, carried_after m.1 a))
      (λ hit. (at_stage m.0 (Waits n), keeps, tt, ticketed s r id m.0 n m.1 at idle (sym hit ∙ is) room, ((λ _. refl), λ miss. absurd (miss hit))))
      (λ miss. (m.0, keeps, tt, unchanged s r 0 id m.1 m.0 at, ((λ hit. absurd (miss hit)), λ _. refl)))

  -- where a seat has the ticket that is served, no other is within
  alone : (s : St) (r : Rule s) (id : ℕ) (v : View E O) → get_elem? s.views id ≡ some v → has_ticket (length r.log) v.stage ≡ 1 → (k : ℕ) (u : View E O) → k ≢ id → get_elem? s.views k ≡ some u → IsWithin u.stage → ⊥
  alone s r id v at mine k u ne there h = ne (one_ticket s r (length r.log) k id u v there at (within_served s.homes (length r.log) r.drawn u.stage (r.each k u there).staged h) mine)

  -- a step that reads a word only, and moves the slot
  slotted : (s : St) (r : Rule s) (i id : ℕ) (v w : View E O) (homes : List (Option P)) → get_elem? s.views id ≡ some v → has_ticket (length r.log) v.stage ≡ 1 → Locked stands origin first licenses r.log homes (set s.views id w)
      → F r.log r.drawn r.mark homes w → (some_ticket w ≡ some_ticket v) → ((t : ℕ) → ticket t w ≡ ticket t v) → ((n : ℕ) → number n w ≡ number n v) → w.split_off ≡ v.split_off → Rule record { words = set s.words i (get_or s.words i 0); homes = homes; views = set s.views id w }
  slotted s r i id v w homes at mine locked fits some_same tickets numbers owes = subst (λ (ws : List ℕ). Rule record { words = ws; homes = homes; views = set s.views id w }) (sym (set-get_or s.words i 0))
      (moved s r id v w r.log r.drawn r.mark s.words homes at r.words r.few (omega arith) r.licensed locked fits
      (λ k u ne there. let o = r.each k u there in let out = alone s r id v at mine k u ne there in
      record { seen = o.seen; told = o.told; calls = o.calls; marked = o.marked; licensed = o.licensed; staged = restaged s.homes homes (length r.log) (length r.log) r.drawn u.stage out o.staged; whole = λ h. absurd (out h); from = o.from })
      (queue_same s r id v w at tickets) numbers owes (λ n above. (r.fresh n above).1))

  -- a seat that carries the first number and each that was split off from it carries all that were given away
  covers : (s : St) (r : Rule s) (id : ℕ) (v : View E O) → get_elem? s.views id ≡ some v → ((n : ℕ) → among n (0 ∷ v.split_off) ≤ number n v) → (bound n : ℕ) → n < bound → n < r.names → 1 ≤ number n v
  covers s r id v at whole zero n less below = absurd (omega arith)
  covers s r id v at whole (suc bound) n less below = dite (ℕ_discrete n 0)
      (λ e. let w = whole n in let here = among_here n 0 v.split_off (sym e) in omega arith)
      (λ pos. let f = total_found (debt n) s.views (r.owed n (omega arith) below) in let up = r.above f.0 f.1 f.2 n f.3 in
      let m : ℕ = up.0 in let lower : m < n = up.1 in let there : 1 ≤ number m f.1 = up.2 in
      let mine : 1 ≤ number m v = covers s r id v at whole bound m (omega arith) (omega arith) in
      dite (ℕ_discrete f.0 id)
      (λ e. let same : f.1 ≡ v = there_same s.views f.0 id f.1 v e f.2 at in let owes : 1 ≤ debt n v = subst (λ (z : View E O). 1 ≤ debt n z) same f.3 in
      let w = whole n in let apart = among_there n 0 v.split_off (λ z. pos (sym z)) in omega arith)
      (λ ne. let two = total_two (number m) s.views f.0 id f.1 v ne f.2 at in let o = r.once m in absurd (omega arith)))

  alone_in : (s : St) (r : Rule s) (id : ℕ) (v : View E O) → get_elem? s.views id ≡ some v → ((n : ℕ) → among n (0 ∷ v.split_off) ≤ number n v) → NoOther r.log v.calls
  alone_in s r id v at whole n nobody = dite (dec_le r.names n) (λ above. (r.fresh n above).1) (λ below. let c = covers s r id v at whole (suc n) n (omega arith) (omega arith) in absurd (omega arith))

  held_from : {R : T → Type 0} (log : Log) (p : P) → ((x : T) → right x → R x) → Holds stands right log p → Holds stands R log p
  held_from log Empty f h = absurd h
  held_from log (Held x) f h = (h.0, f x h.1)
  held_from log (Given x e) f h = (h.0, f x h.1)

  entered_turn : (s : St) (r : Rule s) (id t : ℕ) (m : M) → get_elem? s.views id ≡ some m.0 → m.0.stage ≡ Waits t → m.1 ≡ [] → length r.log ≡ t → (p : P) → s.homes ≡ some p ∷ [] → Holds stands right r.log p
      → Rule (stepped s 1 (get_or s.words 1 0) id m.1 (inside m.0 r.log t) (takes 0 p)) × Turned stands origin licenses m.0 t (inside m.0 r.log t, (0, p) ∷ m.1)
  entered_turn s r id t m at st empty is p home h =
      let v : View E O = m.0 in let w : View E O = inside v r.log t in let old = r.each id v at in
      let below : t < r.drawn = subst (Staged s.homes (length r.log) r.drawn) st old.staged in let few : r.drawn < 2 ^ 64 = r.few in
      let own : has_ticket (length r.log) v.stage ≡ 1 = ap (has_ticket (length r.log)) st ∙ ap (λ b. if b then 1 else 0) (eq-eqb t (length r.log) (sym is)) in
      let out : set s.homes 0 none ≡ none ∷ [] = ap (λ (hs : List (Option P)). set hs 0 none) home in (
        slotted s r 1 id v w (set s.homes 0 none) at own (inr (id, w, there_set s.views id v w at, tt))
            record { seen = ([], sym (append-nil r.log)); told = old.told; calls = old.calls; marked = old.marked; licensed = old.licensed; staged = (below, sym is, out); whole = λ _. refl; from = old.from }
            (sym (ap has_some_ticket st)) (λ u. sym (ap (has_ticket u) st)) (λ n. refl) refl,
        record {
          place = p;
          taken = ap (λ (c : List (ℕ × P)). (0, p) ∷ c) empty;
          holds = held_from r.log p (λ x e o is. e ∙ sym (old.from o is)) h;
          is = refl;
          long = is;
          small = omega arith;
          begins = old.seen;
          accounts = old.calls;
          once = λ n. let a = total_at (number n) s.views id v at in let o = r.once n in omega arith;
          only = alone_in s r id v at;
          licensed = old.licensed;
        },
      )

  pub looks : (slots id t : ℕ) (m : M) → m.0.stage ≡ Waits t → m.1 ≡ [] → Allows Rule slots id m 1 (λ n. n) (Looked stands origin licenses (step slots 1 0 0 none) m)
  looks slots id t m st empty s r wide at _ = let y : ℕ = get_or s.words 1 0 in let is : y ≡ length r.log = ap (λ (ws : List ℕ). get_or ws 1 0) r.words in
      dite (ℕ_discrete y t)
      (λ hit. ⊎_elim
      (λ (l : (p : P) × (s.homes ≡ some p ∷ []) × Holds stands right r.log p).
      let e = entered_turn s r id t m at st empty (sym is ∙ hit) l.0 l.1 l.2 in (
        inside m.0 r.log t,
        takes 0 l.0,
        ap (λ (hs : List (Option P)). get_elem? hs 0) l.1,
        e.0,
        (λ u su. let tu : t ≡ u = waits_same t u m.0.stage st su in ((λ _. subst (λ (z : ℕ). Turned stands origin licenses m.0 z (inside m.0 r.log t, (0, l.0) ∷ m.1)) tu e.1), λ miss. absurd (miss (hit ∙ tu)))),
      ))
      (λ (i : (k : ℕ) × (u : View E O) × (get_elem? s.views k ≡ some u) × IsWithin u.stage).
      let own : has_ticket (length r.log) m.0.stage ≡ 1 = ap (has_ticket (length r.log)) st ∙ ap (λ b. if b then 1 else 0) (eq-eqb t (length r.log) (sym hit ∙ is)) in
      absurd (dite (ℕ_discrete i.0 id) (λ e. subst IsWithin (ap (λ (z : View E O). z.stage) (there_same s.views i.0 id i.1 m.0 e i.2 at) ∙ st) i.3) (λ ne. alone s r id m.0 at own i.0 i.1 ne i.2 i.3)))
      r.locked)
      (λ miss. (m.0, keeps, tt, unchanged s r 1 id m.1 m.0 at, λ u su. ((λ hit. absurd (miss (hit ∙ sym (waits_same t u m.0.stage st su)))), λ _. refl)))

  small_mod : (n : ℕ) → n < 2 ^ 64 → n % 2 ^ 64 ≡ n
  small_mod n h = omega arith

  abbrev head_place : List (ℕ × P) → P
  head_place [] = Empty
  head_place (c ∷ cs) = c.1

  value_given : (x y : T) (e d : Noted E) → ◌≡◌ {A = List (ℕ × P)} ((0, Given x e) ∷ []) ((0, Given y d) ∷ []) → e.value ≡ d.value
  value_given x y e d is = let places : Given x e ≡ Given y d = ap head_place is in let same : e ≡ d = cc in ap (λ (z : Noted E). z.value) same

  rest_of : (c : List (ℕ × P)) (x : T) (e : Noted E) → c ≡ (0, Given x e) ∷ [] → Rattle.atomic_table.specs.Table.rest c ≡ []
  rest_of c x e is = ap Rattle.atomic_table.specs.Table.rest is

  module _ (more : (log rest : List (ℕ × E)) (to : ℕ) → licenses log to → licenses (log ++ rest) to) where
    licensed_more : (log rest : Log) (to : ℕ) → Licensed licenses log to → Licensed licenses (log ++ rest) to
    licensed_more log rest to l ne = more log rest to (l ne)

    passed_on : (s : St) (r : Rule s) (id : ℕ) (m : M) (x : T) (e : Noted E) → get_elem? s.views id ≡ some m.0 → m.1 ≡ (0, Given x e) ∷ [] → is_within m.0.stage ≡ true → 0 < length m.0.calls
        → stands x (m.0.seen ++ (own_number m.0.calls, e.value) ∷ []) → right x → Rule (stepped s 1 ((get_or s.words 1 0 + 1) % 2 ^ 64) id m.1 (after_call m.0 e.value) gives)
    passed_on s r id m x e at hand within some_number stand ok =
        let v : View E O = m.0 in let old = r.each id v at in let w : View E O = after_call v e.value in let k : ℕ = own_number v.calls in let n : ℕ = length r.log in
        let inside_is = within_is v.stage within in let whole : v.seen ≡ r.log = old.whole inside_is in let known = within_out s.homes n r.drawn v.stage within old.staged in
        let log' : Log = r.log ++ (k, e.value) ∷ [] in let below : n < r.drawn = known.1 in let few : r.drawn < 2 ^ 64 = r.few in
        let own : has_ticket n v.stage ≡ 1 = within_served s.homes n r.drawn v.stage old.staged inside_is in
        let k_here : 1 ≤ times k v.calls = own_times v.calls some_number in let k_once = r.once k in let k_total = total_at (number k) s.views id v at in
        let found : get_or s.words 1 0 ≡ n = ap (λ (ws : List ℕ). get_or ws 1 0) r.words in
        let long : length log' ≡ n + 1 = omega (arith, length-append r.log ((k, e.value) ∷ [])) in
        let next : (get_or s.words 1 0 + 1) % 2 ^ 64 ≡ length log' = ap (λ (z : ℕ). (z + 1) % 2 ^ 64) found ∙ (small_mod (n + 1) (omega arith) ∙ sym long) in
        let homes' : List (Option P) = put_back s.homes m.1 in
        let back : homes' ≡ some (Given x e) ∷ [] = (λ i. put_back (known.0 i) (hand i)) in
        moved s r id v w log' r.drawn r.mark (set s.words 1 ((get_or s.words 1 0 + 1) % 2 ^ 64)) homes' at
        (ap (λ (ws : List ℕ). set ws 1 ((get_or s.words 1 0 + 1) % 2 ^ 64)) r.words ∙ ap (λ (z : ℕ). r.drawn ∷ z ∷ r.mark ∷ []) next)
        r.few (let one : some_ticket v ≡ 1 = within_some v.stage within in omega arith) (licensed_more r.log ((k, e.value) ∷ []) r.mark r.licensed)
        (inl (Given x e, back, (subst (λ (z : Log). stands x (z ++ (k, e.value) ∷ [])) whole stand, ok)))
        record {
          seen = ([], sym (append-nil (v.seen ++ (k, e.value) ∷ []) ∙ ap (λ (z : Log). z ++ (k, e.value) ∷ []) whole));
          told = starts_append r.log v.told ((k, e.value) ∷ []) old.told;
          calls = accounts_own r.log e.value v.calls (omega arith) old.calls;
          marked = old.marked;
          licensed = licensed_more r.log ((k, e.value) ∷ []) v.mark old.licensed;
          staged = tt;
          whole = λ h. absurd h;
          from = old.from;
        }
        (λ j u ne there. let o = r.each j u there in let out = alone s r id v at own j u ne there in let two = total_two (number k) s.views j id u v ne there at in
        record {
          seen = starts_append r.log u.seen ((k, e.value) ∷ []) o.seen;
          told = starts_append r.log u.told ((k, e.value) ∷ []) o.told;
          calls = accounts_other k r.log e.value u.calls (omega arith) o.calls;
          marked = o.marked;
          licensed = licensed_more r.log ((k, e.value) ∷ []) u.mark o.licensed;
          staged = restaged s.homes homes' n (length log') r.drawn u.stage out o.staged;
          whole = λ h. absurd (out h);
          from = o.from;
        })
        (λ t. let a = total_set (ticket t) s.views id v w at in let q = r.queue t in omega arith)
        (λ z. times_with_call z v.calls e.value) refl
        (λ z above. let f = r.fresh z above in under_other z k r.log e.value (λ same. let none_there = (r.fresh k (subst (λ (y : ℕ). r.names ≤ y) (sym same) above)).0 in omega arith) ∙ f.1)

    gives_turn : (slots id : ℕ) (m : M) (x : T) (e : Noted E) → m.1 ≡ (0, Given x e) ∷ [] → is_within m.0.stage ≡ true → 0 < length m.0.calls
        → stands x (m.0.seen ++ (own_number m.0.calls, e.value) ∷ []) → right x → Allows Rule slots id m 1 (λ n. (n + 1) % 2 ^ 64) (PassedOn (step slots 1 1 0 none) m)
    gives_turn slots id m x e hand within some_number stand ok s r wide at _ = (
      after_call m.0 e.value,
      gives,
      tt,
      passed_on s r id m x e at hand within some_number stand ok,
      λ y d is. λ i. (after_call m.0 (value_given x y e d (sym hand ∙ is) i), rest_of m.1 x e hand i),
    )

    -- a seat that holds the turn puts the value back beside a memo of the entry, and passes the turn on
    pub gives_back : (slots id : ℕ) (m m1 : M) (x : T) (e : Noted E) (entry : E) → IsHolding m → m1 ≡ (m.0, (0, Given x e) ∷ Rattle.atomic_table.specs.Table.rest m.1) → e.value ≡ entry
        → stands x (m.0.seen ++ (own_number m.0.calls, entry) ∷ []) → right x → Allows Rule slots id m1 1 (λ n. (n + 1) % 2 ^ 64) (PassedOn (step slots 1 1 0 none) m1)
    gives_back slots id m m1 x e entry holds put says stand ok =
        let view : m1.0 ≡ m.0 = ap (λ (z : M). z.0) put in
        gives_turn slots id m1 x e (ap (λ (z : M). z.1) put ∙ ap (λ (z : List (ℕ × P)). (0, Given x e) ∷ Rattle.atomic_table.specs.Table.rest z) holds.0)
        (ap (λ (v : View E O). is_within v.stage) view ∙ holds.1)
        (subst (λ (v : View E O). 0 < length v.calls) (sym view) holds.2)
        (subst (λ (k : View E O × E). stands x (k.0.seen ++ (own_number k.0.calls, k.1) ∷ [])) (λ i. (sym view i, sym says i)) stand)
        ok

    pub raises : (slots id to : ℕ) (m : M) → Licensed licenses m.0.seen to → to < 2 ^ 64 → Allows Rule slots id m 2 (λ n. max n to) (Raised (step slots 2 to 0 none) m)
    raises slots id to m ok small s r wide at _ =
        let v : View E O = m.0 in let old = r.each id v at in let w : View E O = with_mark v (max v.mark to) in let top : ℕ = max r.mark to in
        let found : get_or s.words 2 0 ≡ r.mark = ap (λ (ws : List ℕ). get_or ws 2 0) r.words in
        let to_licensed : Licensed licenses r.log to = subst (λ (z : Log). Licensed licenses z to) (sym old.seen.1) (licensed_more v.seen old.seen.0 to ok) in
        let known = old.marked in (
          w,
          keeps,
          tt,
          moved s r id v w r.log r.drawn top (set s.words 2 (max (get_or s.words 2 0) to)) s.homes at
              (ap (λ (ws : List ℕ). set ws 2 (max (get_or s.words 2 0) to)) r.words ∙ ap (λ (z : ℕ). r.drawn ∷ length r.log ∷ max z to ∷ []) found) r.few (omega arith) (greater r.log r.mark to r.licensed to_licensed)
              (locked_still s r id v w at (λ h. h) r.locked)
              record { seen = old.seen; told = old.told; calls = old.calls; marked = omega arith; licensed = greater r.log v.mark to old.licensed to_licensed; staged = old.staged; whole = old.whole; from = old.from }
              (λ k u ne there. let o = r.each k u there in let below = o.marked in record { seen = o.seen; told = o.told; calls = o.calls; marked = omega arith; licensed = o.licensed; staged = o.staged; whole = o.whole; from = o.from })
              (queue_same s r id v w at (λ t. refl)) (λ n. refl) refl (λ n above. (r.fresh n above).1),
          refl,
        )
      where
        greater : (log : Log) (a b : ℕ) → Licensed licenses log a → Licensed licenses log b → Licensed licenses log (max a b)
        greater log a b x y = dite (dec_le a b) (λ le. subst (Licensed licenses log) (let e : b ≡ max a b = omega arith in e) y)
            (λ gt. subst (Licensed licenses log) (let e : a ≡ max a b = omega arith in e) x)

  pub loads : (slots id : ℕ) (m : M) → Allows Rule slots id m 2 (λ n. n) (Loaded (step slots 2 0 0 none) m)
  loads slots id m s r wide at _ =
      let v : View E O = m.0 in let old = r.each id v at in let y : ℕ = get_or s.words 2 0 in let w : View E O = with_mark v y in
      let found : y ≡ r.mark = ap (λ (ws : List ℕ). get_or ws 2 0) r.words in let known = old.marked in (
        w,
        keeps,
        tt,
        still s r 2 id m.1 v w at (λ h. h) refl (λ t. refl) (λ n. refl) refl
            record { seen = old.seen; told = old.told; calls = old.calls; marked = omega arith; licensed = subst (Licensed licenses r.log) (sym found) r.licensed; staged = old.staged; whole = old.whole; from = old.from },
        (omega arith, refl),
      )

  pub settles : (slots id : ℕ) (m : M) → m.0.stage ≡ Idle → Allows Rule slots id m 0 (λ n. n) (Settled (step slots 0 0 0 none) m)
  settles slots id m idle s r wide at _ =
      let v : View E O = m.0 in let old = r.each id v at in let w : View E O = heard v in
      let l = longest r.log v.seen v.told old.seen old.told in (
        w,
        keeps,
        tt,
        still s r 0 id m.1 v w at (λ h. h) refl (λ t. refl) (λ n. refl) refl
            record { seen = l.0; told = (r.log, refl); calls = old.calls; marked = old.marked; licensed = old.licensed; staged = old.staged; whole = λ h. absurd (subst IsWithin idle h); from = old.from },
        (refl, l.1, l.2, λ n. let a = total_at (number n) s.views id v at in let o = r.once n in omega arith),
      )
    where
      longest : (log a b : Log) → StartsWith log a → StartsWith log b → StartsWith log (longer a b) × StartsWith (longer a b) a × StartsWith (longer a b) b
      longest log a b x y = dite (dec_le (length a) (length b))
          (λ le. subst (λ (t : Bool). let l : Log = if t then b else a in StartsWith log l × StartsWith l a × StartsWith l b) (sym (le-leb (length a) (length b) le)) (y, starts_both log a b x y le, ([], sym (append-nil b))))
          (λ gt. subst (λ (t : Bool). let l : Log = if t then b else a in StartsWith log l × StartsWith l a × StartsWith l b) (sym (lt-leb (length a) (length b) (omega arith))) (x, ([], sym (append-nil a)), starts_both log b a y x (omega arith)))

  pub shuts : (slots id : ℕ) (m : M) → m.1 ≡ (0, Empty) ∷ [] → is_within m.0.stage ≡ true → Allows Rule slots id m 0 (λ n. n) (Closed (step slots 0 0 0 none) m)
  shuts slots id m hand within s r wide at _ =
      let v : View E O = m.0 in let old = r.each id v at in let w : View E O = at_stage v (shut_of v.stage) in let n : ℕ = length r.log in
      let inside_is = within_is v.stage within in let known = within_out s.homes n r.drawn v.stage within old.staged in
      let own : has_ticket n v.stage ≡ 1 = within_served s.homes n r.drawn v.stage old.staged inside_is in
      let homes' : List (Option P) = put_back s.homes m.1 in let back : homes' ≡ some Empty ∷ [] = (λ i. put_back (known.0 i) (hand i)) in (
        w,
        gives,
        tt,
        slotted s r 0 id v w homes' at own (inr (id, w, there_set s.views id v w at, shut_within v.stage within))
            record { seen = old.seen; told = old.told; calls = old.calls; marked = old.marked; licensed = old.licensed; staged = shut_staged s.homes homes' n r.drawn v.stage within back old.staged; whole = λ h. old.whole inside_is; from = old.from }
            (shut_some v.stage) (λ t. shut_ticket t v.stage) (λ k. refl) refl,
        (λ i. (w, Rattle.atomic_table.specs.Table.rest (hand i))),
      )
    where
      shut_within : (st : Stage) → is_within st ≡ true → IsWithin (shut_of st)
      shut_within Idle e = cc
      shut_within (Waits t) e = cc
      shut_within (Within t) e = tt
      shut_within (Shut t) e = tt

      shut_some : (st : Stage) → has_some_ticket (shut_of st) ≡ has_some_ticket st
      shut_some Idle = refl
      shut_some (Waits u) = refl
      shut_some (Within u) = refl
      shut_some (Shut u) = refl

      shut_ticket : (t : ℕ) (st : Stage) → has_ticket t (shut_of st) ≡ has_ticket t st
      shut_ticket t Idle = refl
      shut_ticket t (Waits u) = refl
      shut_ticket t (Within u) = refl
      shut_ticket t (Shut u) = refl

      shut_staged : (homes homes' : List (Option P)) (served drawn : ℕ) (st : Stage) → is_within st ≡ true → homes' ≡ some Empty ∷ [] → Staged homes served drawn st → Staged homes' served drawn (shut_of st)
      shut_staged homes homes' served drawn Idle e b a = cc
      shut_staged homes homes' served drawn (Waits t) e b a = cc
      shut_staged homes homes' served drawn (Within t) e b a = (a.0, a.1, b)
      shut_staged homes homes' served drawn (Shut t) e b a = cc

  pub closes : (s : St) (id : ℕ) (v w : View E O) (last : P) (slots : List P) → Rule s → get_elem? s.views id ≡ some w → w ≡ at_stage v (shut_of v.stage) → is_within v.stage ≡ true
      → ((k : ℕ) (y : P) → get_elem? s.homes k ≡ some (some y) → get_elem? slots k ≡ some y) → get_elem? slots 0 ≡ some last → last ≡ Empty
  closes s id v w last slots r at is within kept there =
      let out : s.homes ≡ some Empty ∷ [] = shut_out s.homes (length r.log) r.drawn v.stage within (subst (λ (z : View E O). Staged s.homes (length r.log) r.drawn z.stage) is (r.each id w at).staged) in
      some-injective last Empty (sym there ∙ kept 0 Empty (ap (λ (hs : List (Option P)). get_elem? hs 0) out))

module _ {T E O : Type 0} where
  -- what a seat knows after its turn was given back
  pub gave_me : (m m1 m2 : Me (Place T E) (View E O)) (x : T) (e : Noted E) (entry : E) → m.1 ≡ (0, Empty) ∷ [] → m1 ≡ (m.0, (0, Given x e) ∷ Rattle.atomic_table.specs.Table.rest m.1) → e.value ≡ entry
      → ((y : T) (d : Noted E) → m1.1 ≡ (0, Given y d) ∷ [] → m2 ≡ (after_call m1.0 d.value, [])) → m2 ≡ (after_call m.0 entry, [])
  gave_me m m1 m2 x e entry taken put says told =
      told x e (ap (λ (z : Me (Place T E) (View E O)). z.1) put ∙ ap (λ (z : List (ℕ × Place T E)). (0, Given x e) ∷ Rattle.atomic_table.specs.Table.rest z) taken) ∙ (λ i. (after_call (put i).0 (says i), []))
