-- From what a seat's view says to what contracts see of a pass.
use Rattle.std.proofs.Common.{◌≡◌, ℕ, ◌<◌, ◌≤◌, List, [], ◌∷◌, ◌++◌, length, refl, sym, ap, ◌∙◌, subst, arith}
use Rattle.atomic_table.specs.Table.{Me}
use Rattle.atomic_table.specs.Seated.{TableId}
use Rattle.turnstile.specs.Histories.{StartsWith, Accounts, times, IsOnce, NoOther, among}
use Rattle.turnstile.specs.Passes.{Known, all_calls, Sees, Joins}
use Rattle.turnstile.specs.ViewSteps.{own_number, own_calls, carried_calls, of_view, of_views, IsAtRest, AreAtRest, heard, joined, at_stage}
use Rattle.turnstile.specs.Steps.{Turned}
use Rattle.turnstile.specs.declared.view.View.{View}
use Rattle.turnstile.specs.declared.view.Place.{Place}
use Rattle.turnstile.specs.declared.view.Stage.TheVariants.{Waits}

-- the calls of a seat with a number are its own and those that it carries
all_of : {E : Type 0} (cs : List (ℕ × List E)) → 0 < length cs → (own_number cs, own_calls cs) ∷ carried_calls cs ≡ cs
all_of [] h = absurd (omega arith)
all_of (c ∷ cs) h = refl

-- calls that are added at the end are carried
front : {E : Type 0} (cs ds : List (ℕ × List E)) → 0 < length cs → (own_number (cs ++ ds) ≡ own_number cs) × (own_calls (cs ++ ds) ≡ own_calls cs) × (carried_calls (cs ++ ds) ≡ carried_calls cs ++ ds)
front [] ds h = absurd (omega arith)
front (c ∷ cs) ds h = (refl, refl, refl)

some_before : {E : Type 0} (cs ds : List (ℕ × List E)) → 0 < length cs → 0 < length (cs ++ ds)
some_before [] ds h = absurd (omega arith)
some_before (c ∷ cs) ds h = omega arith

module _ {E O : Type 0} where
  -- the seat that a badge became shows the same pass
  pub seated : (t : TableId) (views : List (View E O)) (v : View E O) (p : Known E O) → of_views t views ≡ p → views ≡ v ∷ [] → of_view t v ≡ p
  seated t views v p is one = sym (ap (of_views t) one) ∙ is

  pub rest_of_seat : (views : List (View E O)) (w : View E O) → AreAtRest views → views ≡ w ∷ [] → IsAtRest w
  rest_of_seat views w r is = let same : r.0 ≡ w = (let a = r.1 in cc) in subst IsAtRest same r.2

  -- a number that a seat has not stands not among the calls that its pass shows
  pub other_number : (t : TableId) (v : View E O) (p : Known E O) (n k : ℕ) → of_view t v ≡ p → 0 < length v.calls → times n v.calls ≡ 0 → k ≡ n → times k (all_calls p) ≡ 0
  other_number t v p n k is some_number none_there same = subst (λ (z : ℕ × List (ℕ × List E)). times z.0 z.1 ≡ 0) (λ i. (sym same i, (sym (all_of v.calls some_number) ∙ ap all_calls is) i)) none_there

  -- at its turn a seat sees what a pass is to see
  sees : {T : Type 0} (stands : T → List (ℕ × E) → Type 0) (origin : T → O) (licenses : List (ℕ × E) → ℕ → Type 0) (t t' : TableId) (v : View E O) (ticket : ℕ) (m : Me (Place T E) (View E O))
      → t' ≡ t → 0 < length v.calls → Turned stands origin licenses v ticket m → Sees licenses (of_view t v) (of_view t' m.0)
  sees stands origin licenses t t' v ticket m same some_number turned =
      let calls : m.0.calls ≡ v.calls = ap (λ (w : View E O). w.calls) turned.is in
      let mark : m.0.mark ≡ v.mark = ap (λ (w : View E O). w.mark) turned.is in
      let owes : m.0.split_off ≡ v.split_off = ap (λ (w : View E O). w.split_off) turned.is in
      let mine = all_of m.0.calls (subst (λ (cs : List (ℕ × List E)). 0 < length cs) (sym calls) some_number) in record {
        begins = turned.begins;
        same = λ i. record {
          table = same i;
          origin = ap (λ (w : View E O). w.origin) turned.is i;
          number = own_number (calls i);
          mine = own_calls (calls i);
          carried = carried_calls (calls i);
          split_off = owes i;
          seen = m.0.seen;
          mark = mark i;
        };
        accounts = subst (Accounts m.0.seen) (sym mine) (subst (Accounts m.0.seen) (sym calls) turned.accounts);
        once = subst IsOnce (sym mine) (subst IsOnce (sym calls) turned.once);
        only = λ whole. subst (NoOther m.0.seen) (sym mine) (subst (NoOther m.0.seen) (sym calls) (turned.only (λ n. subst (λ (cs : List (ℕ × List E)). among n (0 ∷ v.split_off) ≤ times n cs) (all_of v.calls some_number) (whole n))));
        licensed = λ ne. subst (licenses m.0.seen) (sym mark) (turned.licensed (λ zero. ne (mark ∙ zero)));
      }

  -- the same after the seat drew its ticket (m to drawn), waited (to come), and took the value out (to now)
  pub turn_shown : {T : Type 0} (stands : T → List (ℕ × E) → Type 0) (origin : T → O) (licenses : List (ℕ × E) → ℕ → Type 0) (t t' : TableId) (ticket : ℕ) (m drawn come now : Me (Place T E) (View E O)) (held : List (ℕ × Place T E))
      → t' ≡ t → 0 < length m.0.calls → drawn ≡ (at_stage m.0 (Waits ticket), m.1) → Turned stands origin licenses drawn.0 ticket come → now ≡ (come.0, held) → Sees licenses (of_view t m.0) (of_view t' now.0)
  turn_shown {T} stands origin licenses t t' ticket m drawn come now held same some_number draws turned took =
      subst (λ (z : Me (Place T E) (View E O)). Sees licenses (of_view t m.0) (of_view t' z.0)) (sym took)
      (sees stands origin licenses t t' (at_stage m.0 (Waits ticket)) ticket come same some_number
      (subst (λ (z : Me (Place T E) (View E O)). Turned stands origin licenses z.0 ticket come) draws turned))

  -- a seat that took in another shows what a join is to show
  pub joins_known : (t t' u : TableId) (v w x : View E O) (p q : Known E O) → of_view t v ≡ p → of_view u w ≡ q → t' ≡ t → 0 < length v.calls → 0 < length w.calls → x ≡ heard (joined v w)
      → StartsWith x.seen v.seen → StartsWith x.seen w.seen → IsOnce x.calls → Joins p q (of_view t' x)
  joins_known t t' u v w x p q isp isq same nv nw is one other once =
      let f = front v.calls w.calls nv in let all = all_of w.calls nw in
      let calls : x.calls ≡ v.calls ++ w.calls = ap (λ (z : View E O). z.calls) is in
      let nx : 0 < length x.calls = subst (λ (cs : List (ℕ × List E)). 0 < length cs) (sym calls) (some_before v.calls w.calls nv) in
      subst (λ (a : Known E O × Known E O). Joins a.0 a.1 (of_view t' x)) (λ i. (isp i, isq i)) record {
        one = one;
        other = other;
        same = λ i. record {
          table = same i;
          origin = (is i).origin;
          number = (ap own_number calls ∙ f.0) i;
          mine = (ap own_calls calls ∙ f.1) i;
          carried = (ap carried_calls calls ∙ (f.2 ∙ ap (λ (z : List (ℕ × List E)). carried_calls v.calls ++ z) (sym all))) i;
          split_off = (is i).split_off;
          seen = x.seen;
          mark = (is i).mark;
        };
        once = subst IsOnce (sym (all_of x.calls nx)) once;
      }
