-- What contracts see of a turnstile and of its passes, and what the calls promise.
use Rattle.std.specs.Prelude.{◌≡◌, ℕ, ◌+◌, ◌≤◌, List, [], ◌∷◌, ◌++◌, max, Option, Some}
use Rattle.atomic_table.specs.Seated.{TableId}
use Rattle.turnstile.specs.Histories.{StartsWith, Accounts, times, IsOnce, NoOther, among, Licensed}

-- which turnstile it is, and what its value keeps for good
pub record Identity (O : Type 0) : Type 0 where
  pub table : TableId
  pub origin : O

-- what a pass knows: its turnstile, its number and the calls that it made, the numbers and calls that it carries, the numbers of the passes that were split off from it or from those that it carries, the beginning of the history that it has seen, and a number that the mark has reached
pub record Known (E O : Type 0) : Type 0 where
  pub table : TableId
  pub origin : Option O
  pub number : ℕ
  pub mine : List E
  pub carried : List (ℕ × List E)
  pub split_off : List ℕ
  pub seen : List (ℕ × E)
  pub mark : ℕ

module _ {E O : Type 0} where
  -- the pass is one of this turnstile
  pub record IsOf (t : Identity O) (p : Known E O) : Type 0 where
    pub table : p.table ≡ t.table
    pub origin : p.origin ≡ Some t.origin

  -- the pass's own number and calls, then those that it carries
  abbrev pub all_calls : Known E O → List (ℕ × List E)
  all_calls p = (p.number, p.mine) ∷ p.carried

  -- the pass that a turnstile is opened with
  abbrev pub first_pass : Identity O → Known E O
  first_pass t = record { table = t.table; origin = Some t.origin; number = 0; mine = []; carried = []; split_off = []; seen = []; mark = 0 }

  -- the pass carries the first pass's number, 0, and each number that was split off. So there is no other pass to make a call
  abbrev pub IsWhole : Known E O → Type 0
  IsWhole p = (n : ℕ) → among n (0 ∷ p.split_off) ≤ times n (all_calls p)

  -- q has the share in the turnstile that p has: as each number was split off since, it came to be carried since
  abbrev pub SameShare : Known E O → Known E O → Type 0
  SameShare p q = (n : ℕ) → times n (all_calls q) + among n p.split_off ≡ times n (all_calls p) + among n q.split_off

  -- the turn has come: p has become q, which has seen the whole history. It begins with what p had seen, has under each number of the pass just the calls beside it, and licenses the mark. Where p is whole, the history has nothing else
  pub record Sees (licenses : List (ℕ × E) → ℕ → Type 0) (p q : Known E O) : Type 0 where
    pub begins : StartsWith q.seen p.seen
    pub same : q ≡ record p { seen = q.seen }
    pub accounts : Accounts q.seen (all_calls q)
    pub once : IsOnce (all_calls q)
    pub only : IsWhole p → NoOther q.seen (all_calls q)
    pub licensed : Licensed licenses q.seen q.mark

  -- the turn is given back: one more call was made, and the history ends with it
  abbrev pub with_entry : Known E O → E → Known E O
  with_entry p e = record p { mine = p.mine ++ e ∷ []; seen = p.seen ++ (p.number, e) ∷ [] }

  -- q has seen the same as p, has no calls, and none was split off from it
  abbrev pub IsNewFrom : Known E O → Known E O → Type 0
  IsNewFrom p q = q ≡ record p { number = q.number; mine = []; carried = []; split_off = [] }

  -- r is p, and has also seen what q has seen. It carries the calls of q beside those that both carried, and no number twice; and what was split off from either was from it
  pub record Joins (p q r : Known E O) : Type 0 where
    pub one : StartsWith r.seen p.seen
    pub other : StartsWith r.seen q.seen
    pub same : r ≡ record p { seen = r.seen; carried = p.carried ++ all_calls q; split_off = p.split_off ++ q.split_off; mark = max p.mark q.mark }
    pub once : IsOnce (all_calls r)
