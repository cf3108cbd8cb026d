-- The rule of a turnstile's table: what holds between any two atomic steps. No public clause cites this file.
-- Word 0 counts the tickets that were drawn, word 1 is the length of the history, which is the ticket that is served, and word 2 is the mark. Slot 0 has the value.
use Rattle.std.specs.Prelude.{◌≡◌, ◌⊎◌, ℕ, ◌+◌, ◌<◌, ◌≤◌, ◌^◌, ◌==◌, List, [], ◌∷◌, length, if◌then◌else◌, Some}
use mathlib.Core.Option.{Option, none, some}
use lib.ListN.{get_elem?}
use Rattle.atomic_table.specs.Table.{State}
use Rattle.turnstile.specs.Histories.{StartsWith, entries_under, Accounts, times, among, Licensed}
use Rattle.turnstile.specs.ViewSteps.{IsWithin}
use Rattle.turnstile.specs.declared.view.View.{View}
use Rattle.turnstile.specs.declared.view.Place.{Place}
use Rattle.turnstile.specs.declared.view.Place.TheVariants.{Empty, Held, Given}
use Rattle.turnstile.specs.declared.view.Stage.{Stage}
use Rattle.turnstile.specs.declared.view.Stage.TheVariants.{Idle, Waits, Within, Shut}

-- what each of the views adds up to
abbrev pub total : {V : Type 0} → (V → ℕ) → List V → ℕ
total f [] = 0
total f (v ∷ vs) = f v + total f vs

-- 1 where the stage has this ticket
abbrev pub has_ticket : ℕ → Stage → ℕ
has_ticket t Idle = 0
has_ticket t (Waits u) = if u == t then 1 else 0
has_ticket t (Within u) = if u == t then 1 else 0
has_ticket t (Shut u) = if u == t then 1 else 0

-- 1 where the stage has some ticket
abbrev pub has_some_ticket : Stage → ℕ
has_some_ticket Idle = 0
has_some_ticket (Waits t) = 1
has_some_ticket (Within t) = 1
has_some_ticket (Shut t) = 1

module _ {T E : Type 0} where
  -- the place has this value
  abbrev pub Contains : Place T E → T → Type 0
  Contains Empty y = ⊥
  Contains (Held x) y = y ≡ x
  Contains (Given x e) y = y ≡ x

  -- the place has a value
  abbrev pub IsFull : Place T E → Type 0
  IsFull Empty = ⊥
  IsFull (Held x) = Unit {0}
  IsFull (Given x e) = Unit {0}

  -- what a stage means, where the slot is at home as `homes` says, the history has the length `served`, and `drawn` tickets were drawn
  abbrev pub Staged : List (Option (Place T E)) → ℕ → ℕ → Stage → Type 0
  Staged homes served drawn Idle = Unit {0}
  Staged homes served drawn (Waits t) = t < drawn
  Staged homes served drawn (Within t) = (t < drawn) × (t ≡ served) × (homes ≡ none ∷ [])
  Staged homes served drawn (Shut t) = (t < drawn) × (t ≡ served) × (homes ≡ some Empty ∷ [])

-- each number that was split off is above one that stands among the calls
abbrev pub AreAbove : {E : Type 0} → List (ℕ × List E) → List ℕ → Type 0
AreAbove calls numbers = (n : ℕ) → 1 ≤ among n numbers → (m : ℕ) × (m < n) × (1 ≤ times m calls)

module _ {T E : Type 0} (stands : T → List (ℕ × E) → Type 0) (right : T → Type 0) where
  -- the place has a value that stands for the history, and is right
  abbrev pub Holds : List (ℕ × E) → Place T E → Type 0
  Holds log Empty = ⊥
  Holds log (Held x) = stands x log × right x
  Holds log (Given x e) = stands x log × right x

module _ {T E O : Type 0} (stands : T → List (ℕ × E) → Type 0) (origin : T → O) (first : O) (licenses : List (ℕ × E) → ℕ → Type 0) where
  -- what a view says is so, where the history is `log`, `drawn` tickets were drawn, and the mark is `top`
  pub record Fits (log : List (ℕ × E)) (drawn top : ℕ) (homes : List (Option (Place T E))) (v : View E O) : Type 0 where
    pub seen : StartsWith log v.seen
    pub told : StartsWith log v.told
    pub calls : Accounts log v.calls
    pub marked : v.mark ≤ top
    pub licensed : Licensed licenses log v.mark
    pub staged : Staged homes (length log) drawn v.stage
    pub whole : IsWithin v.stage → v.seen ≡ log
    pub from : (o : O) → v.origin ≡ Some o → o ≡ first

  -- the slot is at home with a value that stands for the history and has the first value's origin, or a seat has the turn
  abbrev pub Locked : List (ℕ × E) → List (Option (Place T E)) → List (View E O) → Type 0
  Locked log homes views =
      ((p : Place T E) × (homes ≡ some p ∷ []) × Holds stands (λ x. origin x ≡ first) log p)
      ⊎ ((k : ℕ) × (v : View E O) × (get_elem? views k ≡ some v) × IsWithin v.stage)

  -- there is a history that the words, the slot and all views agree on
  pub record Kept (s : State (Place T E) (View E O)) : Type 0 where
    pub log : List (ℕ × E)
    pub drawn : ℕ
    pub mark : ℕ
    pub names : ℕ
    pub words : s.words ≡ drawn ∷ length log ∷ mark ∷ []
    pub few : drawn < 2 ^ 64
    -- each ticket that was drawn has led to an entry, or a seat has it
    pub counted : length log + total (λ (v : View E O). has_some_ticket v.stage) s.views ≡ drawn
    pub licensed : Licensed licenses log mark
    pub locked : Locked log s.homes s.views
    pub each : (k : ℕ) (v : View E O) → get_elem? s.views k ≡ some v → Fits log drawn mark s.homes v
    -- no ticket is with two seats, and no number among the calls of two
    pub queue : (t : ℕ) → total (λ (v : View E O). has_ticket t v.stage) s.views ≤ 1
    pub once : (n : ℕ) → total (λ (v : View E O). times n v.calls) s.views ≤ 1
    -- the numbers below `names` were given away, each but the first by a split
    pub owed : (n : ℕ) → 0 < n → n < names → 1 ≤ total (λ (v : View E O). among n v.split_off) s.views
    pub above : (k : ℕ) (v : View E O) → get_elem? s.views k ≡ some v → AreAbove v.calls v.split_off
    -- the others are free: no view has one, and no entry
    pub fresh : (n : ℕ) → names ≤ n → (total (λ (v : View E O). times n v.calls) s.views ≡ 0) × (entries_under n log ≡ [])
