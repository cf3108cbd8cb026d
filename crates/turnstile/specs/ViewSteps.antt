-- What a seat of the table knows, as a pass of the turnstile and by itself. No public clause cites this file.
use Rattle.std.specs.Prelude.{◌≡◌, ℕ, ◌<◌, List, [], ◌∷◌, ◌++◌, length, if◌then◌else◌, max, nat_le, Bool, true, false, Some, None}
use Rattle.atomic_table.specs.Table.{Me}
use Rattle.atomic_table.specs.Seated.{TableId}
use Rattle.turnstile.specs.Passes.{Known}
use Rattle.turnstile.specs.declared.view.View.{View}
use Rattle.turnstile.specs.declared.view.Place.{Place}
use Rattle.turnstile.specs.declared.view.Place.TheVariants.{Empty}
use Rattle.turnstile.specs.declared.view.Stage.{Stage}
use Rattle.turnstile.specs.declared.view.Stage.TheVariants.{Idle, Waits, Within, Shut}

-- the table has three words and one slot
abbrev pub IsBoard : TableId → Type 0
IsBoard t = (t.words ≡ 3) × (t.slots ≡ 1)

module _ {E : Type 0} where
  -- the first of the calls are the seat's own, and the rest it carries
  abbrev pub own_number : List (ℕ × List E) → ℕ
  own_number [] = 0
  own_number (c ∷ cs) = c.0

  abbrev pub own_calls : List (ℕ × List E) → List E
  own_calls [] = []
  own_calls (c ∷ cs) = c.1

  abbrev pub carried_calls : List (ℕ × List E) → List (ℕ × List E)
  carried_calls [] = []
  carried_calls (c ∷ cs) = cs

  -- the first number alone, and its calls
  abbrev pub first_call : List (ℕ × List E) → List (ℕ × List E)
  first_call [] = []
  first_call (c ∷ cs) = c ∷ []

  -- with one more call of its own
  abbrev pub with_call : List (ℕ × List E) → E → List (ℕ × List E)
  with_call [] e = []
  with_call (c ∷ cs) e = (c.0, c.1 ++ e ∷ []) ∷ cs

  abbrev pub longer : List (ℕ × E) → List (ℕ × E) → List (ℕ × E)
  longer xs ys = if nat_le (length xs) (length ys) then ys else xs

-- the seat has the turn
abbrev pub is_within : Stage → Bool
is_within Idle = false
is_within (Waits t) = false
is_within (Within t) = true
is_within (Shut t) = false

-- the seat has the turn, or ended with it
abbrev pub IsWithin : Stage → Type 0
IsWithin Idle = ⊥
IsWithin (Waits t) = ⊥
IsWithin (Within t) = Unit {0}
IsWithin (Shut t) = Unit {0}

abbrev pub shut_of : Stage → Stage
shut_of Idle = Idle
shut_of (Waits t) = Waits t
shut_of (Within t) = Shut t
shut_of (Shut t) = Shut t

module _ {E O : Type 0} where
  -- the pass that a seat is
  abbrev pub of_view : TableId → View E O → Known E O
  of_view t v = record { table = t; origin = v.origin; number = own_number v.calls; mine = own_calls v.calls; carried = carried_calls v.calls; split_off = v.split_off; seen = v.seen; mark = v.mark }

  -- the pass that a badge is, which has the view of one seat
  abbrev pub of_views : TableId → List (View E O) → Known E O
  of_views t [] = record { table = t; origin = None; number = 0; mine = []; carried = []; split_off = []; seen = []; mark = 0 }
  of_views t (v ∷ vs) = of_view t v

  -- the seat has a number, and waits for nothing
  abbrev pub IsAtRest : View E O → Type 0
  IsAtRest v = (v.stage ≡ Idle) × (0 < length v.calls)

  abbrev pub AreAtRest : List (View E O) → Type 0
  AreAtRest views = (v : View E O) × (views ≡ v ∷ []) × IsAtRest v

  -- the seat has a number and the turn, and the slot, whose value was taken out
  abbrev pub IsHolding : {T : Type 0} → Me (Place T E) (View E O) → Type 0
  IsHolding me = (me.1 ≡ (0, Empty) ∷ []) × (is_within me.0.stage ≡ true) × (0 < length me.0.calls)

  -- a new seat: a number, no calls, and nothing seen
  abbrev pub newcomer : O → ℕ → View E O
  newcomer o n = record { origin = Some o; calls = (n, []) ∷ []; split_off = []; seen = []; told = []; mark = 0; stage = Idle }

  -- with a new number in front, which is to be split off
  abbrev pub named : View E O → ℕ → View E O
  named v n = record { origin = v.origin; calls = (n, []) ∷ v.calls; split_off = n ∷ v.split_off; seen = v.seen; told = v.told; mark = v.mark; stage = v.stage }

  -- without the number in front
  abbrev pub left_of : View E O → View E O
  left_of v = record { origin = v.origin; calls = carried_calls v.calls; split_off = v.split_off; seen = v.seen; told = v.told; mark = v.mark; stage = v.stage }

  -- the number in front, with all that was seen
  abbrev pub right_of : View E O → View E O
  right_of v = record { origin = v.origin; calls = first_call v.calls; split_off = []; seen = v.seen; told = []; mark = v.mark; stage = Idle }

  -- what is left of a seat that was joined to another
  abbrev pub nobody : View E O
  nobody = record { origin = None; calls = []; split_off = []; seen = []; told = []; mark = 0; stage = Idle }

  -- v with the calls of w too, and told of what w has seen
  abbrev pub joined : View E O → View E O → View E O
  joined v w = record { origin = v.origin; calls = v.calls ++ w.calls; split_off = v.split_off ++ w.split_off; seen = v.seen; told = w.seen; mark = max v.mark w.mark; stage = v.stage }

  -- with what it was told taken in
  abbrev pub heard : View E O → View E O
  heard v = record { origin = v.origin; calls = v.calls; split_off = v.split_off; seen = longer v.seen v.told; told = []; mark = v.mark; stage = v.stage }

  abbrev pub at_stage : View E O → Stage → View E O
  at_stage v stage = record { origin = v.origin; calls = v.calls; split_off = v.split_off; seen = v.seen; told = v.told; mark = v.mark; stage = stage }

  -- at its turn, with the whole history in sight
  abbrev pub inside : View E O → List (ℕ × E) → ℕ → View E O
  inside v log t = record { origin = v.origin; calls = v.calls; split_off = v.split_off; seen = log; told = v.told; mark = v.mark; stage = Within t }

  -- after its turn, with one more call
  abbrev pub after_call : View E O → E → View E O
  after_call v e = record { origin = v.origin; calls = with_call v.calls e; split_off = v.split_off; seen = v.seen ++ (own_number v.calls, e) ∷ []; told = v.told; mark = v.mark; stage = Idle }

  abbrev pub with_mark : View E O → ℕ → View E O
  with_mark v to = record { origin = v.origin; calls = v.calls; split_off = v.split_off; seen = v.seen; told = v.told; mark = to; stage = v.stage }
