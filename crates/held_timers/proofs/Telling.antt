-- The least due moment tells whether some index is due.
use Rattle.std.proofs.Common.{◌≡◌, ℕ, ◌+◌, Bool, true, false, ◌||◌, List, [], ◌∷◌, is_some, Option, Some, if◌then◌else◌, refl, sym, ap, ◌∙◌}
use Rattle.std.specs.List.{position_from, list_any}
use Rattle.held_timers.specs.Dues.{is_due}
use Rattle.held_timers.specs.Laws.{LeastTellsWhetherDue}
use Rattle.held_timers.proofs.Searching.{is_due-least}

found_by : (b : Bool) (i : ℕ) (rest : Option ℕ) → is_some (if b then Some i else rest) ≡ (b || is_some rest)
found_by true i rest = refl
found_by false i rest = refl

-- some element passes exactly where one is found
found : {X : Type 0} (test : X → Bool) (i : ℕ) (xs : List X) → is_some (position_from test i xs) ≡ list_any test xs
found test i [] = refl
found test i (x ∷ xs) = found_by (test x) i (position_from test (i + 1) xs) ∙ ap (λ b. test x || b) (found test (i + 1) xs)

pub least_tells_whether_due : LeastTellsWhetherDue
least_tells_whether_due dues moment = found (is_due moment) 0 dues ∙ sym (is_due-least moment dues)
