-- What the least due moment tells.
use Rattle.std.specs.Prelude.{◌≡◌, ℕ, Option, is_some, List}
use Rattle.held_timers.specs.Dues.{is_due, least_due, first_due_from}

-- Some index is due at a moment exactly where the least due moment isn't after it.
abbrev pub LeastTellsWhetherDue : Type 0
LeastTellsWhetherDue = (dues : List (Option ℕ)) (moment : ℕ) → is_some (first_due_from dues moment 0) ≡ is_due moment (least_due dues)
