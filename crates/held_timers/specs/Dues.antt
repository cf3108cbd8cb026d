-- A list of due moments: what timers are, for whoever uses them.
use Rattle.std.specs.Prelude.{ℕ, min, nat_le, Bool, false, Option, Some, None, List, [], ◌∷◌, drop}
use Rattle.std.specs.List.{position_from}

-- the earlier of two due moments; where there is but one, it is that one
abbrev pub earlier : Option ℕ → Option ℕ → Option ℕ
earlier None second = second
earlier (Some first) None = Some first
earlier (Some first) (Some second) = Some (min first second)

-- the least due moment of a list, if it has any
abbrev pub least_due : List (Option ℕ) → Option ℕ
least_due [] = None
least_due (due ∷ dues) = earlier due (least_due dues)

-- whether there is a due moment, and it isn't after a moment
abbrev pub is_due : ℕ → Option ℕ → Bool
is_due moment (Some due) = nat_le due moment
is_due moment None = false

-- the least index at or above another at which a list is due
abbrev pub first_due_from : List (Option ℕ) → ℕ → ℕ → Option ℕ
first_due_from dues moment index = position_from (is_due moment) index (drop index dues)
