-- The recipients of a list that are to be notified.
use Rattle.std.specs.Prelude.{◌≡◌, ℕ, ◌+◌, ◌<◌, ◌≤◌, List, [], ◌∷◌, Option, Some, None, IsSomeAnd, filter, drop, slice_get}
use Rattle.bac_values.specs.declared.transition.Transition.{Transition}
use Rattle.civil_stamp.specs.LocalTime.{ZoneData}
use Rattle.notify_class.specs.Recipients.{DestinationData}
use Rattle.notify_class.specs.Windows.{IsInWindow, is_in_window}

-- all of them, in the order of the list
abbrev pub chosen_destinations : List DestinationData → Transition → ℕ → ZoneData → List DestinationData
chosen_destinations recipients transition moment zone =
    filter (λ recipient. is_in_window recipient transition moment zone) recipients

-- there is a recipient at the place, and it is to be notified
abbrev pub IsChosenAt : List DestinationData → Transition → ℕ → ZoneData → ℕ → Type 0
IsChosenAt recipients transition moment zone place =
    IsSomeAnd (slice_get recipients place) (λ recipient. IsInWindow recipient transition moment zone)

-- the answer is the first place, at or after `from`, of one that is to be notified, or there is none
abbrev pub IsNextChosen : List DestinationData → Transition → ℕ → ZoneData → ℕ → Option ℕ → Type 0
IsNextChosen recipients transition moment zone from None =
    (place : ℕ) → from ≤ place → ¬ IsChosenAt recipients transition moment zone place
IsNextChosen recipients transition moment zone from (Some next) =
    (from ≤ next) × IsChosenAt recipients transition moment zone next
    × ((place : ℕ) → from ≤ place → place < next → ¬ IsChosenAt recipients transition moment zone place)

-- the answer is the place of the first of those that are chosen from `from` on, and those behind it are chosen behind it
abbrev pub GoesOn : List DestinationData → Transition → ℕ → ZoneData → ℕ → Option ℕ → Type 0
GoesOn recipients transition moment zone from None =
    chosen_destinations (drop from recipients) transition moment zone ≡ []
GoesOn recipients transition moment zone from (Some next) =
    IsSomeAnd (slice_get recipients next) (λ recipient.
    chosen_destinations (drop from recipients) transition moment zone
    ≡ recipient ∷ chosen_destinations (drop (next + 1) recipients) transition moment zone)
