-- When a recipient is to be notified (ANSI/ASHRAE 135-2020, 12.21, BACnetDestination: Valid Days, From Time, To Time, Transitions).
use Rattle.std.specs.Prelude.{ℕ, ◌-◌, ◌^◌, ◌≤◌, Bool, false, ◌&&◌, ◌==◌, not, nat_le, bit_and, IsBitSet, IsTrue, slice_index_or}
use Rattle.bac_values.specs.declared.transition.Transition.{Transition}
use Rattle.bac_values.specs.declared.stamp.Stamp.{Stamp}
use Rattle.bac_values.specs.EventStates.{place_of_transition}
use Rattle.civil_stamp.specs.LocalTime.{local_stamp, stamp_weekday, stamp_time, ZoneData}
use Rattle.notify_class.specs.Recipients.{DestinationData}

-- at what the local clock shows: the weekday is among the valid days, the first of which is Monday; the time of day
-- lies in the window from From Time to To Time, both included; and the flag of the transition is set
pub record IsOpenAt (recipient : DestinationData) (transition : Transition) (shown : Stamp) : Type 0 where
  pub valid_days : IsBitSet recipient.days (stamp_weekday shown - 1)
  pub from_time : recipient.from ≤ stamp_time shown
  pub to_time : stamp_time shown ≤ recipient.to
  pub transitions : IsTrue (slice_index_or recipient.transitions (place_of_transition transition) false)

-- the recipient is to be notified of a transition at the moment
abbrev pub IsInWindow : DestinationData → Transition → ℕ → ZoneData → Type 0
IsInWindow recipient transition moment zone = IsOpenAt recipient transition (local_stamp zone moment)

-- the test of it
abbrev pub is_open_at : DestinationData → Transition → ℕ → ℕ → Bool
is_open_at recipient transition weekday time =
    slice_index_or recipient.transitions (place_of_transition transition) false
    && not (bit_and recipient.days (2 ^ (weekday - 1)) == 0)
    && nat_le recipient.from time
    && nat_le time recipient.to

abbrev pub is_in_window : DestinationData → Transition → ℕ → ZoneData → Bool
is_in_window recipient transition moment zone =
    is_open_at recipient transition (stamp_weekday (local_stamp zone moment)) (stamp_time (local_stamp zone moment))
