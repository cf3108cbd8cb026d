-- The elements of a Recipient_List (ANSI/ASHRAE 135-2020, 12.21, BACnetDestination).
use Rattle.std.specs.Prelude.{ℕ, ◌<◌, Bool, List}
use Rattle.bac_values.specs.Address.{PeerData}

-- whom to notify, on which days, from which time of day to which, of which transitions, and how
pub record DestinationData : Type 0 where
  pub days : ℕ
  pub from : ℕ
  pub to : ℕ
  pub peer : PeerData
  pub process : ℕ
  pub confirmed : Bool
  pub transitions : List Bool

-- seven days of the week, and two times of the day in hundredths of a second
abbrev pub IsListedRecipient : ℕ → ℕ → ℕ → Type 0
IsListedRecipient days from to = (days < 128) × (from < 8_640_000) × (to < 8_640_000)
