-- The parameters of GetEnrollmentSummary (ANSI/ASHRAE 135-2020, 13.11), one after the other, in any spelling. GetAlarmSummary (13.10) has none.
use Rattle.std.specs.Prelude.{◌≡◌, ◌≤◌, ℕ, Option, Some, None, List, ◌++◌}
use Rattle.bac_values.specs.Address.{PeerData}
use Rattle.bac_tags.specs.Contents.{SpellsUnsigned}
use Rattle.bac_tags.specs.EnclosingTags.{SpellsEnclosed}
use Rattle.bac_tags.specs.Parameters.{SpellsIfGiven}
use Rattle.recipients.specs.Recipients.{RecipientData, OfDevice, OfAddress, SpellsRecipient, peer_at}
use Rattle.summaries.specs.declared.filter.Asked.{Asked}
use Rattle.summaries.specs.declared.filter.Filter.{Filter}
use Rattle.summaries.specs.declared.filter.Who.{Who}
use Rattle.summaries.specs.declared.filter.Who.TheVariants.{Device, Address, Other}

-- ---- the numbers of the parameters and of what is in them

abbrev pub acknowledgment_filter : ℕ
acknowledgment_filter = 0

abbrev pub enrollment_filter : ℕ
enrollment_filter = 1

abbrev pub event_state_filter : ℕ
event_state_filter = 2

abbrev pub event_type_filter : ℕ
event_type_filter = 3

abbrev pub priority_filter : ℕ
priority_filter = 4

abbrev pub notification_class_filter : ℕ
notification_class_filter = 5

-- the greatest number of an Acknowledgment Filter, not-acked, and of an Event State Filter, active
abbrev pub not_acked : ℕ
not_acked = 2

abbrev pub active : ℕ
active = 4

-- within a recipient process
abbrev pub recipient_parameter : ℕ
recipient_parameter = 0

abbrev pub process_parameter : ℕ
process_parameter = 1

-- within priorities
abbrev pub least_parameter : ℕ
least_parameter = 0

abbrev pub greatest_parameter : ℕ
greatest_parameter = 1

-- ---- the parameters

-- the recipient that is asked for; an address of another network, or that isn't six octets, is that of no peer here
abbrev pub who_at : Option PeerData → Who
who_at (Some peer) = Address peer
who_at None = Other

abbrev pub who_of : RecipientData → Who
who_of (OfDevice object) = Device object
who_of (OfAddress address) = who_at (peer_at address)

-- [0] the recipient between its tags, [1] its process
pub record SpellsAsked (octets : List ℕ) (asked : Asked) : Type 0 where
  pub recipient_octets : List ℕ
  pub process_octets : List ℕ
  pub recipient : RecipientData
  pub parts : octets ≡ recipient_octets ++ process_octets
  pub spelled : SpellsEnclosed recipient_parameter SpellsRecipient recipient_octets recipient
  pub who : asked.who ≡ who_of recipient
  pub process : SpellsUnsigned (Some process_parameter) process_octets asked.process

-- [0] the least and [1] the greatest priority
pub record SpellsPriorities (octets : List ℕ) (priorities : ℕ × ℕ) : Type 0 where
  pub least_octets : List ℕ
  pub greatest_octets : List ℕ
  pub parts : octets ≡ least_octets ++ greatest_octets
  pub least : SpellsUnsigned (Some least_parameter) least_octets priorities.0
  pub greatest : SpellsUnsigned (Some greatest_parameter) greatest_octets priorities.1

-- an Enumerated with a number in a context, of the numbers up to a greatest one
abbrev pub SpellsListed : ℕ → ℕ → List ℕ → ℕ → Type 0
SpellsListed number greatest octets listed = SpellsUnsigned (Some number) octets listed × (listed ≤ greatest)

-- [0] the acknowledgment filter, and, where they are given, [1] a recipient process, [2] the event state filter, [3] an event type, [4] priorities and [5] a class
pub record SpellsFilter (octets : List ℕ) (filter : Filter) : Type 0 where
  pub acked_octets : List ℕ
  pub recipient_octets : List ℕ
  pub state_octets : List ℕ
  pub type_octets : List ℕ
  pub priority_octets : List ℕ
  pub class_octets : List ℕ
  pub parts : octets ≡ acked_octets ++ (recipient_octets ++ (state_octets ++ (type_octets ++ (priority_octets ++ class_octets))))
  pub acked : SpellsListed acknowledgment_filter not_acked acked_octets filter.acked
  pub recipient : SpellsIfGiven (SpellsEnclosed enrollment_filter SpellsAsked) recipient_octets filter.recipient
  pub state : SpellsIfGiven (SpellsListed event_state_filter active) state_octets filter.state
  pub event_type : SpellsIfGiven (SpellsUnsigned (Some event_type_filter)) type_octets filter.event_type
  pub priorities : SpellsIfGiven (SpellsEnclosed priority_filter SpellsPriorities) priority_octets filter.priorities
  pub class : SpellsIfGiven (SpellsUnsigned (Some notification_class_filter)) class_octets filter.class
