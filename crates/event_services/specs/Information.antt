-- GetEventInformation (ANSI/ASHRAE 135-2020, 13.12): the request, and the one spelling of its answer.
use Rattle.std.specs.Prelude.{◌≡◌, ◌≢◌, ◌⊎◌, ℕ, Bool, Option, Some, None, List, [], ◌++◌, length, flat_map}
use Rattle.bac_values.specs.BitString.{string_of_flags}
use Rattle.bac_values.specs.EventStates.{number_of_state}
use Rattle.bac_values.specs.Identifier.{ObjectIdData}
use Rattle.bac_values.specs.declared.stamp.Stamp.{Stamp}
use Rattle.bac_tags.specs.Elements.{HasOtherTag}
use Rattle.bac_tags.specs.Contents.{SpellsObject}
use Rattle.bac_tags.specs.Writing.{written_unsigned, written_object, written_boolean, written_bits, written_stamp}
use Rattle.bac_tags.specs.Parameters.{IsThere, IsAbsent}
use Rattle.event_services.specs.declared.information.EventSummary.{EventSummary}
use Rattle.bac_tags.specs.ParameterWriting.{written_enclosed}

-- [0] the last object that was received, if one was
abbrev pub SpellsInformationRequest : List ℕ → Option ObjectIdData → Type 0
SpellsInformationRequest octets None = octets ≡ []
SpellsInformationRequest octets (Some object) = SpellsObject (Some 0) octets object

-- the object ends at the place, and more follows, or the octets begin with a whole tag of something else
abbrev pub HasMoreThanObject : List ℕ → ℕ → Type 0
HasMoreThanObject octets place =
    ((place ≡ 0) × HasOtherTag 0 (Some 0) octets)
    ⊎ ((front : List ℕ) × (more : List ℕ) × (object : ObjectIdData) × (octets ≡ front ++ more) × SpellsObject (Some 0) front object × (more ≢ []) × (place ≡ length front))

-- some octets begin with neither
abbrev pub HasNoObject : List ℕ → ℕ → Type 0
HasNoObject octets place = (place ≡ 0) × ¬ IsAbsent 0 octets 0 × ¬ IsThere (SpellsObject (Some 0)) octets 0

-- ---- the answer

-- a time stamp in its third form
abbrev pub written_moment : Stamp → List ℕ
written_moment stamp = written_enclosed 2 (written_stamp stamp)

-- object, state, acknowledged transitions
abbrev pub written_state : EventSummary → List ℕ
written_state summary = written_object (Some 0) summary.object ++ written_unsigned (Some 1) (number_of_state summary.state) ++ written_bits (Some 2) (string_of_flags summary.acked)

-- notify type, enabled transitions
abbrev pub written_notifying : EventSummary → List ℕ
written_notifying summary = written_unsigned (Some 4) summary.notify ++ written_bits (Some 5) (string_of_flags summary.enable)

-- a BACnetEventSummary, with the stamps and the priorities of the three transitions
abbrev pub written_summary : EventSummary → List ℕ
written_summary summary =
    written_state summary ++ written_enclosed 3 (flat_map written_moment summary.stamps) ++ written_notifying summary ++ written_enclosed 6 (flat_map (written_unsigned None) summary.priority)

-- [0] the summaries, [1] whether there are more
unfoldable pub written_information : List EventSummary → Bool → List ℕ
written_information summaries more = written_enclosed 0 (flat_map written_summary summaries) ++ written_boolean (Some 1) more
