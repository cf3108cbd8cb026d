-- Why octets aren't the parameters of a request: each refusal, exactly where it comes (ANSI/ASHRAE 135-2020, clause 21, BACnetRejectReason).
use Rattle.std.specs.Prelude.{◌≡◌, ℕ, ◌⊎◌, Option, Some, None, List, [], length, drop}
use Rattle.bac_values.specs.Identifier.{ObjectIdData}
use Rattle.bac_values.specs.declared.value.Value.TheVariants as values
use Rattle.bac_tags.specs.Places.{IsSpelledAt}
use Rattle.bac_tags.specs.Values.{SpellsValue}
use Rattle.bac_tags.specs.Contents.{SpellsUnsigned, SpellsObject}
use Rattle.bac_tags.specs.declared.malformed.Malformed.{Malformed}
use Rattle.bac_tags.specs.Refusals.{invalid_tag, RefusesRequired, RefusesOptional, RefusesMore, Behind}
use Rattle.bac_tags.specs.Parameters.{IsThere, IsAbsent, IsOptionalAt}
use Rattle.bac_tags.specs.EnclosingTags.{opening, IsOtherTag, SpellsEnclosed}
use Rattle.bac_tags.specs.Balanced.{SpellsElements}
use Rattle.property_services.specs.declared.requests.ReadRequest.{ReadRequest}
use Rattle.property_services.specs.declared.requests.RangeRequest.{RangeRequest}
use Rattle.property_services.specs.declared.requests.RangeBy.{RangeBy}
use Rattle.property_services.specs.declared.requests.RangeBy.TheVariants.{All}
use Rattle.property_services.specs.Requests.{SpellsReference, SpellsGivenRange, reference_of}

-- ---- what is read or written, at the front

pub record IsReferenceAt (input : List ℕ) (reference : ReadRequest) (end : ℕ) : Type 0 where
  pub property_at : ℕ
  pub index_at : ℕ
  pub object : IsSpelledAt (SpellsObject (Some 0)) input 0 reference.object property_at
  pub property : IsSpelledAt (SpellsUnsigned (Some 1)) input property_at reference.property.0 index_at
  pub index : IsOptionalAt (SpellsUnsigned (Some 2)) 2 input index_at reference.index end

abbrev pub RefusesReference : List ℕ → Malformed → Type 0
RefusesReference input fault =
    RefusesRequired (SpellsObject (Some 0)) input 0 fault
    ⊎ Behind (IsSpelledAt (SpellsObject (Some 0)) input 0) (λ object place.
    RefusesRequired (SpellsUnsigned (Some 1)) input place fault
    ⊎ Behind (IsSpelledAt (SpellsUnsigned (Some 1)) input place) (λ property place. RefusesOptional (SpellsUnsigned (Some 2)) 2 input place fault))

abbrev pub RefusesReadProperty : List ℕ → Malformed → Type 0
RefusesReadProperty input fault = RefusesReference input fault ⊎ Behind (IsReferenceAt input) (λ reference place. RefusesMore input place fault)

-- ---- ReadRange

-- no range begins there: the octets end, or have a whole tag that opens none
abbrev pub IsNoRange : List ℕ → ℕ → Type 0
IsNoRange input place =
    (place ≡ length input) ⊎ (IsOtherTag (opening 3) (drop place input) × IsOtherTag (opening 6) (drop place input) × IsOtherTag (opening 7) (drop place input))

abbrev pub IsRangeAt : List ℕ → ℕ → RangeBy → ℕ → Type 0
IsRangeAt input place range end =
    ((range ≡ All) × (end ≡ place) × IsNoRange input place) ⊎ IsSpelledAt SpellsGivenRange input place range end

abbrev pub RefusesRange : List ℕ → ℕ → Malformed → Type 0
RefusesRange input place fault = (fault ≡ invalid_tag place) × (¬ IsNoRange input place) × ¬ IsThere SpellsGivenRange input place

-- what is read and the range
pub record IsRangeRequestAt (input : List ℕ) (request : RangeRequest) (end : ℕ) : Type 0 where
  pub range_at : ℕ
  pub reference : IsReferenceAt input (reference_of request) range_at
  pub range : IsRangeAt input range_at request.range end

abbrev pub RefusesReadRange : List ℕ → Malformed → Type 0
RefusesReadRange input fault =
    (RefusesReference input fault ⊎ Behind (IsReferenceAt input) (λ reference place. RefusesRange input place fault))
    ⊎ Behind (IsRangeRequestAt input) (λ request place. RefusesMore input place fault)

-- ---- WriteProperty

-- what is written, the elements of the value, and a priority, if it is there
pub record IsWriteAt (input : List ℕ) (written : ReadRequest × List ℕ) (end : ℕ) : Type 0 where
  pub value_at : ℕ
  pub priority_at : ℕ
  pub priority : Option ℕ
  pub reference : IsReferenceAt input written.0 value_at
  pub value : IsSpelledAt (SpellsEnclosed 3 SpellsElements) input value_at written.1 priority_at
  pub given : IsOptionalAt (SpellsUnsigned (Some 4)) 4 input priority_at priority end

abbrev pub RefusesWrite : List ℕ → Malformed → Type 0
RefusesWrite input fault =
    RefusesReference input fault
    ⊎ Behind (IsReferenceAt input) (λ reference place.
    RefusesRequired (SpellsEnclosed 3 SpellsElements) input place fault
    ⊎ Behind (IsSpelledAt (SpellsEnclosed 3 SpellsElements) input place) (λ elements place. RefusesOptional (SpellsUnsigned (Some 4)) 4 input place fault))

abbrev pub RefusesWriteProperty : List ℕ → Malformed → Type 0
RefusesWriteProperty input fault = RefusesWrite input fault ⊎ Behind (IsWriteAt input) (λ written place. RefusesMore input place fault)

-- a text stands at the front of the elements of the value, which takes memory
pub record HasText (input : List ℕ) : Type 0 where
  pub written : ReadRequest × List ℕ
  pub text : List ℕ
  pub end : ℕ
  pub whole : IsWriteAt input written (length input)
  pub there : IsSpelledAt SpellsValue written.1 0 (values.Text text) end

-- ---- Who-Is

-- the lowest instance is there and behind it the highest, or no lowest instance is there
abbrev pub IsLimitsAt : List ℕ → Option (ℕ × ℕ) → ℕ → Type 0
IsLimitsAt input None end = (end ≡ 0) × IsAbsent 0 input 0
IsLimitsAt input (Some limits) end =
    (place : ℕ) × IsSpelledAt (SpellsUnsigned (Some 0)) input 0 limits.0 place × IsSpelledAt (SpellsUnsigned (Some 1)) input place limits.1 end

abbrev pub RefusesLimits : List ℕ → Malformed → Type 0
RefusesLimits input fault =
    RefusesOptional (SpellsUnsigned (Some 0)) 0 input 0 fault
    ⊎ Behind (IsSpelledAt (SpellsUnsigned (Some 0)) input 0) (λ low place. RefusesRequired (SpellsUnsigned (Some 1)) input place fault)

abbrev pub RefusesWhoIs : List ℕ → Malformed → Type 0
RefusesWhoIs input fault = RefusesLimits input fault ⊎ Behind (IsLimitsAt input) (λ limits place. RefusesMore input place fault)

-- ---- where the octets end before a required parameter

-- there are no octets, or there is an object alone
abbrev pub EndsBeforeProperty : List ℕ → Type 0
EndsBeforeProperty octets = (octets ≡ []) ⊎ ((object : ObjectIdData) × SpellsObject (Some 0) octets object)

-- or there is all that is written, without a value
abbrev pub EndsBeforeValue : List ℕ → Type 0
EndsBeforeValue octets = EndsBeforeProperty octets ⊎ ((reference : ReadRequest) × SpellsReference octets reference)

-- there is a lowest instance alone
abbrev pub EndsBeforeHighest : List ℕ → Type 0
EndsBeforeHighest octets = (low : ℕ) × SpellsUnsigned (Some 0) octets low
