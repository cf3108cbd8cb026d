-- The parameters of requests (ANSI/ASHRAE 135-2020, 15.5, 15.8, 15.9 and 16.10), one after the other, in any spelling.
use Rattle.std.specs.Prelude.{◌≡◌, ℕ, ℤ, ◌⊎◌, Option, Some, None, List, [], ◌++◌}
use Rattle.bac_values.specs.declared.value.Value.{Value}
use Rattle.bac_values.specs.declared.value.Value.TheVariants as values
use Rattle.bac_values.specs.declared.value.Foreign.TheVariants.{OtherType}
use Rattle.bac_tags.specs.Contents.{SpellsUnsigned, SpellsSigned, SpellsObject}
use Rattle.bac_tags.specs.Stamps.{SpellsStamp}
use Rattle.bac_tags.specs.Values.{SpellsValue}
use Rattle.bac_tags.specs.EnclosingTags.{SpellsEnclosed}
use Rattle.bac_tags.specs.Balanced.{AreElements}
use Rattle.bac_tags.specs.Parameters.{SpellsIfGiven}
use Rattle.property_services.specs.declared.requests.ReadRequest.{ReadRequest}
use Rattle.property_services.specs.declared.requests.WriteRequest.{WriteRequest}
use Rattle.property_services.specs.declared.requests.RangeRequest.{RangeRequest}
use Rattle.property_services.specs.declared.requests.RangeBy.{RangeBy}
use Rattle.property_services.specs.declared.requests.RangeBy.TheVariants.{All, Position, Sequence, Time}

-- ---- what is read or written

-- [0] the object, [1] the property, and [2] the index in the property's array, if there is one
pub record SpellsReference (octets : List ℕ) (reference : ReadRequest) : Type 0 where
  pub object_octets : List ℕ
  pub property_octets : List ℕ
  pub index_octets : List ℕ
  pub parts : octets ≡ object_octets ++ (property_octets ++ index_octets)
  pub object : SpellsObject (Some 0) object_octets reference.object
  pub property : SpellsUnsigned (Some 1) property_octets reference.property.0
  pub index : SpellsIfGiven (SpellsUnsigned (Some 2)) index_octets reference.index

-- ReadProperty (15.5) has nothing else
abbrev pub SpellsReadProperty : List ℕ → ReadRequest → Type 0
SpellsReadProperty = SpellsReference

-- ---- ReadRange (15.8)

-- a reference, and a count
pub record SpellsCounted {X : Type 0} (Spells : List ℕ → X → Type 0) (octets : List ℕ) (counted : X × ℤ) : Type 0 where
  pub reference_octets : List ℕ
  pub count_octets : List ℕ
  pub parts : octets ≡ reference_octets ++ count_octets
  pub reference : Spells reference_octets counted.0
  pub count : SpellsSigned None count_octets counted.1

-- [3] by position, [6] by sequence number, or [7] by time
abbrev pub SpellsGivenRange : List ℕ → RangeBy → Type 0
SpellsGivenRange octets All = ⊥
SpellsGivenRange octets (Position reference count) = SpellsEnclosed 3 (SpellsCounted (SpellsUnsigned None)) octets (reference, count)
SpellsGivenRange octets (Sequence reference count) = SpellsEnclosed 6 (SpellsCounted (SpellsUnsigned None)) octets (reference, count)
SpellsGivenRange octets (Time reference count) = SpellsEnclosed 7 (SpellsCounted SpellsStamp) octets (reference, count)

-- or nothing, for all items
abbrev pub SpellsRange : List ℕ → RangeBy → Type 0
SpellsRange octets range = ((range ≡ All) × (octets ≡ [])) ⊎ SpellsGivenRange octets range

abbrev pub reference_of : RangeRequest → ReadRequest
reference_of request = record { object = request.object; property = request.property; index = request.index }

pub record SpellsReadRange (octets : List ℕ) (request : RangeRequest) : Type 0 where
  pub reference_octets : List ℕ
  pub range_octets : List ℕ
  pub parts : octets ≡ reference_octets ++ range_octets
  pub reference : SpellsReference reference_octets (reference_of request)
  pub range : SpellsRange range_octets request.range

-- ---- WriteProperty (15.9)

-- the octets of one application value; other elements stand for no value that is taken
abbrev pub IsWritten : List ℕ → Value → Type 0
IsWritten content value =
    AreElements content × (SpellsValue content value ⊎ ((value ≡ values.Opaque 0 OtherType) × ((other : Value) → ¬ SpellsValue content other)))

abbrev pub reference_in : WriteRequest → ReadRequest
reference_in request = record { object = request.object; property = request.property; index = request.index }

-- [3] the value, and [4] a priority, which may be given and is read over
pub record SpellsWriteProperty (octets : List ℕ) (request : WriteRequest) : Type 0 where
  pub reference_octets : List ℕ
  pub value_octets : List ℕ
  pub priority_octets : List ℕ
  pub given : Option ℕ
  pub parts : octets ≡ reference_octets ++ (value_octets ++ priority_octets)
  pub reference : SpellsReference reference_octets (reference_in request)
  pub value : SpellsEnclosed 3 IsWritten value_octets request.value
  pub priority : SpellsIfGiven (SpellsUnsigned (Some 4)) priority_octets given

-- ---- Who-Is (16.10)

-- [0] the lowest and [1] the highest instance of the devices that are asked
pub record SpellsLimits (octets : List ℕ) (limits : ℕ × ℕ) : Type 0 where
  pub low_octets : List ℕ
  pub high_octets : List ℕ
  pub parts : octets ≡ low_octets ++ high_octets
  pub low : SpellsUnsigned (Some 0) low_octets limits.0
  pub high : SpellsUnsigned (Some 1) high_octets limits.1

-- or nothing, which asks all devices
abbrev pub SpellsWhoIs : List ℕ → Option (ℕ × ℕ) → Type 0
SpellsWhoIs = SpellsIfGiven SpellsLimits
