-- The parameters of ReadPropertyMultiple (ANSI/ASHRAE 135-2020, 15.7), in any spelling.
use Rattle.std.specs.Prelude.{◌≡◌, ◌≢◌, ℕ, Some, List, [], ◌++◌, map}
use Rattle.std.specs.List.{flat_map}
use Rattle.bac_values.specs.Identifier.{ObjectIdData}
use Rattle.bac_tags.specs.Contents.{SpellsObject, SpellsUnsigned}
use Rattle.bac_tags.specs.EnclosingTags.{SpellsEnclosed}
use Rattle.bac_tags.specs.Parameters.{SpellsEach, SpellsIfGiven}
use Rattle.summaries.specs.declared.requested.PropertyAsked.{PropertyAsked}
use Rattle.summaries.specs.declared.requested.Spec.{Spec}

-- ---- the numbers of the parameters

-- of a ReadAccessSpecification
abbrev pub object_parameter : ℕ
object_parameter = 0

abbrev pub properties_parameter : ℕ
properties_parameter = 1

-- of a reference to a property
abbrev pub property_parameter : ℕ
property_parameter = 0

abbrev pub index_parameter : ℕ
index_parameter = 1

-- ---- the parameters

-- one thing or more, one after the other
abbrev pub SpellsSome : {X : Type 0} → (List ℕ → X → Type 0) → List ℕ → List X → Type 0
SpellsSome Spells octets xs = SpellsEach Spells octets xs × (xs ≢ [])

-- [0] a property, and [1] an index in its array, if there is one
pub record SpellsProperty (octets : List ℕ) (asked : PropertyAsked) : Type 0 where
  pub property_octets : List ℕ
  pub index_octets : List ℕ
  pub parts : octets ≡ property_octets ++ index_octets
  pub property : SpellsUnsigned (Some property_parameter) property_octets asked.property
  pub index : SpellsIfGiven (SpellsUnsigned (Some index_parameter)) index_octets asked.index

-- an object, and properties of it
pub record ObjectAsked : Type 0 where
  pub object : ObjectIdData
  pub properties : List PropertyAsked

-- a ReadAccessSpecification: [0] the object, and [1] one or more properties between their tags
pub record SpellsObjectAsked (octets : List ℕ) (asked : ObjectAsked) : Type 0 where
  pub object_octets : List ℕ
  pub list_octets : List ℕ
  pub parts : octets ≡ object_octets ++ list_octets
  pub object : SpellsObject (Some object_parameter) object_octets asked.object
  pub properties : SpellsEnclosed properties_parameter (SpellsSome SpellsProperty) list_octets asked.properties

-- one or more of them
abbrev pub SpellsReadMany : List ℕ → List ObjectAsked → Type 0
SpellsReadMany = SpellsSome SpellsObjectAsked

-- ---- what is asked, property by property

abbrev pub spec_of : ObjectIdData → PropertyAsked → Spec
spec_of object asked = record { object = object; property = record { 0 = asked.property }; index = asked.index }

abbrev pub specs_of : ObjectAsked → List Spec
specs_of asked = map (spec_of asked.object) asked.properties

abbrev pub specs_in : List ObjectAsked → List Spec
specs_in groups = flat_map specs_of groups
