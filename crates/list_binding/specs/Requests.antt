-- The parameters of AddListElement and RemoveListElement (ANSI/ASHRAE 135-2020, 15.1 and 15.2), one after the other, in any spelling.
use Rattle.std.specs.Prelude.{◌≡◌, ℕ, Option, Some, List, ◌++◌, slice_range}
use Rattle.bac_values.specs.Identifier.{ObjectIdData}
use Rattle.bac_tags.specs.Balanced.{SpellsElements}
use Rattle.bac_tags.specs.Contents.{SpellsObject, SpellsUnsigned}
use Rattle.bac_tags.specs.EnclosingTags.{SpellsEnclosed}
use Rattle.bac_tags.specs.Parameters.{SpellsIfGiven}
use Rattle.list_binding.specs.declared.request.ListRequest.{ListRequest}

-- ---- the numbers of the parameters

abbrev pub object_parameter : ℕ
object_parameter = 0

abbrev pub property_parameter : ℕ
property_parameter = 1

abbrev pub index_parameter : ℕ
index_parameter = 2

abbrev pub elements_parameter : ℕ
elements_parameter = 3

-- ---- the parameters

-- whose list is edited: an object's property, with an index, if one is given; and the octets of the elements
pub record ListAsked : Type 0 where
  pub object : ObjectIdData
  pub property : ℕ
  pub index : Option ℕ
  pub elements : List ℕ

-- [0] the object, [1] the property, [2] the index in its array, if there is one, and [3] whole elements between their tags
pub record SpellsListRequest (octets : List ℕ) (asked : ListAsked) : Type 0 where
  pub object_octets : List ℕ
  pub property_octets : List ℕ
  pub index_octets : List ℕ
  pub element_octets : List ℕ
  pub parts : octets ≡ object_octets ++ (property_octets ++ (index_octets ++ element_octets))
  pub object : SpellsObject (Some object_parameter) object_octets asked.object
  pub property : SpellsUnsigned (Some property_parameter) property_octets asked.property
  pub index : SpellsIfGiven (SpellsUnsigned (Some index_parameter)) index_octets asked.index
  pub elements : SpellsEnclosed elements_parameter SpellsElements element_octets asked.elements

-- the elements of a request that was read are a stretch of its octets
abbrev pub asked_in : List ℕ → ListRequest → ListAsked
asked_in input request =
    record { object = request.object; property = request.property.0; index = request.index; elements = slice_range input request.start request.end }
