-- Why octets aren't the parameters of AddListElement or RemoveListElement: each refusal, exactly where it comes (ANSI/ASHRAE 135-2020, clause 21, BACnetRejectReason).
use Rattle.std.specs.Prelude.{ℕ, ◌⊎◌, Some, List}
use Rattle.bac_values.specs.Identifier.{ObjectIdData}
use Rattle.bac_tags.specs.Balanced.{SpellsElements}
use Rattle.bac_tags.specs.Contents.{SpellsObject, SpellsUnsigned}
use Rattle.bac_tags.specs.declared.malformed.Malformed.{Malformed}
use Rattle.bac_tags.specs.EnclosingTags.{SpellsEnclosed}
use Rattle.bac_tags.specs.Parameters.{IsOptionalAt}
use Rattle.bac_tags.specs.Places.{IsSpelledAt}
use Rattle.bac_tags.specs.Refusals.{Behind, RefusesMore, RefusesOptional, RefusesRequired}
use Rattle.list_binding.specs.Requests.{ListAsked, elements_parameter, index_parameter, object_parameter, property_parameter}

abbrev pub SpellsListObject : List ℕ → ObjectIdData → Type 0
SpellsListObject = SpellsObject (Some object_parameter)

abbrev pub SpellsProperty : List ℕ → ℕ → Type 0
SpellsProperty = SpellsUnsigned (Some property_parameter)

abbrev pub SpellsIndex : List ℕ → ℕ → Type 0
SpellsIndex = SpellsUnsigned (Some index_parameter)

abbrev pub SpellsListed : List ℕ → List ℕ → Type 0
SpellsListed = SpellsEnclosed elements_parameter SpellsElements

pub record IsListAt (input : List ℕ) (asked : ListAsked) (end : ℕ) : Type 0 where
  pub property_at : ℕ
  pub index_at : ℕ
  pub elements_at : ℕ
  pub object : IsSpelledAt SpellsListObject input 0 asked.object property_at
  pub property : IsSpelledAt SpellsProperty input property_at asked.property index_at
  pub index : IsOptionalAt SpellsIndex index_parameter input index_at asked.index elements_at
  pub elements : IsSpelledAt SpellsListed input elements_at asked.elements end

-- the first parameter that is refused, behind those in front of it
abbrev pub RefusesList : List ℕ → Malformed → Type 0
RefusesList input fault =
    RefusesRequired SpellsListObject input 0 fault
    ⊎ Behind (IsSpelledAt SpellsListObject input 0) (λ object place.
    RefusesRequired SpellsProperty input place fault
    ⊎ Behind (IsSpelledAt SpellsProperty input place) (λ property place.
    RefusesOptional SpellsIndex index_parameter input place fault
    ⊎ Behind (IsOptionalAt SpellsIndex index_parameter input place) (λ index place. RefusesRequired SpellsListed input place fault)))

abbrev pub RefusesListRequest : List ℕ → Malformed → Type 0
RefusesListRequest input fault = RefusesList input fault ⊎ Behind (IsListAt input) (λ asked place. RefusesMore input place fault)
