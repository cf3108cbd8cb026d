-- Why octets aren't the parameters of ReadPropertyMultiple: each refusal, exactly where it comes (ANSI/ASHRAE 135-2020, clause 21, BACnetRejectReason).
use Rattle.std.specs.Prelude.{◌≡◌, ◌≢◌, ℕ, ◌≤◌, ◌⊎◌, Some, List, [], ◌∷◌, length, drop}
use Rattle.bac_values.specs.ApplicationTags.{object_identifier_tag}
use Rattle.bac_tags.specs.Contents.{SpellsObject, SpellsUnsigned}
use Rattle.bac_tags.specs.declared.malformed.Malformed.{Malformed}
use Rattle.bac_tags.specs.Elements.{HasOtherTag}
use Rattle.bac_tags.specs.EnclosingTags.{SpellsOnly, closing, opening}
use Rattle.bac_tags.specs.Parameters.{IsOptionalAt, IsThere}
use Rattle.bac_tags.specs.Places.{IsSpelledAt}
use Rattle.bac_tags.specs.Refusals.{Behind, RefusesOptional, RefusesRequired, invalid_tag, missing_parameter, too_many_arguments}
use Rattle.summaries.specs.declared.requested.PropertyAsked.{PropertyAsked}
use Rattle.summaries.specs.ManyRequests.{ObjectAsked, index_parameter, object_parameter, properties_parameter, property_parameter}

-- ---- things one after the other

-- they stand from a place on
abbrev pub AreAt : {X : Type 0} → (ℕ → X → ℕ → Type 0) → ℕ → List X → ℕ → Type 0
AreAt Is place [] end = end ≡ place
AreAt Is place (x ∷ xs) end = (next : ℕ) × Is place x next × AreAt Is next xs end

-- and behind them their list ends
pub record AreListed {X : Type 0} (Is : ℕ → X → ℕ → Type 0) (Ends : ℕ → ℕ → Type 0) (place : ℕ) (xs : List X) (end : ℕ) : Type 0 where
  pub stop : ℕ
  pub are : AreAt Is place xs stop
  pub ends : Ends stop end

-- behind some of them the list doesn't end, and what stands there is refused
pub record RefusesListed {X : Type 0} (Is : ℕ → X → ℕ → Type 0) (Ends : ℕ → ℕ → Type 0) (Refuses : ℕ → Malformed → Type 0) (place : ℕ) (fault : Malformed) : Type 0 where
  pub xs : List X
  pub stop : ℕ
  pub are : AreAt Is place xs stop
  pub no_end : (end : ℕ) → ¬ Ends stop end
  pub refused : Refuses stop fault

-- ---- properties

abbrev pub Number : ℕ → List ℕ → ℕ → Type 0
Number number = SpellsUnsigned (Some number)

pub record IsPropertyAt (input : List ℕ) (place : ℕ) (asked : PropertyAsked) (end : ℕ) : Type 0 where
  pub index_at : ℕ
  pub property : IsSpelledAt (Number property_parameter) input place asked.property index_at
  pub index : IsOptionalAt (Number index_parameter) index_parameter input index_at asked.index end

-- what isn't a property; or its index is neither there nor absent
abbrev pub RefusesProperty : List ℕ → ℕ → Malformed → Type 0
RefusesProperty input place fault =
    ((fault ≡ invalid_tag place) × ¬ IsThere (Number property_parameter) input place)
    ⊎ Behind (IsSpelledAt (Number property_parameter) input place) (λ property place. RefusesOptional (Number index_parameter) index_parameter input place fault)

-- the closing tag stands there
abbrev pub ClosesAt : List ℕ → ℕ → ℕ → Type 0
ClosesAt input place end = IsSpelledAt (SpellsOnly (closing properties_parameter)) input place tt end

-- one property or more, and the closing tag
abbrev pub ArePropertiesAt : List ℕ → ℕ → List PropertyAsked → ℕ → Type 0
ArePropertiesAt input place properties end = AreListed (IsPropertyAt input) (ClosesAt input) place properties end × (properties ≢ [])

-- there is none; or behind some of them something stands that is neither one nor the closing tag
abbrev pub RefusesProperties : List ℕ → ℕ → Malformed → Type 0
RefusesProperties input place fault =
    ((fault ≡ missing_parameter place) × ((end : ℕ) × ClosesAt input place end))
    ⊎ RefusesListed (IsPropertyAt input) (ClosesAt input) (RefusesProperty input) place fault

-- ---- objects

abbrev pub Opens : List ℕ → ℕ → Unit {0} → ℕ → Type 0
Opens input = IsSpelledAt (SpellsOnly (opening properties_parameter)) input

pub record IsGroupAt (input : List ℕ) (place : ℕ) (asked : ObjectAsked) (end : ℕ) : Type 0 where
  pub list_at : ℕ
  pub start : ℕ
  pub object : IsSpelledAt (SpellsObject (Some object_parameter)) input place asked.object list_at
  pub opened : Opens input list_at tt start
  pub properties : ArePropertiesAt input start asked.properties end

abbrev pub RefusesGroup : List ℕ → ℕ → Malformed → Type 0
RefusesGroup input place fault =
    RefusesRequired (SpellsObject (Some object_parameter)) input place fault
    ⊎ Behind (IsSpelledAt (SpellsObject (Some object_parameter)) input place) (λ object place.
    RefusesRequired (SpellsOnly (opening properties_parameter)) input place fault
    ⊎ Behind (Opens input place) (λ nothing place. RefusesProperties input place fault))

-- where a further object may begin, another tag is one argument too many
abbrev pub IsOther : List ℕ → ℕ → Type 0
IsOther input place = HasOtherTag object_identifier_tag (Some object_parameter) (drop place input)

abbrev pub RefusesFurther : List ℕ → ℕ → Malformed → Type 0
RefusesFurther input place fault = ((fault ≡ too_many_arguments place) × IsOther input place) ⊎ ((¬ IsOther input place) × RefusesGroup input place fault)

-- ---- the request

abbrev pub EndsAt : List ℕ → ℕ → ℕ → Type 0
EndsAt input place end = (end ≡ place) × (length input ≤ place)

abbrev pub RefusesReadMany : List ℕ → Malformed → Type 0
RefusesReadMany input fault =
    RefusesGroup input 0 fault
    ⊎ Behind (IsGroupAt input 0) (λ first place. RefusesListed (IsGroupAt input) (EndsAt input) (RefusesFurther input) place fault)
