-- Where a text stands in a notification: it takes memory, and nothing else does.
use Rattle.std.specs.Prelude.{◌≡◌, ℕ, ◌⊎◌, List}
use Rattle.bac_values.specs.declared.value.Value.TheVariants as values
use Rattle.bac_values.specs.EventTypes.{command_failure_type, change_of_characterstring_type, change_of_reliability_type}
use Rattle.bac_tags.specs.Places.{IsSpelledAt}
use Rattle.bac_tags.specs.Values.{SpellsValue}
use Rattle.bac_tags.specs.EnclosingTags.{opening, SpellsOnly, SpellsEnclosed}
use Rattle.bac_tags.specs.Parameters.{IsThere}
use Rattle.bac_tags.specs.Refusals.{Behind}
use Rattle.event_services.specs.NoteGrammar.{SpellsText, SpellsFlags, SpellsReliability, SpellsPresentValue}

-- what is said of the place behind something that is there
abbrev pub IsAfter : {X : Type 0} → (List ℕ → X → Type 0) → (List ℕ → ℕ → Type 0) → List ℕ → ℕ → Type 0
IsAfter Spells Holds input place = Behind (IsSpelledAt Spells input place) (λ x end. Holds input end)

-- a tag that opens
abbrev pub IsInside : ℕ → (List ℕ → ℕ → Type 0) → List ℕ → ℕ → Type 0
IsInside number = IsAfter (SpellsOnly (opening number))

-- a well-formed text with a number in a context
abbrev pub IsText : ℕ → List ℕ → ℕ → Type 0
IsText number = IsThere (SpellsText number)

-- a text as a value, between the tags of a number
abbrev pub IsTextValue : List ℕ → ℕ → Type 0
IsTextValue = IsThere (λ octets text. SpellsValue octets (values.Text text))

abbrev pub HoldsText : ℕ → List ℕ → ℕ → Type 0
HoldsText number = IsInside number IsTextValue

-- command failure: the command, or the feedback
abbrev pub IsTextOfCommand : List ℕ → ℕ → Type 0
IsTextOfCommand input place = HoldsText 0 input place ⊎ IsAfter (SpellsEnclosed 0 SpellsValue) (IsAfter SpellsFlags (HoldsText 2)) input place

-- change of characterstring: the value, or the alarm value
abbrev pub IsTextOfChange : List ℕ → ℕ → Type 0
IsTextOfChange input place = IsText 0 input place ⊎ IsAfter (SpellsText 0) (IsAfter SpellsFlags (IsText 2)) input place

-- change of reliability: the present value among the properties
abbrev pub IsTextOfProperty : List ℕ → ℕ → Type 0
IsTextOfProperty = IsAfter SpellsPresentValue (HoldsText 2)

abbrev pub IsTextOfProperties : List ℕ → ℕ → Type 0
IsTextOfProperties = IsInside 2 IsTextOfProperty

abbrev pub IsTextOfReliability : List ℕ → ℕ → Type 0
IsTextOfReliability = IsAfter (SpellsReliability 0) (IsAfter SpellsFlags IsTextOfProperties)

-- in what is told of an event of that type
abbrev pub IsTextTold : ℕ → List ℕ → ℕ → Type 0
IsTextTold type input place =
    ((type ≡ command_failure_type) × IsTextOfCommand input place) ⊎ (((type ≡ change_of_characterstring_type) × IsTextOfChange input place) ⊎ ((type ≡ change_of_reliability_type) × IsTextOfReliability input place))

abbrev pub IsTextOfValues : ℕ → List ℕ → ℕ → Type 0
IsTextOfValues type = IsInside 12 (IsInside type (IsTextTold type))

-- the message text, or a text in the values of an event, is there
pub record HasText (input : List ℕ) : Type 0 where
  pub place : ℕ
  pub type : ℕ
  pub text : IsText 7 input place ⊎ IsTextOfValues type input place
