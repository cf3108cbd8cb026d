-- Why octets aren't a notification: each refusal, exactly where it comes (ANSI/ASHRAE 135-2020, clause 21, BACnetRejectReason).
use Rattle.std.specs.Prelude.{◌≡◌, ℕ, ◌⊎◌, Option, Some, None, List, length, drop}
use Rattle.bac_tags.specs.Places.{IsSpelledAt}
use Rattle.bac_tags.specs.Contents.{SpellsObject, SpellsBoolean}
use Rattle.bac_tags.specs.declared.malformed.Malformed.{Malformed}
use Rattle.bac_tags.specs.EnclosingTags.{opening, IsOtherTag}
use Rattle.bac_tags.specs.Parameters.{IsThere, IsOptionalAt}
use Rattle.bac_tags.specs.Refusals.{invalid_tag, RefusesRequired, RefusesOptional, RefusesMore, Behind}
use Rattle.event_services.specs.declared.notification.EventValues.{EventValues}
use Rattle.event_services.specs.NoteGrammar.{SpellsNumber, SpellsOctetNumber, SpellsState, SpellsText, SpellsMoment, SpellsValuesOf}

-- a parameter that has to be there is refused, or what follows it, given its value and the place behind it
abbrev pub RefusesNeeded : {X : Type 0} → (List ℕ → X → Type 0) → List ℕ → ℕ → Malformed → (X → ℕ → Type 0) → Type 0
RefusesNeeded Spells input place fault Follows = RefusesRequired Spells input place fault ⊎ Behind (IsSpelledAt Spells input place) Follows

-- and one that may be absent
abbrev pub RefusesGiven : {X : Type 0} → (List ℕ → X → Type 0) → ℕ → List ℕ → ℕ → Malformed → (Option X → ℕ → Type 0) → Type 0
RefusesGiven Spells number input place fault Follows = RefusesOptional Spells number input place fault ⊎ Behind (IsOptionalAt Spells number input place) Follows

-- no values begin there: the octets end, or have a whole tag that doesn't open them
abbrev pub HasNoValues : List ℕ → ℕ → Type 0
HasNoValues input place = (place ≡ length input) ⊎ IsOtherTag (opening 12) (drop place input)

abbrev pub AreValuesAt : ℕ → List ℕ → ℕ → Option EventValues → ℕ → Type 0
AreValuesAt type input place None end = (end ≡ place) × HasNoValues input place
AreValuesAt type input place (Some told) end = IsSpelledAt (SpellsValuesOf type) input place told end

abbrev pub RefusesValues : ℕ → List ℕ → ℕ → Malformed → Type 0
RefusesValues type input place fault = (fault ≡ invalid_tag place) × (¬ HasNoValues input place) × ¬ IsThere (SpellsValuesOf type) input place

-- the parameters in their order
abbrev pub RefusesNotification : List ℕ → Malformed → Type 0
RefusesNotification input fault =
    RefusesNeeded (SpellsNumber 0) input 0 fault (λ process place.
    RefusesNeeded (SpellsObject (Some 1)) input place fault (λ device place.
    RefusesNeeded (SpellsObject (Some 2)) input place fault (λ object place.
    RefusesNeeded (SpellsMoment 3) input place fault (λ stamp place.
    RefusesNeeded (SpellsNumber 4) input place fault (λ class place.
    RefusesNeeded (SpellsOctetNumber 5) input place fault (λ priority place.
    RefusesNeeded (SpellsOctetNumber 6) input place fault (λ type place.
    RefusesGiven (SpellsText 7) 7 input place fault (λ text place.
    RefusesNeeded (SpellsOctetNumber 8) input place fault (λ notify place.
    RefusesGiven (SpellsBoolean (Some 9)) 9 input place fault (λ ack_required place.
    RefusesGiven (SpellsState 10) 10 input place fault (λ from place.
    RefusesNeeded (SpellsState 11) input place fault (λ to place.
    RefusesValues type input place fault ⊎ Behind (AreValuesAt type input place) (λ told place. RefusesMore input place fault)))))))))))))

-- ---- where the octets end before a required parameter

-- the octets end where it should begin, or it is there and what is said holds behind it
abbrev pub EndsOr : {X : Type 0} → (List ℕ → X → Type 0) → List ℕ → ℕ → (X → ℕ → Type 0) → Type 0
EndsOr Spells input place Follows = (place ≡ length input) ⊎ Behind (IsSpelledAt Spells input place) Follows

-- it may be absent, and what is said holds behind it
abbrev pub EndsBehind : {X : Type 0} → (List ℕ → X → Type 0) → ℕ → List ℕ → ℕ → (Option X → ℕ → Type 0) → Type 0
EndsBehind Spells number input place Follows = Behind (IsOptionalAt Spells number input place) Follows

-- the parameters in their order, of which the text, the acknowledgement and the state before may be absent
abbrev pub EndsBeforeRequired : List ℕ → Type 0
EndsBeforeRequired input =
    EndsOr (SpellsNumber 0) input 0 (λ process place.
    EndsOr (SpellsObject (Some 1)) input place (λ device place.
    EndsOr (SpellsObject (Some 2)) input place (λ object place.
    EndsOr (SpellsMoment 3) input place (λ stamp place.
    EndsOr (SpellsNumber 4) input place (λ class place.
    EndsOr (SpellsOctetNumber 5) input place (λ priority place.
    EndsOr (SpellsOctetNumber 6) input place (λ type place.
    EndsBehind (SpellsText 7) 7 input place (λ text place.
    EndsOr (SpellsOctetNumber 8) input place (λ notify place.
    EndsBehind (SpellsBoolean (Some 9)) 9 input place (λ ack_required place.
    EndsBehind (SpellsState 10) 10 input place (λ from place.
    EndsOr (SpellsState 11) input place (λ to place. ⊥))))))))))))
