-- Why octets aren't the parameters of GetEnrollmentSummary: each refusal, exactly where it comes (ANSI/ASHRAE 135-2020, clause 21, BACnetRejectReason).
use Rattle.std.specs.Prelude.{◌≡◌, ℕ, ◌⊎◌, Option, Some, None, List, length, drop}
use Rattle.bac_tags.specs.Places.{IsSpelledAt}
use Rattle.bac_tags.specs.Contents.{SpellsUnsigned}
use Rattle.bac_tags.specs.declared.malformed.Malformed.{Malformed}
use Rattle.bac_tags.specs.EnclosingTags.{IsOtherTag, SpellsEnclosed, opening}
use Rattle.bac_tags.specs.Parameters.{IsThere, IsOptionalAt}
use Rattle.bac_tags.specs.Refusals.{invalid_tag, RefusesRequired, RefusesOptional, RefusesMore, Behind}
use Rattle.summaries.specs.declared.filter.Filter.{Filter}
use Rattle.summaries.specs.Requests.{SpellsAsked, SpellsListed, SpellsPriorities, acknowledgment_filter, enrollment_filter, event_state_filter, event_type_filter, priority_filter, notification_class_filter, not_acked, active}

-- ---- a parameter between tags, which may be absent

-- none begins there: the octets end, or have a whole tag that doesn't open it
abbrev pub IsNoneOpened : ℕ → List ℕ → ℕ → Type 0
IsNoneOpened number input place = (place ≡ length input) ⊎ IsOtherTag (opening number) (drop place input)

abbrev pub IsEnclosedAt : {X : Type 0} → (List ℕ → X → Type 0) → ℕ → List ℕ → ℕ → Option X → ℕ → Type 0
IsEnclosedAt Spells number input place None end = (end ≡ place) × IsNoneOpened number input place
IsEnclosedAt Spells number input place (Some value) end = IsSpelledAt (SpellsEnclosed number Spells) input place value end

abbrev pub RefusesEnclosed : {X : Type 0} → (List ℕ → X → Type 0) → ℕ → List ℕ → ℕ → Malformed → Type 0
RefusesEnclosed Spells number input place fault =
    (fault ≡ invalid_tag place) × (¬ IsNoneOpened number input place) × ¬ IsThere (SpellsEnclosed number Spells) input place

-- ---- the request

pub record IsFilterAt (input : List ℕ) (filter : Filter) (end : ℕ) : Type 0 where
  pub recipient_at : ℕ
  pub state_at : ℕ
  pub type_at : ℕ
  pub priorities_at : ℕ
  pub class_at : ℕ
  pub acked : IsSpelledAt (SpellsListed acknowledgment_filter not_acked) input 0 filter.acked recipient_at
  pub recipient : IsEnclosedAt SpellsAsked enrollment_filter input recipient_at filter.recipient state_at
  pub state : IsOptionalAt (SpellsListed event_state_filter active) event_state_filter input state_at filter.state type_at
  pub event_type : IsOptionalAt (SpellsUnsigned (Some event_type_filter)) event_type_filter input type_at filter.event_type priorities_at
  pub priorities : IsEnclosedAt SpellsPriorities priority_filter input priorities_at filter.priorities class_at
  pub class : IsOptionalAt (SpellsUnsigned (Some notification_class_filter)) notification_class_filter input class_at filter.class end

-- the first parameter that is refused, behind those in front of it
abbrev pub RefusesFilter : List ℕ → Malformed → Type 0
RefusesFilter input fault =
    RefusesRequired (SpellsListed acknowledgment_filter not_acked) input 0 fault
    ⊎ Behind (IsSpelledAt (SpellsListed acknowledgment_filter not_acked) input 0) (λ acked place.
    RefusesEnclosed SpellsAsked enrollment_filter input place fault
    ⊎ Behind (IsEnclosedAt SpellsAsked enrollment_filter input place) (λ recipient place.
    RefusesOptional (SpellsListed event_state_filter active) event_state_filter input place fault
    ⊎ Behind (IsOptionalAt (SpellsListed event_state_filter active) event_state_filter input place) (λ state place.
    RefusesOptional (SpellsUnsigned (Some event_type_filter)) event_type_filter input place fault
    ⊎ Behind (IsOptionalAt (SpellsUnsigned (Some event_type_filter)) event_type_filter input place) (λ event_type place.
    RefusesEnclosed SpellsPriorities priority_filter input place fault
    ⊎ Behind (IsEnclosedAt SpellsPriorities priority_filter input place) (λ priorities place.
    RefusesOptional (SpellsUnsigned (Some notification_class_filter)) notification_class_filter input place fault)))))

abbrev pub RefusesEnrollmentRequest : List ℕ → Malformed → Type 0
RefusesEnrollmentRequest input fault = RefusesFilter input fault ⊎ Behind (IsFilterAt input) (λ filter place. RefusesMore input place fault)
