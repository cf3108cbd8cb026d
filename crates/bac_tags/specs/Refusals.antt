-- Why octets aren't the parameters of a service (ANSI/ASHRAE 135-2020, clause 21, BACnetRejectReason).
use Rattle.std.specs.Prelude.{◌≡◌, ℕ, ◌<◌, ◌⊎◌, List, length}
use Rattle.bac_values.specs.Reasons.{invalid_tag_reason, missing_required_parameter_reason, too_many_arguments_reason}
use Rattle.bac_tags.specs.declared.malformed.Malformed.{Malformed}
use Rattle.bac_tags.specs.Parameters.{IsThere, IsAbsent}

-- invalid-tag: what stands at the place isn't the parameter that should
abbrev pub invalid_tag : ℕ → Malformed
invalid_tag place = record { reject = invalid_tag_reason; at = place }

-- missing-required-parameter: the octets end at the place, where one should begin
abbrev pub missing_parameter : ℕ → Malformed
missing_parameter place = record { reject = missing_required_parameter_reason; at = place }

-- too-many-arguments: the first place behind the last parameter
abbrev pub too_many_arguments : ℕ → Malformed
too_many_arguments place = record { reject = too_many_arguments_reason; at = place }

-- ---- exactly where

-- where a required parameter should begin, the octets end, or something stands that isn't it
abbrev pub RefusesRequired : {X : Type 0} → (List ℕ → X → Type 0) → List ℕ → ℕ → Malformed → Type 0
RefusesRequired Spells input place fault =
    ((fault ≡ missing_parameter (length input)) × (place ≡ length input)) ⊎ ((fault ≡ invalid_tag place) × (place < length input) × ¬ IsThere Spells input place)

-- an optional parameter is neither there nor absent
abbrev pub RefusesOptional : {X : Type 0} → (List ℕ → X → Type 0) → ℕ → List ℕ → ℕ → Malformed → Type 0
RefusesOptional Spells number input place fault = (fault ≡ invalid_tag place) × (¬ IsAbsent number input place) × ¬ IsThere Spells input place

-- octets follow the last parameter
abbrev pub RefusesMore : List ℕ → ℕ → Malformed → Type 0
RefusesMore input place fault = (fault ≡ too_many_arguments place) × (place < length input)

-- what is said holds of something that is there and of the place behind it
pub record Behind {X : Type 0} (IsAt : X → ℕ → Type 0) (Holds : X → ℕ → Type 0) : Type 0 where
  pub value : X
  pub end : ℕ
  pub there : IsAt value end
  pub holds : Holds value end
