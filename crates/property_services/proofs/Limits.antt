-- The clauses of the reader of Who-Is.
use Rattle.std.proofs.Common.{◌≡◌, ℕ, ◌+◌, ◌≤◌, Option, Some, None, List, [], ◌∷◌, ◌++◌, length, Ok, refl, sym, ap, subst, ◌∙◌, arith, inl, inr}
use Rattle.std.specs.Prelude.{◌⊎◌}
use Rattle.bac_tags.specs.Places.{IsSpelledAt}
use Rattle.bac_tags.specs.Contents.{SpellsUnsigned}
use Rattle.bac_tags.specs.ReadingSteps.{unsigned_at}
use Rattle.bac_tags.proofs.Standing.{IsBytes, Stands, Stands-then, Stands-front, Stands-back}
use Rattle.bac_tags.specs.declared.malformed.Malformed.{Malformed}
use Rattle.bac_tags.specs.Parameters.{IsOptionalAt}
use Rattle.bac_tags.specs.ParameterReadingSteps.{required, optional}
use Rattle.property_services.specs.Requests.{SpellsWhoIs}
use Rattle.property_services.specs.ReadingSteps.{limits_behind, limits_at, who_is_of}
use Rattle.property_services.specs.Refusals.{IsLimitsAt, RefusesLimits, RefusesWhoIs}
use Rattle.bac_tags.specs.Refusals.{Behind, RefusesRequired, RefusesOptional}
use Rattle.bac_tags.proofs.ParameterAnswers.{Answers, Both, Made, then, mapped, said, Whole, ended, whole_said}
use Rattle.bac_tags.proofs.ElementAnswers.{ends_within, optional_ends, unsigned_required, unsigned_optional}
use Rattle.property_services.proofs.References.{stands, spelled_at, all_of, all_stand}

abbrev SpellsLow : List ℕ → ℕ → Type 0
SpellsLow = SpellsUnsigned (Some 0)

abbrev SpellsHigh : List ℕ → ℕ → Type 0
SpellsHigh = SpellsUnsigned (Some 1)

abbrev both : ℕ → ℕ → Option (ℕ × ℕ)
both low high = Some (low, high)

-- behind the lowest instance, or behind none
abbrev IsRest : List ℕ → Option ℕ → ℕ → Option (ℕ × ℕ) → ℕ → Type 0
IsRest input None place limits end = (limits ≡ None) × (end ≡ place)
IsRest input (Some low) place limits end = Made (IsSpelledAt SpellsHigh input place) (both low) limits end

abbrev RefusesRest : List ℕ → Option ℕ → ℕ → Malformed → Type 0
RefusesRest input None place fault = ⊥
RefusesRest input (Some low) place fault = RefusesRequired SpellsHigh input place fault

rest_answers : (input : List ℕ) (low : Option ℕ) (place : ℕ) → IsBytes input → place ≤ length input → Answers (IsRest input low place) (RefusesRest input low place) (limits_behind input low place)
unfolding limits_behind
rest_answers input None place bytes le =
    record {
      found = λ x e. (let same = e in cc, let same = e in cc);
      only = λ x end h. ap (λ (y : Option (ℕ × ℕ)). Ok (y, place)) (sym h.0) ∙ ap (λ (n : ℕ). Ok (x, n)) (sym h.1);
      refused = λ fault e. absurd cc;
      refuses = λ fault h. absurd h;
    }
rest_answers input (Some low) place bytes le =
    mapped (IsSpelledAt SpellsHigh input place) (RefusesRequired SpellsHigh input place) (required input place (unsigned_at input place (Some 1))) (both low) (unsigned_required input place 1 bytes le)

abbrev IsChain : List ℕ → Option (ℕ × ℕ) → ℕ → Type 0
IsChain input = Both (IsOptionalAt SpellsLow 0 input 0) (IsRest input)

abbrev RefusesChain : List ℕ → Malformed → Type 0
RefusesChain input fault = RefusesOptional SpellsLow 0 input 0 fault ⊎ Behind (IsOptionalAt SpellsLow 0 input 0) (λ low place. RefusesRest input low place fault)

chained : (input : List ℕ) → IsBytes input → Answers (IsChain input) (RefusesChain input) (limits_at input)
unfolding limits_at
chained input bytes =
    then (IsOptionalAt SpellsLow 0 input 0) (RefusesOptional SpellsLow 0 input 0) (optional input 0 (unsigned_at input 0 (Some 0)))
    (IsRest input) (RefusesRest input) (λ low. limits_behind input low.0 low.1)
    (unsigned_optional input 0 0 bytes (omega arith)) (λ low place there. rest_answers input low place bytes (optional_ends SpellsLow 0 input 0 low place (omega arith) there))

to_limits : (input : List ℕ) (x : Option (ℕ × ℕ)) (end : ℕ) → IsChain input x end → IsLimitsAt input x end
to_limits input x end h = go h.first h.place h.is_first h.is_next
  where
    go : (low : Option ℕ) (place : ℕ) → IsOptionalAt SpellsLow 0 input 0 low place → IsRest input low place x end → IsLimitsAt input x end
    go None place there rest = subst (λ (y : Option (ℕ × ℕ)). IsLimitsAt input y end) (sym rest.0) (rest.1 ∙ there.0, there.1)
    go (Some low) place there rest = subst (λ (y : Option (ℕ × ℕ)). IsLimitsAt input y end) rest.made (place, there, rest.is)

from_limits : (input : List ℕ) (x : Option (ℕ × ℕ)) (end : ℕ) → IsLimitsAt input x end → IsChain input x end
from_limits input None end h = record { first = None; place = 0; is_first = (refl, h.1); is_next = (refl, h.0) }
from_limits input (Some limits) end h =
    record { first = Some limits.0; place = h.0; is_first = h.1; is_next = record { value = limits.1; is = h.2; made = refl } }

to_refusal : (input : List ℕ) (fault : Malformed) → RefusesChain input fault → RefusesLimits input fault
to_refusal input fault (inl h) = inl h
to_refusal input fault (inr h) = go h.value h.end h.there h.holds
  where
    go : (low : Option ℕ) (place : ℕ) → IsOptionalAt SpellsLow 0 input 0 low place → RefusesRest input low place fault → RefusesLimits input fault
    go None place there holds = absurd holds
    go (Some low) place there holds = inr (record { value = low; end = place; there = there; holds = holds })

from_refusal : (input : List ℕ) (fault : Malformed) → RefusesLimits input fault → RefusesChain input fault
from_refusal input fault (inl h) = inl h
from_refusal input fault (inr h) = inr (record { value = Some h.value; end = h.end; there = h.there; holds = h.holds })

limits_answers : (input : List ℕ) → IsBytes input → Answers (IsLimitsAt input) (RefusesLimits input) (limits_at input)
limits_answers input bytes =
    said (IsChain input) (IsLimitsAt input) (RefusesChain input) (RefusesLimits input) (limits_at input) (chained input bytes) (to_limits input) (from_limits input) (to_refusal input) (from_refusal input)

limits_within : (input : List ℕ) (x : Option (ℕ × ℕ)) (end : ℕ) → IsLimitsAt input x end → end ≤ length input
limits_within input None end h = omega (arith, h.0)
limits_within input (Some limits) end h =
    ends_within SpellsHigh input h.0 limits.1 end (ends_within SpellsLow input 0 limits.0 h.0 (omega arith) h.1) h.2

to_whole : (input : List ℕ) (x : Option (ℕ × ℕ)) → IsLimitsAt input x (length input) → SpellsWhoIs input x
to_whole [] None h = refl
to_whole (octet ∷ octets) None h = absurd (omega (arith, h.0))
to_whole input (Some limits) h =
    let low = stands SpellsLow input 0 limits.0 h.0 h.1 in
    let high = stands SpellsHigh input h.0 limits.1 (length input) h.2 in
    let all = Stands-then input 0 h.1.octets h.0 h.2.octets (length input) low high in
    record { low_octets = h.1.octets; high_octets = h.2.octets; parts = all_of input (h.1.octets ++ h.2.octets) all; low = h.1.spelled; high = h.2.spelled }

from_whole : (input : List ℕ) (x : Option (ℕ × ℕ)) → SpellsWhoIs input x → IsLimitsAt input x (length input)
from_whole input None e = (ap length e, inl (sym (ap length e)))
from_whole input (Some limits) s =
    let all : Stands input 0 (s.low_octets ++ s.high_octets) (length input) = subst (λ (o : List ℕ). Stands input 0 o (length input)) s.parts (all_stand input) in
    let low = Stands-front input 0 s.low_octets s.high_octets (length input) all in
    let high = Stands-back input 0 s.low_octets s.high_octets (length input) all in
    let place = 0 + length s.low_octets in
    (place, spelled_at SpellsLow input 0 limits.0 place s.low_octets s.low low, spelled_at SpellsHigh input place limits.1 (length input) s.high_octets s.high high)

pub who_is_answers : (input : List ℕ) → IsBytes input → Whole (SpellsWhoIs input) (RefusesWhoIs input) (who_is_of input)
who_is_answers input bytes =
    whole_said (λ x. IsLimitsAt input x (length input)) (SpellsWhoIs input) (RefusesWhoIs input) (who_is_of input) (ended input (IsLimitsAt input) (RefusesLimits input) (limits_at input) (limits_answers input bytes) (limits_within input)) (to_whole input) (from_whole input)
