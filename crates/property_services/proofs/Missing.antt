-- Where the octets end before a required parameter.
use Rattle.std.proofs.Common.{◌≡◌, ◌≢◌, ℕ, Some, List, length, refl, sym, ap, subst, arith, inl, inr}
use Rattle.std.specs.Prelude.{◌↔◌}
use Rattle.std.proofs.lemmas.List.{nil_from_length}
use Rattle.bac_tags.specs.Places.{IsSpelledAt}
use Rattle.bac_tags.specs.Contents.{SpellsUnsigned, SpellsObject}
use Rattle.bac_tags.proofs.Standing.{Stands}
use Rattle.bac_tags.specs.declared.malformed.Malformed.{Malformed}
use Rattle.bac_tags.specs.Refusals.{missing_parameter, too_many_arguments}
use Rattle.bac_tags.proofs.RequiredReaders.{other_reason}
use Rattle.property_services.specs.Refusals.{IsReferenceAt, RefusesReference, RefusesReadProperty, RefusesReadRange, RefusesWriteProperty, RefusesWhoIs, EndsBeforeProperty, EndsBeforeValue, EndsBeforeHighest}
use Rattle.property_services.proofs.References.{stands, spelled_at, all_of, all_stand, read_to, read_from}

abbrev missing : List ℕ → Malformed
missing input = missing_parameter (length input)

-- two refusals with other reasons
not_too_many : (a b : ℕ) → missing_parameter a ≢ too_many_arguments b
not_too_many a b e = five_is_seven (missing_parameter a).reject (too_many_arguments b).reject refl refl (ap (λ (m : Malformed). m.reject) e)
  where
    five_is_seven : (five seven : ℕ) → five ≡ 5 → seven ≡ 7 → five ≢ seven
    five_is_seven five seven a b e = omega arith

-- what is spelled from the first place to the end is spelled by all octets
all_spelled : {X : Type 0} (Spells : List ℕ → X → Type 0) (input : List ℕ) (x : X) (end : ℕ) → IsSpelledAt Spells input 0 x end → end ≡ length input → Spells input x
all_spelled Spells input x end s same =
    let p : Stands input 0 s.octets (length input) = subst (λ (n : ℕ). Stands input 0 s.octets n) same (stands Spells input 0 x end s) in
    subst (λ (o : List ℕ). Spells o x) (sym (all_of input s.octets p)) s.spelled

spelled_all : {X : Type 0} (Spells : List ℕ → X → Type 0) (input : List ℕ) (x : X) → Spells input x → IsSpelledAt Spells input 0 x (length input)
spelled_all Spells input x s = spelled_at Spells input 0 x (length input) input s (all_stand input)

to_reference : (input : List ℕ) → RefusesReference input (missing input) → EndsBeforeProperty input
to_reference input (inl (inl h)) = inl (nil_from_length input (sym h.1))
to_reference input (inl (inr h)) = absurd (other_reason (length input) 0 h.0)
to_reference input (inr b) =
    elim b.holds [
      | inl required ↦ elim required [
        | inl end ↦ inr (b.value, all_spelled (SpellsObject (Some 0)) input b.value b.end b.there end.1)
        | inr invalid ↦ absurd (other_reason (length input) b.end invalid.0)
      ]
      | inr index ↦ absurd (other_reason (length input) index.end index.holds.0)
    ]

from_reference : (input : List ℕ) → EndsBeforeProperty input → RefusesReference input (missing input)
from_reference input (inl none) = inl (inl (refl, sym (ap length none)))
from_reference input (inr object) =
    inr (record { value = object.0; end = length input; there = spelled_all (SpellsObject (Some 0)) input object.0 object.1; holds = inl (inl (refl, refl)) })

pub missing_in_read_property : (input : List ℕ) → RefusesReadProperty input (missing input) ↔ EndsBeforeProperty input
missing_in_read_property input = (there, λ h. inl (from_reference input h))
  where
    there : RefusesReadProperty input (missing input) → EndsBeforeProperty input
    there (inl h) = to_reference input h
    there (inr more) = absurd (not_too_many (length input) more.end more.holds.0)

pub missing_in_read_range : (input : List ℕ) → RefusesReadRange input (missing input) ↔ EndsBeforeProperty input
missing_in_read_range input = (there, λ h. inl (inl (from_reference input h)))
  where
    there : RefusesReadRange input (missing input) → EndsBeforeProperty input
    there (inl (inl h)) = to_reference input h
    there (inl (inr range)) = absurd (other_reason (length input) range.end range.holds.0)
    there (inr more) = absurd (not_too_many (length input) more.end more.holds.0)

pub missing_in_write_property : (input : List ℕ) → RefusesWriteProperty input (missing input) ↔ EndsBeforeValue input
missing_in_write_property input = (there, back)
  where
    there : RefusesWriteProperty input (missing input) → EndsBeforeValue input
    there (inl (inl h)) = inl (to_reference input h)
    there (inl (inr b)) =
        elim b.holds [
          | inl required ↦ elim required [
            | inl end ↦ inr (b.value, read_to input b.value (subst (λ (n : ℕ). IsReferenceAt input b.value n) end.1 b.there))
            | inr invalid ↦ absurd (other_reason (length input) b.end invalid.0)
          ]
          | inr priority ↦ absurd (other_reason (length input) priority.end priority.holds.0)
        ]
    there (inr more) = absurd (not_too_many (length input) more.end more.holds.0)

    back : EndsBeforeValue input → RefusesWriteProperty input (missing input)
    back (inl h) = inl (inl (from_reference input h))
    back (inr reference) = inl (inr (record { value = reference.0; end = length input; there = read_from input reference.0 reference.1; holds = inl (inl (refl, refl)) }))

pub missing_in_who_is : (input : List ℕ) → RefusesWhoIs input (missing input) ↔ EndsBeforeHighest input
missing_in_who_is input = (there, back)
  where
    there : RefusesWhoIs input (missing input) → EndsBeforeHighest input
    there (inl (inl low)) = absurd (other_reason (length input) 0 low.0)
    there (inl (inr b)) =
        elim b.holds [
          | inl end ↦ (b.value, all_spelled (SpellsUnsigned (Some 0)) input b.value b.end b.there end.1)
          | inr invalid ↦ absurd (other_reason (length input) b.end invalid.0)
        ]
    there (inr more) = absurd (not_too_many (length input) more.end more.holds.0)

    back : EndsBeforeHighest input → RefusesWhoIs input (missing input)
    back low = inl (inr (record { value = low.0; end = length input; there = spelled_all (SpellsUnsigned (Some 0)) input low.0 low.1; holds = inl (refl, refl) }))

-- a clause on one refusal, from that on all
pub both : {A B C : Type 0} → A ↔ B → B ↔ C → A ↔ C
both f g = (λ a. g.0 (f.0 a), λ c. f.1 (g.1 c))
