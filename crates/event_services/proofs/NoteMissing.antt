-- Where the octets end before a parameter that has to be there.
use Rattle.std.proofs.Common.{◌≡◌, ℕ, Some, Option, List, length, refl, Err, Result, inl, inr}
use Rattle.std.specs.Prelude.{◌⊎◌, ◌↔◌}
use Rattle.bac_tags.specs.declared.malformed.Malformed.{Malformed}
use Rattle.bac_tags.specs.Places.{IsSpelledAt}
use Rattle.bac_tags.specs.Contents.{SpellsObject, SpellsBoolean}
use Rattle.bac_tags.specs.Refusals.{missing_parameter, RefusesMore, Behind}
use Rattle.bac_tags.specs.Parameters.{IsOptionalAt}
use Rattle.bac_tags.proofs.RequiredReaders.{other_reason}
use Rattle.bac_tags.proofs.Reasons.{five_seven}
use Rattle.event_services.specs.declared.notification.Notification.{Notification}
use Rattle.event_services.specs.declared.read_note.NoteFault.{NoteFault}
use Rattle.event_services.specs.declared.read_note.NoteFault.TheVariants as faults
use Rattle.event_services.specs.NoteGrammar.{SpellsNumber, SpellsOctetNumber, SpellsState, SpellsText, SpellsMoment}
use Rattle.event_services.specs.NoteRefusals.{AreValuesAt, RefusesNeeded, RefusesGiven, RefusesValues, RefusesNotification, EndsOr, EndsBehind, EndsBeforeRequired}

abbrev missing : List ℕ → Malformed
missing input = missing_parameter (length input)

behind : {X : Type 0} (IsAt F G : X → ℕ → Type 0) → ((x : X) (place : ℕ) → F x place ↔ G x place) → Behind IsAt F ↔ Behind IsAt G
behind IsAt F G both = (
  λ h. record { value = h.value; end = h.end; there = h.there; holds = (both h.value h.end).0 h.holds },
  λ h. record { value = h.value; end = h.end; there = h.there; holds = (both h.value h.end).1 h.holds },
)

needed : {X : Type 0} (Spells : List ℕ → X → Type 0) (input : List ℕ) (place : ℕ) (F G : X → ℕ → Type 0) → ((x : X) (place : ℕ) → F x place ↔ G x place) → RefusesNeeded Spells input place (missing input) F ↔ EndsOr Spells input place G
needed {X = X} Spells input place F G both = (there, back)
  where
    there : RefusesNeeded Spells input place (missing input) F → EndsOr Spells input place G
    there (inl (inl h)) = inl h.1
    there (inl (inr h)) = absurd (other_reason (length input) place h.0)
    there (inr h) = inr ((behind (IsSpelledAt Spells input place) F G both).0 h)

    back : EndsOr Spells input place G → RefusesNeeded Spells input place (missing input) F
    back (inl h) = inl (inl (refl, h))
    back (inr h) = inr ((behind (IsSpelledAt Spells input place) F G both).1 h)

given : {X : Type 0} (Spells : List ℕ → X → Type 0) (number : ℕ) (input : List ℕ) (place : ℕ) (F G : Option X → ℕ → Type 0) → ((x : Option X) (place : ℕ) → F x place ↔ G x place) → RefusesGiven Spells number input place (missing input) F ↔ EndsBehind Spells number input place G
given {X = X} Spells number input place F G both = (there, λ h. inr ((behind (IsOptionalAt Spells number input place) F G both).1 h))
  where
    there : RefusesGiven Spells number input place (missing input) F → EndsBehind Spells number input place G
    there (inl h) = absurd (other_reason (length input) place h.0)
    there (inr h) = (behind (IsOptionalAt Spells number input place) F G both).0 h

values : (type : ℕ) (input : List ℕ) (place : ℕ) → (RefusesValues type input place (missing input) ⊎ Behind (AreValuesAt type input place) (λ told place. RefusesMore input place (missing input))) ↔ ⊥
values type input place = (there, λ h. absurd h)
  where
    there : RefusesValues type input place (missing input) ⊎ Behind (AreValuesAt type input place) (λ told place. RefusesMore input place (missing input)) → ⊥
    there (inl h) = other_reason (length input) place h.0
    there (inr h) = five_seven (length input) h.end h.holds.0

pub missing_exactly : (input : List ℕ) → RefusesNotification input (missing input) ↔ EndsBeforeRequired input
missing_exactly input =
    needed (SpellsNumber 0) input 0 _ _ (λ process place.
    needed (SpellsObject (Some 1)) input place _ _ (λ device place.
    needed (SpellsObject (Some 2)) input place _ _ (λ object place.
    needed (SpellsMoment 3) input place _ _ (λ stamp place.
    needed (SpellsNumber 4) input place _ _ (λ class place.
    needed (SpellsOctetNumber 5) input place _ _ (λ priority place.
    needed (SpellsOctetNumber 6) input place _ _ (λ type place.
    given (SpellsText 7) 7 input place _ _ (λ text place.
    needed (SpellsOctetNumber 8) input place _ _ (λ notify place.
    given (SpellsBoolean (Some 9)) 9 input place _ _ (λ ack_required place.
    given (SpellsState 10) 10 input place _ _ (λ from place.
    needed (SpellsState 11) input place _ _ (λ to place. values type input place))))))))))))

both : {A B C : Type 0} → A ↔ B → B ↔ C → A ↔ C
both f g = (λ a. g.0 (f.0 a), λ c. f.1 (g.1 c))

abbrev why : ℕ → ℕ → Malformed
why reject at = record { reject = reject; at = at }

pub missing_of : (input : List ℕ) (answer : Result Notification NoteFault) → (answer ≡ Err faults.NoMemory) ⊎ ((reject at : ℕ) → (answer ≡ Err (faults.Malformed reject at)) ↔ RefusesNotification input (why reject at))
    → (answer ≡ Err faults.NoMemory) ⊎ ((answer ≡ Err (faults.Malformed 5 (length input))) ↔ EndsBeforeRequired input)
missing_of input answer (inl h) = inl h
missing_of input answer (inr h) = inr (both (h 5 (length input)) (missing_exactly input))
