-- Optional parameters by the readers of their elements: what is read stands there, and what stands there is read.
use Rattle.std.proofs.Common.{◌≡◌, ℕ, ◌<◌, ◌≤◌, eqb, Option, Some, None, List, length, Result, Ok, Err, refl, sym, ap, subst, ◌∙◌, inl, inr}
use Rattle.std.proofs.lemmas.Bool.{cases_lt}
use Rattle.bac_tags.specs.declared.fault.TagFault.{TagFault}
use Rattle.bac_tags.specs.declared.fault.TagFault.TheVariants.{Truncated, WrongTag, BadLength, NoMemory}
use Rattle.bac_tags.proofs.Steps.{chosen, ok_is}
use Rattle.bac_tags.proofs.Standing.{IsBytes, Stands}
use Rattle.bac_tags.proofs.Answered.{Spelled}
use Rattle.bac_tags.specs.declared.malformed.Malformed.{Malformed}
use Rattle.bac_tags.specs.Refusals.{invalid_tag}
use Rattle.bac_tags.specs.ParameterReadingSteps.{or_absent, optional}
use Rattle.bac_tags.proofs.RequiredReaders.{optional_inside, optional_outside, absent_other}
use Rattle.bac_tags.proofs.ElementReaders.{Reader}
use Rattle.bac_tags.proofs.Sequences.{stands_inside}

-- an answered optional parameter stands there, or nothing does
abbrev pub StandsOrNot : {X : Type 0} → (List ℕ → X → Type 0) → List ℕ → ℕ → Option X → ℕ → Type 0
StandsOrNot Spells input place None end = end ≡ place
StandsOrNot Spells input place (Some x) end = Spelled Spells input place x end

abbrev absent : {X : Type 0} → ℕ → Result (Option X × ℕ) Malformed
absent place = Ok (None, place)

abbrev bad : {X : Type 0} → ℕ → Result (Option X × ℕ) Malformed
bad place = Err (invalid_tag place)

absent_ok : {X : Type 0} (Spells : List ℕ → X → Type 0) (input : List ℕ) (place : ℕ) (read : Result (X × ℕ) TagFault) (x : Option X × ℕ) → ((y : X × ℕ) → read ≡ Ok y → Spelled Spells input place y.0 y.1) → or_absent place read ≡ Ok x
    → StandsOrNot Spells input place x.0 x.1
absent_ok {X = X} Spells input place (Ok y) x f e = subst (λ (z : Option X × ℕ). StandsOrNot Spells input place z.0 z.1) (ok_is (Some y.0, y.1) x e) (f y refl)
absent_ok {X = X} Spells input place (Err (WrongTag wrong)) x f e = elim (chosen (eqb wrong place) (absent {X = X} place) (bad {X = X} place) (Ok x) e) [
  | inl h ↦ subst (λ (z : Option X × ℕ). StandsOrNot Spells input place z.0 z.1) (ok_is (None, place) x h.1) refl
  | inr h ↦ absurd (let no = h.1 in cc)
]
absent_ok Spells input place (Err (Truncated end)) x f e = absurd cc
absent_ok Spells input place (Err (BadLength wrong)) x f e = absurd cc
absent_ok Spells input place (Err NoMemory) x f e = absurd cc

pub optional_ok : {X : Type 0} (Spells : List ℕ → X → Type 0) (read : List ℕ → ℕ → Result (X × ℕ) TagFault) → Reader Spells read → (input : List ℕ) (place : ℕ) (x : Option X × ℕ) → IsBytes input → place ≤ length input
    → optional input place (read input place) ≡ Ok x → StandsOrNot Spells input place x.0 x.1
optional_ok {X = X} Spells read r input place x bytes le e =
    elim (cases_lt place (length input)) [
      | inl lt ↦ absent_ok Spells input place (read input place) x (λ y h. r.found input place y bytes le h) (sym (optional_inside input place (read input place) lt) ∙ e)
      | inr past ↦ subst (λ (z : Option X × ℕ). StandsOrNot Spells input place z.0 z.1) (ok_is (None, place) x (sym (optional_outside input place (read input place) past) ∙ e)) refl
    ]

pub optional_again : {X : Type 0} (Spells : List ℕ → X → Type 0) (read : List ℕ → ℕ → Result (X × ℕ) TagFault) → Reader Spells read → (input : List ℕ) (place : ℕ) (octets : List ℕ) (x : X) (end : ℕ) → place ≤ length input
    → Spells octets x → Stands input place octets end → optional input place (read input place) ≡ Ok (Some x, end)
optional_again Spells read r input place octets x end le s p =
    optional_inside input place (read input place) (stands_inside input place octets end p (r.some octets x s)) ∙ ap (or_absent place) (r.again input place octets x end le s p)

-- where the octets end, or another tag stands
pub optional_none : {X : Type 0} (input : List ℕ) (place : ℕ) (read : Result (X × ℕ) TagFault) → (place < length input → read ≡ Err (WrongTag place)) → optional input place read ≡ Ok (None, place)
optional_none input place read other =
    elim (cases_lt place (length input)) [
      | inl lt ↦ optional_inside input place read lt ∙ ap (or_absent place) (other lt) ∙ absent_other place
      | inr past ↦ optional_outside input place read past
    ]
