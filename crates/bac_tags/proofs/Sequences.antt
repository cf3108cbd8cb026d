-- Required parameters by the readers of their elements, and where each is refused.
use Rattle.std.proofs.Common.{◌≡◌, ℕ, ◌<◌, ◌≤◌, List, length, drop, Result, Ok, Err, refl, sym, ap, ◌∙◌, arith, inl, inr, eqb, Option, None}
use Rattle.std.specs.Prelude.{◌⊎◌}
use Rattle.std.proofs.lemmas.Bool.{lt-ltb, le-ltb, cases_lt}
use Rattle.std.proofs.lemmas.List.{length-append, length-drop}
use Rattle.bac_tags.specs.declared.fault.TagFault.{TagFault}
use Rattle.bac_tags.specs.declared.fault.TagFault.TheVariants.{Truncated, WrongTag, BadLength, NoMemory}
use Rattle.bac_tags.proofs.Steps.{chosen, ok_is, err_is}
use Rattle.bac_tags.proofs.Standing.{IsBytes, Stands}
use Rattle.bac_tags.proofs.Answered.{Spelled}
use Rattle.bac_tags.specs.declared.malformed.Malformed.{Malformed}
use Rattle.bac_tags.specs.Refusals.{invalid_tag, missing_parameter, too_many_arguments}
use Rattle.bac_tags.specs.ParameterReadingSteps.{or_invalid, required, or_absent, optional, nothing_follows}
use Rattle.bac_tags.proofs.RequiredReaders.{required_inside, required_outside, optional_inside, optional_outside}
use Rattle.bac_tags.proofs.ElementReaders.{Reader}

-- what stands somewhere and has some octets begins before the end
pub stands_inside : (input : List ℕ) (place : ℕ) (octets : List ℕ) (end : ℕ) → Stands input place octets end → 1 ≤ length octets → place < length input
stands_inside input place octets end p some = omega (arith, ap length p.parts, length-append octets (drop end input), length-drop place input)

invalid_ok : {X : Type 0} (place : ℕ) (read : Result X TagFault) (x : X) → or_invalid place read ≡ Ok x → read ≡ Ok x
invalid_ok place (Ok y) x e = ap Ok (ok_is y x e)
invalid_ok place (Err d) x e = absurd cc

pub invalid_err : {X : Type 0} (place : ℕ) (read : Result X TagFault) (e : Malformed) → or_invalid place read ≡ Err e → e ≡ invalid_tag place
invalid_err place (Ok y) e h = absurd cc
invalid_err {X = X} place (Err d) e h = sym (err_is {A = X} (invalid_tag place) e h)

-- why a required parameter is refused
pub required_err : {X : Type 0} (input : List ℕ) (place : ℕ) (read : Result X TagFault) (e : Malformed) → place ≤ length input → required input place read ≡ Err e
    → ((place ≡ length input) × (e ≡ missing_parameter (length input))) ⊎ ((place < length input) × (e ≡ invalid_tag place))
required_err {X = X} input place read e le h =
    elim (cases_lt place (length input)) [
      | inl lt ↦ inr (lt, invalid_err place read e (sym (required_inside input place read lt) ∙ h))
      | inr past ↦ inl (omega arith, sym (err_is {A = X} (missing_parameter (length input)) e (sym (required_outside input place read past) ∙ h)))
    ]

pub required_ok : {X : Type 0} (Spells : List ℕ → X → Type 0) (read : List ℕ → ℕ → Result (X × ℕ) TagFault) → Reader Spells read → (input : List ℕ) (place : ℕ) (x : X × ℕ) → IsBytes input → place ≤ length input
    → required input place (read input place) ≡ Ok x → Spelled Spells input place x.0 x.1
required_ok Spells read r input place x bytes le e =
    elim (cases_lt place (length input)) [
      | inl lt ↦ r.found input place x bytes le (invalid_ok place (read input place) x (sym (required_inside input place (read input place) lt) ∙ e))
      | inr past ↦ absurd (let bad = sym (required_outside input place (read input place) past) ∙ e in cc)
    ]

pub required_again : {X : Type 0} (Spells : List ℕ → X → Type 0) (read : List ℕ → ℕ → Result (X × ℕ) TagFault) → Reader Spells read → (input : List ℕ) (place : ℕ) (octets : List ℕ) (x : X) (end : ℕ) → place ≤ length input
    → Spells octets x → Stands input place octets end → required input place (read input place) ≡ Ok (x, end)
required_again Spells read r input place octets x end le s p =
    required_inside input place (read input place) (stands_inside input place octets end p (r.some octets x s)) ∙ ap (or_invalid place) (r.again input place octets x end le s p)

abbrev absent : {X : Type 0} → ℕ → Result (Option X × ℕ) Malformed
absent place = Ok (None, place)

abbrev bad : {X : Type 0} → ℕ → Result (Option X × ℕ) Malformed
bad place = Err (invalid_tag place)

-- why an optional parameter is refused
absent_err : {X : Type 0} (place : ℕ) (read : Result (X × ℕ) TagFault) (e : Malformed) → or_absent place read ≡ Err e → e ≡ invalid_tag place
absent_err place (Ok x) e h = absurd cc
absent_err {X = X} place (Err (WrongTag wrong)) e h =
    elim (chosen (eqb wrong place) (absent {X = X} place) (bad {X = X} place) (Err e) h) [
      | inl a ↦ absurd (let no = a.1 in cc)
      | inr a ↦ sym (err_is {A = Option X × ℕ} (invalid_tag place) e a.1)
    ]
absent_err {X = X} place (Err (Truncated end)) e h = sym (err_is {A = Option X × ℕ} (invalid_tag place) e h)
absent_err {X = X} place (Err (BadLength wrong)) e h = sym (err_is {A = Option X × ℕ} (invalid_tag place) e h)
absent_err {X = X} place (Err NoMemory) e h = sym (err_is {A = Option X × ℕ} (invalid_tag place) e h)

pub optional_err : {X : Type 0} (input : List ℕ) (place : ℕ) (read : Result (X × ℕ) TagFault) (e : Malformed) → optional input place read ≡ Err e → (place < length input) × (e ≡ invalid_tag place)
optional_err input place read e h =
    elim (cases_lt place (length input)) [
      | inl lt ↦ (lt, absent_err place read e (sym (optional_inside input place read lt) ∙ h))
      | inr past ↦ absurd (let bad = sym (optional_outside input place read past) ∙ h in cc)
    ]

-- ---- the last parameter

pub nothing_more : (input : List ℕ) (place : ℕ) → place < length input → nothing_follows input place ≡ Err (too_many_arguments place)
nothing_more input place lt = rw (lt-ltb place (length input) lt) refl

pub nothing_none : (input : List ℕ) (place : ℕ) → length input ≤ place → nothing_follows input place ≡ Ok tt
nothing_none input place le = rw (le-ltb place (length input) le) refl

pub nothing_err : (input : List ℕ) (place : ℕ) (e : Malformed) → nothing_follows input place ≡ Err e → (place < length input) × (e ≡ too_many_arguments place)
nothing_err input place e h =
    elim (cases_lt place (length input)) [
      | inl lt ↦ (lt, sym (err_is {A = Unit {0}} (too_many_arguments place) e (sym (nothing_more input place lt) ∙ h)))
      | inr past ↦ absurd (let bad = sym (nothing_none input place past) ∙ h in cc)
    ]

pub nothing_ok : (input : List ℕ) (place : ℕ) (x : Unit {0}) → nothing_follows input place ≡ Ok x → length input ≤ place
nothing_ok input place x h =
    elim (cases_lt place (length input)) [
      | inl lt ↦ absurd (let bad = sym (nothing_more input place lt) ∙ h in cc)
      | inr past ↦ past
    ]
