-- What is known of a required and of an optional parameter, from what is known of the reader of its element.
use Rattle.std.proofs.Common.{◌≡◌, ◌≢◌, ℕ, ◌<◌, ◌≤◌, Option, Some, None, List, length, drop, Result, Ok, Err, refl, sym, ap, subst, ◌∙◌, arith, inl, inr}
use Rattle.std.specs.Prelude.{◌↔◌, IfOk}
use Rattle.std.proofs.lemmas.Bool.{lt-ltb, le-ltb, cases_lt, cases_eq, eq-eqb, ne_eqb}
use Rattle.bac_tags.specs.declared.fault.TagFault.{TagFault}
use Rattle.bac_tags.specs.declared.fault.TagFault.TheVariants.{Truncated, WrongTag, BadLength, NoMemory}
use Rattle.bac_tags.specs.Places.{IsSpelledAt}
use Rattle.bac_tags.specs.Elements.{HasOtherTag}
use Rattle.bac_tags.specs.declared.malformed.Malformed.{Malformed}
use Rattle.bac_tags.specs.Refusals.{invalid_tag, missing_parameter}
use Rattle.bac_tags.specs.Parameters.{IsThere, IsAbsent, IsOptionalAt}
use Rattle.bac_tags.specs.ParameterReadingSteps.{or_invalid, required, or_absent, optional}

pub record ReadsRequired {X : Type 0} (Spells : List ℕ → X → Type 0) (input : List ℕ) (place : ℕ) (answer : Result (X × ℕ) Malformed) : Type 0 where
  pub found : IfOk answer (λ x. IsSpelledAt Spells input place x.0 x.1)
  pub only : (value : X) (end : ℕ) → IsSpelledAt Spells input place value end → answer ≡ Ok (value, end)
  pub missing : (answer ≡ Err (missing_parameter (length input))) ↔ (place ≡ length input)
  pub invalid : (answer ≡ Err (invalid_tag place)) ↔ ((place < length input) × ¬ IsThere Spells input place)

-- two refusals with other reasons
pub other_reason : (a b : ℕ) → missing_parameter a ≢ invalid_tag b
other_reason a b e = four_is_five (missing_parameter a).reject (invalid_tag b).reject refl refl (ap (λ (m : Malformed). m.reject) e)
  where
    four_is_five : (five four : ℕ) → five ≡ 5 → four ≡ 4 → five ≢ four
    four_is_five five four a b e = omega arith

abbrev failed : {X : Type 0} → Malformed → Result X Malformed
failed m = Err m

err_is : {X : Type 0} (a b : Malformed) → failed {X = X} a ≡ failed b → a ≡ b
err_is a b h = cc

pub required_inside : {X : Type 0} (input : List ℕ) (place : ℕ) (read : Result X TagFault) → place < length input → required input place read ≡ or_invalid place read
required_inside input place read lt = rw (lt-ltb place (length input) lt) refl

pub required_outside : {X : Type 0} (input : List ℕ) (place : ℕ) (read : Result X TagFault) → length input ≤ place → required input place read ≡ Err (missing_parameter (length input))
required_outside input place read le = rw (le-ltb place (length input) le) refl

if_read : {X : Type 0} (place : ℕ) (P : X → Type 0) (read : Result X TagFault) → IfOk read P → IfOk (or_invalid place read) P
if_read place P (Ok x) h = h
if_read place P (Err e) h = tt

not_read : {X : Type 0} (place : ℕ) (read : Result X TagFault) → ((x : X) → read ≡ Ok x → ⊥) → or_invalid place read ≡ Err (invalid_tag place)
not_read place (Ok x) never = absurd (never x refl)
not_read place (Err e) never = refl

if_ok : {X E : Type 0} (r : Result X E) (P : X → Type 0) (x : X) → r ≡ Ok x → IfOk r P → P x
if_ok r P x e h = subst (λ r. IfOk r P) e h

never_ok : {X : Type 0} (place : ℕ) (read : Result X TagFault) (m : Malformed) (x : X) → read ≡ Ok x → or_invalid place read ≡ Err m → ⊥
never_ok place (Ok y) m x e h = cc
never_ok place (Err d) m x e h = cc

pub reads_required : {X : Type 0} (Spells : List ℕ → X → Type 0) (input : List ℕ) (place : ℕ) (read : Result (X × ℕ) TagFault) (answer : Result (X × ℕ) Malformed)
    → place ≤ length input → IfOk read (λ x. IsSpelledAt Spells input place x.0 x.1) → ((value : X) (end : ℕ) → IsSpelledAt Spells input place value end → read ≡ Ok (value, end)) → IfOk read (λ x. (place < x.1) × (x.1 ≤ length input))
    → answer ≡ required input place read → ReadsRequired Spells input place answer
reads_required {X = X} Spells input place read answer le found only within e =
    record {
      found = elim (cases_lt place (length input)) [
        | inl lt ↦ subst (λ (r : Result (X × ℕ) Malformed). IfOk r (λ x. IsSpelledAt Spells input place x.0 x.1)) (sym (inside lt)) (if_read place (λ x. IsSpelledAt Spells input place x.0 x.1) read found)
        | inr past ↦ subst (λ (r : Result (X × ℕ) Malformed). IfOk r (λ x. IsSpelledAt Spells input place x.0 x.1)) (sym (outside past)) tt
      ];
      only = λ value end s. inside (before value end s) ∙ ap (or_invalid place) (only value end s);
      missing = (
        λ h. elim (cases_lt place (length input)) [
          | inl lt ↦ absurd (not_missing read (sym (inside lt) ∙ h))
          | inr past ↦ omega arith
        ],
        λ h. outside (omega (arith, h)),
      );
      invalid = (
        λ h. elim (cases_lt place (length input)) [
          | inl lt ↦ (lt, λ there. never_ok place read (invalid_tag place) (there.value, there.end) (only there.value there.end there.spelled) (sym (inside lt) ∙ h))
          | inr past ↦ absurd (other_reason (length input) place (err_is {X = X × ℕ} (missing_parameter (length input)) (invalid_tag place) (sym (outside past) ∙ h)))
        ],
        λ h. inside h.0 ∙ not_read place read (λ x got. h.1 (record { value = x.0; end = x.1; spelled = if_ok read (λ x. IsSpelledAt Spells input place x.0 x.1) x got found })),
      );
    }
  where
    inside : place < length input → answer ≡ or_invalid place read
    inside lt = e ∙ required_inside input place read lt

    outside : length input ≤ place → answer ≡ Err (missing_parameter (length input))
    outside past = e ∙ required_outside input place read past

    before : (value : X) (end : ℕ) → IsSpelledAt Spells input place value end → place < length input
    before value end s = let w = if_ok read (λ x. (place < x.1) × (x.1 ≤ length input)) (value, end) (only value end s) within in omega (arith, w.0, w.1)

    not_missing : (read : Result (X × ℕ) TagFault) → or_invalid place read ≡ Err (missing_parameter (length input)) → ⊥
    not_missing (Ok x) h = cc
    not_missing (Err d) h = other_reason (length input) place (sym (err_is {X = X × ℕ} (invalid_tag place) (missing_parameter (length input)) h))

-- ---- a parameter that may be absent

pub record ReadsOptional {X : Type 0} (Spells : List ℕ → X → Type 0) (number : ℕ) (input : List ℕ) (place : ℕ) (answer : Result (Option X × ℕ) Malformed) : Type 0 where
  pub found : IfOk answer (λ x. IsOptionalAt Spells number input place x.0 x.1)
  pub only : (value : Option X) (end : ℕ) → IsOptionalAt Spells number input place value end → answer ≡ Ok (value, end)
  pub invalid : (answer ≡ Err (invalid_tag place)) ↔ (¬ IsAbsent number input place × ¬ IsThere Spells input place)

-- in a context the number says all
other_type : (a b number : ℕ) (octets : List ℕ) → HasOtherTag a (Some number) octets → HasOtherTag b (Some number) octets
other_type a b number octets h = record { header = h.header; rest = h.rest; tag = h.tag; parts = h.parts; tagged = h.tagged; other = h.other }

pub optional_inside : {X : Type 0} (input : List ℕ) (place : ℕ) (read : Result (X × ℕ) TagFault) → place < length input → optional input place read ≡ or_absent place read
optional_inside input place read lt = rw (lt-ltb place (length input) lt) refl

pub optional_outside : {X : Type 0} (input : List ℕ) (place : ℕ) (read : Result (X × ℕ) TagFault) → length input ≤ place → optional input place read ≡ Ok (None, place)
optional_outside input place read le = rw (le-ltb place (length input) le) refl

pub absent_other : {X : Type 0} (place : ℕ) → or_absent {X = X} place (Err (WrongTag place)) ≡ Ok (None, place)
absent_other place = rw (eq-eqb place place refl) refl

abbrev Found : {X : Type 0} → (List ℕ → X → Type 0) → ℕ → List ℕ → ℕ → Result (Option X × ℕ) Malformed → Type 0
Found Spells number input place r = IfOk r (λ x. IsOptionalAt Spells number input place x.0 x.1)

pub reads_optional : {X : Type 0} (Spells : List ℕ → X → Type 0) (type number : ℕ) (input : List ℕ) (place : ℕ) (read : Result (X × ℕ) TagFault) (answer : Result (Option X × ℕ) Malformed)
    → place ≤ length input → IfOk read (λ x. IsSpelledAt Spells input place x.0 x.1) → ((value : X) (end : ℕ) → IsSpelledAt Spells input place value end → read ≡ Ok (value, end)) → IfOk read (λ x. (place < x.1) × (x.1 ≤ length input))
    → ((read ≡ Err (WrongTag place)) ↔ HasOtherTag type (Some number) (drop place input)) → answer ≡ optional input place read → ReadsOptional Spells number input place answer
reads_optional {X = X} Spells type number input place read answer le found only within other e =
    record {
      found = elim (cases_lt place (length input)) [
        | inl lt ↦ subst (Found Spells number input place) (sym (inside lt)) (found_in read found (λ h. other_type type 0 number (drop place input) (other.0 h)))
        | inr past ↦ subst (Found Spells number input place) (sym (outside past)) (refl, inl (omega arith))
      ];
      only = only_at;
      invalid = (
        λ h. elim (cases_lt place (length input)) [
          | inl lt ↦ (
            λ absent. elim absent [
              | inl end ↦ omega arith
              | inr tag ↦ let none = absent_at lt tag in cc
            ],
            λ there. let some = only_at (Some there.value) there.end there.spelled in cc,
          )
          | inr past ↦ absurd (let none = outside past in cc)
        ],
        λ h. elim (cases_lt place (length input)) [
          | inl lt ↦ inside lt ∙ not_in read (λ x got. h.1 (record { value = x.0; end = x.1; spelled = if_ok read (λ x. IsSpelledAt Spells input place x.0 x.1) x got found })) (λ got. h.0 (inr (other_type type 0 number (drop place input) (other.0 got))))
          | inr past ↦ absurd (h.0 (inl (omega arith)))
        ],
      );
    }
  where
    inside : place < length input → answer ≡ or_absent place read
    inside lt = e ∙ optional_inside input place read lt

    outside : length input ≤ place → answer ≡ Ok (None, place)
    outside past = e ∙ optional_outside input place read past

    before : (value : X) (end : ℕ) → IsSpelledAt Spells input place value end → place < length input
    before value end s = let w = if_ok read (λ x. (place < x.1) × (x.1 ≤ length input)) (value, end) (only value end s) within in omega (arith, w.0, w.1)

    absent_at : place < length input → HasOtherTag 0 (Some number) (drop place input) → answer ≡ Ok (None, place)
    absent_at lt tag = inside lt ∙ ap (or_absent place) (other.1 (other_type 0 type number (drop place input) tag)) ∙ absent_other place

    only_at : (value : Option X) (end : ℕ) → IsOptionalAt Spells number input place value end → answer ≡ Ok (value, end)
    only_at (Some value) end s = inside (before value end s) ∙ ap (or_absent place) (only value end s)
    only_at None end s = elim (cases_lt place (length input)) [
      | inl lt ↦ elim s.1 [ inl past ↦ absurd (omega arith) | inr tag ↦ rw s.0 (absent_at lt tag) ]
      | inr past ↦ rw s.0 (outside past)
    ]

    found_in : (r : Result (X × ℕ) TagFault) → IfOk r (λ x. IsSpelledAt Spells input place x.0 x.1) → (r ≡ Err (WrongTag place) → HasOtherTag 0 (Some number) (drop place input)) → Found Spells number input place (or_absent place r)
    found_in (Ok x) f o = f
    found_in (Err (WrongTag wrong)) f o = elim (cases_eq wrong place) [
      | inl same ↦ rw (eq-eqb wrong place same) (refl, inr (o (ap (λ (p : ℕ). Err (WrongTag p)) same)))
      | inr not ↦ rw (ne_eqb wrong place not) tt
    ]
    found_in (Err (Truncated end)) f o = tt
    found_in (Err (BadLength wrong)) f o = tt
    found_in (Err NoMemory) f o = tt

    not_in : (r : Result (X × ℕ) TagFault) → ((x : X × ℕ) → r ≡ Ok x → ⊥) → (r ≡ Err (WrongTag place) → ⊥) → or_absent place r ≡ Err (invalid_tag place)
    not_in (Ok x) never here = absurd (never x refl)
    not_in (Err (WrongTag wrong)) never here = rw (ne_eqb wrong place (λ same. here (ap (λ (p : ℕ). Err (WrongTag p)) same))) refl
    not_in (Err (Truncated end)) never here = refl
    not_in (Err (BadLength wrong)) never here = refl
    not_in (Err NoMemory) never here = refl
