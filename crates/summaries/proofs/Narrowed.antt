-- Numbers that are listed: required ones, and those that may be absent.
use Rattle.std.proofs.Common.{◌≡◌, ℕ, ◌<◌, ◌≤◌, Option, Some, None, List, length, Result, Ok, Err, refl, sym, ap, subst, ◌∙◌, arith, inl, inr}
use Rattle.std.proofs.lemmas.Bool.{cases_lt, le-leb, lt-leb}
use Rattle.bac_tags.specs.Places.{IsSpelledAt}
use Rattle.bac_tags.specs.Contents.{SpellsUnsigned}
use Rattle.bac_tags.specs.Parameters.{IsThere, IsAbsent, IsOptionalAt}
use Rattle.bac_tags.specs.ParameterReadingSteps.{required, optional}
use Rattle.bac_tags.specs.ReadingSteps.{◌>>=◌, unsigned_at}
use Rattle.bac_tags.specs.Refusals.{invalid_tag, RefusesRequired, RefusesOptional}
use Rattle.bac_tags.specs.declared.malformed.Malformed.{Malformed}
use Rattle.bac_tags.proofs.ElementAnswers.{unsigned_element, unsigned_optional, unsigned_required}
use Rattle.bac_tags.proofs.ParameterAnswers.{Answers}
use Rattle.bac_tags.proofs.Standing.{IsBytes}
use Rattle.bac_tags.proofs.Steps.{bind_err, bind_ok, ok_is}
use Rattle.summaries.specs.Requests.{SpellsListed}
use Rattle.summaries.specs.RequestSteps.{any_listed_at, if_any_listed, if_listed, listed_at}

module _ (input : List ℕ) (place number greatest : ℕ) (bytes : IsBytes input) (le : place ≤ length input) where
  abbrev Number : List ℕ → ℕ → Type 0
  Number = SpellsUnsigned (Some number)

  abbrev Listed : List ℕ → ℕ → Type 0
  Listed = SpellsListed number greatest

  narrow : (value end : ℕ) → IsSpelledAt Number input place value end → value ≤ greatest → IsSpelledAt Listed input place value end
  narrow value end s fits = record { octets = s.octets; rest = s.rest; spelled = (s.spelled, fits); there = s.there; ends = s.ends }

  widen : (value end : ℕ) → IsSpelledAt Listed input place value end → IsSpelledAt Number input place value end
  widen value end s = record { octets = s.octets; rest = s.rest; spelled = s.spelled.0; there = s.there; ends = s.ends }

  widen_there : IsThere Listed input place → IsThere Number input place
  widen_there there = record { value = there.value; end = there.end; spelled = widen there.value there.end there.spelled }

  -- ---- one that has to be there

  abbrev read : Result (ℕ × ℕ) Malformed
  read = required input place (unsigned_at input place (Some number))

  reads : Answers (IsSpelledAt Number input place) (RefusesRequired Number input place) read
  reads = unsigned_required input place number bytes le

  passes : (x : ℕ × ℕ) → x.0 ≤ greatest → if_listed place greatest x ≡ Ok x
  passes x fits = rw (le-leb x.0 greatest fits) refl

  fails : (x : ℕ × ℕ) → greatest < x.0 → if_listed place greatest x ≡ Err (invalid_tag place)
  fails x more = rw (lt-leb x.0 greatest more) refl

  no_other : (x : ℕ × ℕ) → read ≡ Ok x → greatest < x.0 → ¬ IsThere Listed input place
  no_other x same more there =
      let other = reads.only there.value there.end (widen there.value there.end there.spelled) in
      let one : (there.value, there.end) ≡ x = ok_is (there.value, there.end) x (sym other ∙ same) in
      omega (arith, more, there.spelled.spelled.1, ap (λ (y : ℕ × ℕ). y.0) one)

  narrow_refusal : (fault : Malformed) → RefusesRequired Number input place fault → RefusesRequired Listed input place fault
  narrow_refusal fault (inl missing) = inl missing
  narrow_refusal fault (inr invalid) = inr (invalid.0, invalid.1, λ there. invalid.2 (widen_there there))

  abbrev listed : Result (ℕ × ℕ) Malformed
  listed = read >>= if_listed place greatest

  found_in : (x : ℕ × ℕ) → listed ≡ Ok x → IsSpelledAt Listed input place x.0 x.1
  found_in x e =
      let s = bind_ok read (if_listed place greatest) x e in
      elim (cases_lt greatest s.0.0) [
        | inl more ↦ absurd (let bad = sym (fails s.0 more) ∙ s.2 in cc)
        | inr fits ↦
            let one : s.0 ≡ x = ok_is s.0 x (sym (passes s.0 fits) ∙ s.2) in
            subst (λ (y : ℕ × ℕ). IsSpelledAt Listed input place y.0 y.1) one (narrow s.0.0 s.0.1 (reads.found s.0 s.1) fits)
      ]

  refused_in : (fault : Malformed) → listed ≡ Err fault → RefusesRequired Listed input place fault
  refused_in fault e =
      elim (bind_err read (if_listed place greatest) fault e) [
        | inl here ↦ narrow_refusal fault (reads.refused fault here)
        | inr later ↦
            elim (cases_lt greatest later.0.0) [
              | inl more ↦
                  let same : fault ≡ invalid_tag place = let both = sym later.2 ∙ fails later.0 more in cc in
                  inr (same, (unsigned_element input place (Some number) bytes le).some later.0.0 later.0.1 (reads.found later.0 later.1), no_other later.0 later.1 more)
              | inr fits ↦ absurd (let bad = sym later.2 ∙ passes later.0 fits in cc)
            ]
      ]

  refuses_in : (fault : Malformed) → RefusesRequired Listed input place fault → listed ≡ Err fault
  refuses_in fault (inl missing) = ap (λ (r : Result (ℕ × ℕ) Malformed). r >>= if_listed place greatest) (reads.refuses fault (inl missing))
  refuses_in fault (inr invalid) = go read refl
    where
      go : (r : Result (ℕ × ℕ) Malformed) → read ≡ r → (r >>= if_listed place greatest) ≡ Err fault
      go (Ok x) same =
          elim (cases_lt greatest x.0) [
            | inl more ↦ fails x more ∙ ap (λ (f : Malformed). Err f) (sym invalid.0)
            | inr fits ↦ absurd (invalid.2 (record { value = x.0; end = x.1; spelled = narrow x.0 x.1 (reads.found x same) fits }))
          ]
      go (Err other) same =
          elim (reads.refused other same) [
            | inl missing ↦ absurd (omega (arith, missing.1, invalid.1))
            | inr wrong ↦ ap (λ (f : Malformed). Err f) (wrong.0 ∙ sym invalid.0)
          ]

  pub listed_answers : Answers (IsSpelledAt Listed input place) (RefusesRequired Listed input place) (listed_at input place number greatest)
  unfolding listed_at
  listed_answers =
      record {
        found = found_in;
        only = λ x end h. ap (λ (r : Result (ℕ × ℕ) Malformed). r >>= if_listed place greatest) (reads.only x end (widen x end h)) ∙ passes (x, end) h.spelled.1;
        refused = refused_in;
        refuses = refuses_in;
      }

  -- ---- one that may be absent

  abbrev any : Result (Option ℕ × ℕ) Malformed
  any = optional input place (unsigned_at input place (Some number))

  reads_any : Answers (IsOptionalAt Number number input place) (RefusesOptional Number number input place) any
  reads_any = unsigned_optional input place number bytes le

  abbrev next : Option ℕ × ℕ → Result (Option ℕ × ℕ) Malformed
  next = if_any_listed place greatest

  any_passes : (value end : ℕ) → value ≤ greatest → next (Some value, end) ≡ Ok (Some value, end)
  any_passes value end fits = rw (le-leb value greatest fits) refl

  any_fails : (value end : ℕ) → greatest < value → next (Some value, end) ≡ Err (invalid_tag place)
  any_fails value end more = rw (lt-leb value greatest more) refl

  narrow_any : (x : Option ℕ) (end : ℕ) → IsOptionalAt Number number input place x end → next (x, end) ≡ Ok (x, end) → IsOptionalAt Listed number input place x end
  narrow_any None end h e = h
  narrow_any (Some value) end h e =
      elim (cases_lt greatest value) [
        | inl more ↦ absurd (let bad = sym (any_fails value end more) ∙ e in cc)
        | inr fits ↦ narrow value end h fits
      ]

  next_same : (x : Option ℕ) (end : ℕ) (y : Option ℕ × ℕ) → next (x, end) ≡ Ok y → (x, end) ≡ y
  next_same None end y e = ok_is (None, end) y e
  next_same (Some value) end y e =
      elim (cases_lt greatest value) [
        | inl more ↦ absurd (let bad = sym (any_fails value end more) ∙ e in cc)
        | inr fits ↦ ok_is (Some value, end) y (sym (any_passes value end fits) ∙ e)
      ]

  any_found_in : (x : Option ℕ × ℕ) → (any >>= next) ≡ Ok x → IsOptionalAt Listed number input place x.0 x.1
  any_found_in x e =
      let s = bind_ok any next x e in
      let one = next_same s.0.0 s.0.1 x s.2 in
      subst (λ (y : Option ℕ × ℕ). IsOptionalAt Listed number input place y.0 y.1) one (narrow_any s.0.0 s.0.1 (reads_any.found s.0 s.1) (s.2 ∙ ap (λ (y : Option ℕ × ℕ). Ok y) (sym one)))

  any_only_in : (x : Option ℕ) (end : ℕ) → IsOptionalAt Listed number input place x end → (any >>= next) ≡ Ok (x, end)
  any_only_in None end h = ap (λ (r : Result (Option ℕ × ℕ) Malformed). r >>= next) (reads_any.only None end h)
  any_only_in (Some value) end h =
      ap (λ (r : Result (Option ℕ × ℕ) Malformed). r >>= next) (reads_any.only (Some value) end (widen value end h)) ∙ any_passes value end h.spelled.1

  not_absent : (value end : ℕ) → any ≡ Ok (Some value, end) → ¬ IsAbsent number input place
  not_absent value end same absent = not_none (ap (λ (x : Option ℕ × ℕ). x.0) (ok_is (Some value, end) (None, place) (sym same ∙ reads_any.only None place (refl, absent))))
    where
      not_none : Some value ≡ None → ⊥
      not_none e = cc

  no_other_any : (value end : ℕ) → any ≡ Ok (Some value, end) → greatest < value → ¬ IsThere Listed input place
  no_other_any value end same more there =
      let other = reads_any.only (Some there.value) there.end (widen there.value there.end there.spelled) in
      let one : there.value ≡ value = let both : Some there.value ≡ Some value = ap (λ (x : Option ℕ × ℕ). x.0) (ok_is (Some there.value, there.end) (Some value, end) (sym other ∙ same)) in cc in
      omega (arith, more, there.spelled.spelled.1, one)

  any_refused_at : (x : Option ℕ) (end : ℕ) (fault : Malformed) → any ≡ Ok (x, end) → next (x, end) ≡ Err fault → RefusesOptional Listed number input place fault
  any_refused_at None end fault same e = absurd cc
  any_refused_at (Some value) end fault same e =
      elim (cases_lt greatest value) [
        | inl more ↦
            let is : fault ≡ invalid_tag place = let both = sym e ∙ any_fails value end more in cc in
            (is, not_absent value end same, no_other_any value end same more)
        | inr fits ↦ absurd (let bad = sym e ∙ any_passes value end fits in cc)
      ]

  any_refused_in : (fault : Malformed) → (any >>= next) ≡ Err fault → RefusesOptional Listed number input place fault
  any_refused_in fault e =
      elim (bind_err any next fault e) [
        | inl here ↦ let h = reads_any.refused fault here in (h.0, h.1, λ there. h.2 (widen_there there))
        | inr later ↦ any_refused_at later.0.0 later.0.1 fault later.1 later.2
      ]

  any_refuses_in : (fault : Malformed) → RefusesOptional Listed number input place fault → (any >>= next) ≡ Err fault
  any_refuses_in fault h = go any refl
    where
      go : (r : Result (Option ℕ × ℕ) Malformed) → any ≡ r → (r >>= next) ≡ Err fault
      go (Ok (None, end)) same = absurd (h.1 (reads_any.found (None, end) same).1)
      go (Ok (Some value, end)) same =
          elim (cases_lt greatest value) [
            | inl more ↦ any_fails value end more ∙ ap (λ (f : Malformed). Err f) (sym h.0)
            | inr fits ↦ absurd (h.2 (record { value = value; end = end; spelled = narrow value end (reads_any.found (Some value, end) same) fits }))
          ]
      go (Err other) same = ap (λ (f : Malformed). Err f) ((reads_any.refused other same).0 ∙ sym h.0)

  pub any_listed_answers : Answers (IsOptionalAt Listed number input place) (RefusesOptional Listed number input place) (any_listed_at input place number greatest)
  unfolding any_listed_at
  any_listed_answers = record { found = any_found_in; only = any_only_in; refused = any_refused_in; refuses = any_refuses_in }
