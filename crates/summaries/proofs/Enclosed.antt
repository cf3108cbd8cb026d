-- A value between the tags of a number, which may be absent.
use Rattle.std.proofs.Common.{◌≡◌, ◌≢◌, ℕ, ◌<◌, ◌≤◌, Bool, true, false, true≢false, Option, Some, None, List, length, drop, Result, Ok, Err, refl, sym, ap, subst, ◌∙◌, arith, inl, inr}
use Rattle.std.proofs.lemmas.Bool.{cases_lt, cases_eq, eq-eqb, ne_eqb, lt-ltb, le-ltb}
use Rattle.bac_tags.specs.declared.fault.TagFault.{TagFault}
use Rattle.bac_tags.specs.declared.fault.TagFault.TheVariants.{Truncated, WrongTag, BadLength, NoMemory}
use Rattle.bac_tags.specs.declared.malformed.Malformed.{Malformed}
use Rattle.bac_tags.specs.EnclosingSteps.{closing_at, enclosed_at, opening_at}
use Rattle.bac_tags.specs.EnclosingTags.{IsOtherTag, SpellsEnclosed, opening}
use Rattle.bac_tags.specs.ReadingSteps.{◌>>=◌}
use Rattle.bac_tags.specs.Refusals.{invalid_tag}
use Rattle.bac_tags.proofs.ElementAnswers.{Element}
use Rattle.bac_tags.proofs.ParameterAnswers.{Answers}
use Rattle.bac_tags.proofs.Standing.{IsBytes}
use Rattle.bac_tags.proofs.Steps.{bind_err, bind_ok, ok_is}
use Rattle.bac_tags.proofs.TagReaders.{reads_opening}
use Rattle.summaries.specs.Refusals.{IsEnclosedAt, IsNoneOpened, RefusesEnclosed}
use Rattle.summaries.specs.RequestSteps.{enclosed_if_given, if_opened, opens_at, or_other}

-- what is read between tags, as what may be absent
abbrev given : {X : Type 0} → ℕ → Result (X × ℕ) TagFault → Result (Option X × ℕ) Malformed
given place (Ok x) = Ok (Some x.0, x.1)
given place (Err fault) = Err (invalid_tag place)

abbrev some_opens : Bool → ℕ → Result (Bool × ℕ) Malformed
some_opens opened place = Ok (opened, place)

-- a tag opens something, or none does
not_both : (start place : ℕ) → some_opens true start ≡ some_opens false place → ⊥
not_both start place e = true≢false (ap (λ (x : Bool × ℕ). x.0) (ok_is (true, start) (false, place) e))

module _ (input : List ℕ) (place number : ℕ) (bytes : IsBytes input) (le : place ≤ length input) where
  inside : place < length input → opens_at input place number ≡ or_other place (opening_at input place number)
  inside lt = rw (lt-ltb place (length input) lt) refl

  outside : length input ≤ place → opens_at input place number ≡ Ok (false, place)
  outside past = rw (le-ltb place (length input) past) refl

  other_opened : IsOtherTag (opening number) (drop place input) → opening_at input place number ≡ Err (WrongTag place)
  other_opened other = (reads_opening number input place (opening_at input place number) bytes refl).wrong_tag.1 other

  -- no tag opens anything
  none_opened : (end : ℕ) → opens_at input place number ≡ Ok (false, end) → (end ≡ place) × IsNoneOpened number input place
  none_opened end e =
      elim (cases_lt place (length input)) [
        | inl lt ↦ go (opening_at input place number) refl (sym (inside lt) ∙ e)
        | inr past ↦ (sym (ap (λ (x : Bool × ℕ). x.1) (ok_is (false, place) (false, end) (sym (outside past) ∙ e))), inl (omega arith))
      ]
    where
      go : (r : Result ℕ TagFault) → opening_at input place number ≡ r → or_other place r ≡ Ok (false, end) → (end ≡ place) × IsNoneOpened number input place
      go (Ok start) same e = absurd (true≢false (ap (λ (x : Bool × ℕ). x.0) (ok_is (true, start) (false, end) e)))
      go (Err (WrongTag other)) same e =
          elim (cases_eq other place) [
            | inl here ↦
                let is : or_other place (Err (WrongTag other)) ≡ Ok (false, place) = rw (eq-eqb other place here) refl in
                (sym (ap (λ (x : Bool × ℕ). x.1) (ok_is (false, place) (false, end) (sym is ∙ e))), inr ((reads_opening number input place (opening_at input place number) bytes refl).wrong_tag.0 (same ∙ ap (λ (n : ℕ). Err (WrongTag n)) here)))
            | inr not ↦
                let is : or_other place (Err (WrongTag other)) ≡ Err (invalid_tag place) = rw (ne_eqb other place not) refl in
                absurd (let bad = sym is ∙ e in cc)
          ]
      go (Err (Truncated last)) same e = absurd cc
      go (Err (BadLength wrong)) same e = absurd cc
      go (Err NoMemory) same e = absurd cc

  opens_none : IsNoneOpened number input place → opens_at input place number ≡ Ok (false, place)
  opens_none (inl end) = outside (omega (arith, end))
  opens_none (inr other) =
      elim (cases_lt place (length input)) [
        | inl lt ↦ inside lt ∙ (ap (or_other place) (other_opened other) ∙ same)
        | inr past ↦ outside past
      ]
    where
      same : or_other place (Err (WrongTag place)) ≡ Ok (false, place)
      same = rw (eq-eqb place place refl) refl

  -- a tag opens something
  some_opened : (start : ℕ) → opens_at input place number ≡ Ok (true, start) → opening_at input place number ≡ Ok start
  some_opened start e =
      elim (cases_lt place (length input)) [
        | inl lt ↦ go (opening_at input place number) refl (sym (inside lt) ∙ e)
        | inr past ↦ absurd (not_none place (sym (outside past) ∙ e))
      ]
    where
      not_none : (here : ℕ) → some_opens false here ≡ some_opens true start → ⊥
      not_none here e = not_both start here (sym e)

      go : (r : Result ℕ TagFault) → opening_at input place number ≡ r → or_other place r ≡ Ok (true, start) → opening_at input place number ≡ Ok start
      go (Ok found) same e = let one : found ≡ start = ap (λ (x : Bool × ℕ). x.1) (ok_is (true, found) (true, start) e) in same ∙ ap (λ (n : ℕ). Ok n) one
      go (Err (WrongTag other)) same e =
          elim (cases_eq other place) [
            | inl here ↦
                let is : or_other place (Err (WrongTag other)) ≡ Ok (false, place) = rw (eq-eqb other place here) refl in
                absurd (not_none place (sym is ∙ e))
            | inr not ↦
                let is : or_other place (Err (WrongTag other)) ≡ Err (invalid_tag place) = rw (ne_eqb other place not) refl in
                absurd (let bad = sym is ∙ e in cc)
          ]
      go (Err (Truncated last)) same e = absurd cc
      go (Err (BadLength wrong)) same e = absurd cc
      go (Err NoMemory) same e = absurd cc

  opens_some : (start : ℕ) → opening_at input place number ≡ Ok start → place < length input → opens_at input place number ≡ Ok (true, start)
  opens_some start e lt = inside lt ∙ ap (or_other place) e

  -- or neither
  not_opened : (fault : Malformed) → opens_at input place number ≡ Err fault → (fault ≡ invalid_tag place) × (((start : ℕ) → opening_at input place number ≢ Ok start))
  not_opened fault e =
      elim (cases_lt place (length input)) [
        | inl lt ↦ go (opening_at input place number) refl (sym (inside lt) ∙ e)
        | inr past ↦ absurd (let bad = sym (outside past) ∙ e in cc)
      ]
    where
      go : (r : Result ℕ TagFault) → opening_at input place number ≡ r → or_other place r ≡ Err fault → (fault ≡ invalid_tag place) × (((start : ℕ) → opening_at input place number ≢ Ok start))
      go (Ok found) same e = absurd cc
      go (Err (WrongTag other)) same e =
          elim (cases_eq other place) [
            | inl here ↦
                let is : or_other place (Err (WrongTag other)) ≡ Ok (false, place) = rw (eq-eqb other place here) refl in
                absurd (let bad = sym is ∙ e in cc)
            | inr not ↦
                let is : or_other place (Err (WrongTag other)) ≡ Err (invalid_tag place) = rw (ne_eqb other place not) refl in
                (let both = sym is ∙ e in cc, λ start found. let bad = sym same ∙ found in cc)
          ]
      go (Err (Truncated last)) same e = (cc, λ start found. let bad = sym same ∙ found in cc)
      go (Err (BadLength wrong)) same e = (cc, λ start found. let bad = sym same ∙ found in cc)
      go (Err NoMemory) same e = (cc, λ start found. let bad = sym same ∙ found in cc)

  module _ {X : Type 0} (Spells : List ℕ → X → Type 0) (read : List ℕ → ℕ → Result (X × ℕ) TagFault) (element : Element (SpellsEnclosed number Spells) input place (enclosed_at read number input place)) where
    abbrev between : Result (X × ℕ) TagFault
    between = enclosed_at read number input place

    abbrev whole : Result (Option X × ℕ) Malformed
    whole = enclosed_if_given read number input place

    -- behind a tag that opens it, what is read is what stands between the tags
    behind : (start : ℕ) → opening_at input place number ≡ Ok start → if_opened read number input place (true, start) ≡ given place between
    behind start e = go (read input start) refl
      where
        close : (x : X × ℕ) (r : Result ℕ TagFault) → closing_at input x.1 number ≡ r → read input start ≡ Ok x → if_opened read number input place (true, start) ≡ given place between
        close x (Ok end) closed same = rw (e, same, closed) refl
        close x (Err fault) closed same = rw (e, same, closed) refl

        go : (r : Result (X × ℕ) TagFault) → read input start ≡ r → if_opened read number input place (true, start) ≡ given place between
        go (Ok x) same = close x (closing_at input x.1 number) refl same
        go (Err fault) same = rw (e, same) refl

    opened_first : (x : X × ℕ) → between ≡ Ok x → (start : ℕ) × (opening_at input place number ≡ Ok start)
    opened_first x e = let a = bind_ok (opening_at input place number) (λ start. read input start >>= λ y. closing_at input y.1 number >>= λ end. Ok (y.0, end)) x e in (a.0, a.1)

    found_in : (x : Option X × ℕ) → whole ≡ Ok x → IsEnclosedAt Spells number input place x.0 x.1
    found_in x e =
        let s = bind_ok (opens_at input place number) (if_opened read number input place) x e in
        go s.0.0 s.0.1 s.1 s.2
      where
        given_found : (r : Result (X × ℕ) TagFault) → between ≡ r → given place r ≡ Ok x → IsEnclosedAt Spells number input place x.0 x.1
        given_found (Ok y) same e = subst (λ (z : Option X × ℕ). IsEnclosedAt Spells number input place z.0 z.1) (ok_is (Some y.0, y.1) x e) (element.found y same)
        given_found (Err fault) same e = absurd cc

        go : (opened : Bool) (start : ℕ) → opens_at input place number ≡ Ok (opened, start) → if_opened read number input place (opened, start) ≡ Ok x → IsEnclosedAt Spells number input place x.0 x.1
        go false start same e = subst (λ (z : Option X × ℕ). IsEnclosedAt Spells number input place z.0 z.1) (ok_is (None, start) x e) (none_opened start same)
        go true start same e = given_found between refl (sym (behind start (some_opened start same)) ∙ e)

    only_in : (x : Option X) (end : ℕ) → IsEnclosedAt Spells number input place x end → whole ≡ Ok (x, end)
    only_in None end h = ap (λ (r : Result (Bool × ℕ) Malformed). r >>= if_opened read number input place) (opens_none h.1) ∙ ap (λ (n : ℕ). Ok (None, n)) (sym h.0)
    only_in (Some x) end h =
        let same = element.only x end h in
        let first = opened_first (x, end) same in
        ap (λ (r : Result (Bool × ℕ) Malformed). r >>= if_opened read number input place) (opens_some first.0 first.1 (element.some x end h)) ∙ (behind first.0 first.1 ∙ ap (given place) same)

    refused_in : (fault : Malformed) → whole ≡ Err fault → RefusesEnclosed Spells number input place fault
    refused_in fault e =
        elim (bind_err (opens_at input place number) (if_opened read number input place) fault e) [
          | inl here ↦
              let h = not_opened fault here in
              (h.0, λ none. let bad = sym here ∙ opens_none none in cc, λ there. let first = opened_first (there.value, there.end) (element.only there.value there.end there.spelled) in h.1 first.0 first.1)
          | inr later ↦ go later.0.0 later.0.1 later.1 later.2
        ]
      where
        given_refused : (start : ℕ) (r : Result (X × ℕ) TagFault) → opens_at input place number ≡ Ok (true, start) → between ≡ r → given place r ≡ Err fault → RefusesEnclosed Spells number input place fault
        given_refused start (Ok y) opened same e = absurd cc
        given_refused start (Err why) opened same e =
            (cc, λ none. not_both start place (sym opened ∙ opens_none none), λ there. let bad = sym same ∙ element.only there.value there.end there.spelled in cc)

        go : (opened : Bool) (start : ℕ) → opens_at input place number ≡ Ok (opened, start) → if_opened read number input place (opened, start) ≡ Err fault → RefusesEnclosed Spells number input place fault
        go false start same e = absurd cc
        go true start same e = given_refused start between same refl (sym (behind start (some_opened start same)) ∙ e)

    refuses_in : (fault : Malformed) → RefusesEnclosed Spells number input place fault → whole ≡ Err fault
    refuses_in fault h = go (opens_at input place number) refl
      where
        given_fails : (r : Result (X × ℕ) TagFault) → between ≡ r → given place r ≡ Err fault
        given_fails (Ok y) same = absurd (h.2 (record { value = y.0; end = y.1; spelled = element.found y same }))
        given_fails (Err why) same = ap (λ (f : Malformed). Err f) (sym h.0)

        go : (r : Result (Bool × ℕ) Malformed) → opens_at input place number ≡ r → (r >>= if_opened read number input place) ≡ Err fault
        go (Ok (false, end)) same = absurd (h.1 (none_opened end same).1)
        go (Ok (true, start)) same = behind start (some_opened start same) ∙ given_fails between refl
        go (Err other) same = ap (λ (f : Malformed). Err f) ((not_opened other same).0 ∙ sym h.0)

    pub enclosed_answers : Answers (IsEnclosedAt Spells number input place) (RefusesEnclosed Spells number input place) whole
    enclosed_answers = record { found = found_in; only = only_in; refused = refused_in; refuses = refuses_in }
