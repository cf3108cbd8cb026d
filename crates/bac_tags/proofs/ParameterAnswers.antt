-- Steps of reading: what each answers, when it refuses, and both for one step after another.
use Rattle.std.proofs.Common.{◌≡◌, ℕ, ◌<◌, ◌≤◌, List, length, Result, Ok, Err, refl, sym, ap, subst, ◌∙◌, arith, inl, inr}
use Rattle.std.specs.Prelude.{◌⊎◌, ◌↔◌, IfOk}
use Rattle.std.proofs.lemmas.Bool.{cases_lt, lt-ltb, le-ltb}
use Rattle.bac_tags.specs.declared.malformed.Malformed.{Malformed}
use Rattle.bac_tags.specs.Refusals.{too_many_arguments, Behind, RefusesMore}
use Rattle.bac_tags.specs.ParameterReadingSteps.{nothing_follows, whole}
use Rattle.bac_tags.specs.ReadingSteps.{◌>>=◌}
use Rattle.bac_tags.proofs.Steps.{bind_ok, bind_err, ok_is}

-- what a step answers, and when
pub record Answers {X : Type 0} (Is : X → ℕ → Type 0) (Refuses : Malformed → Type 0) (read : Result (X × ℕ) Malformed) : Type 0 where
  pub found : (x : X × ℕ) → read ≡ Ok x → Is x.0 x.1
  pub only : (x : X) (end : ℕ) → Is x end → read ≡ Ok (x, end)
  pub refused : (fault : Malformed) → read ≡ Err fault → Refuses fault
  pub refuses : (fault : Malformed) → Refuses fault → read ≡ Err fault

-- a thing is there, and another behind it
pub record Both {X Y : Type 0} (Is : X → ℕ → Type 0) (IsNext : X → ℕ → Y → ℕ → Type 0) (y : Y) (end : ℕ) : Type 0 where
  pub first : X
  pub place : ℕ
  pub is_first : Is first place
  pub is_next : IsNext first place y end

pub then : {X Y : Type 0} (Is : X → ℕ → Type 0) (Refuses : Malformed → Type 0) (read : Result (X × ℕ) Malformed) (IsNext : X → ℕ → Y → ℕ → Type 0) (RefusesNext : X → ℕ → Malformed → Type 0) (next : X × ℕ → Result (Y × ℕ) Malformed)
    → Answers Is Refuses read → ((x : X) (place : ℕ) → Is x place → Answers (IsNext x place) (RefusesNext x place) (next (x, place)))
    → Answers (Both Is IsNext) (λ fault. Refuses fault ⊎ Behind Is (λ x place. RefusesNext x place fault)) (read >>= next)
then {X = X} {Y = Y} Is Refuses read IsNext RefusesNext next a b =
    record {
      found = λ y e.
          let s = bind_ok read next y e in
          let first = a.found s.0 s.1 in
          record { first = s.0.0; place = s.0.1; is_first = first; is_next = (b s.0.0 s.0.1 first).found y s.2 };
      only = λ y end h. passes h.first h.place (Ok (y, end)) h.is_first ((b h.first h.place h.is_first).only y end h.is_next);
      refused = λ fault e.
          elim (bind_err read next fault e) [
            | inl here ↦ inl (a.refused fault here)
            | inr later ↦
                let first = a.found later.0 later.1 in
                inr (record { value = later.0.0; end = later.0.1; there = first; holds = (b later.0.0 later.0.1 first).refused fault later.2 })
          ];
      refuses = λ fault h. fails fault h;
    }
  where
    passes : (x : X) (place : ℕ) (answer : Result (Y × ℕ) Malformed) → Is x place → next (x, place) ≡ answer → (read >>= next) ≡ answer
    passes x place answer h e = ap (λ (r : Result (X × ℕ) Malformed). r >>= next) (a.only x place h) ∙ e

    fails : (fault : Malformed) → Refuses fault ⊎ Behind Is (λ x place. RefusesNext x place fault) → (read >>= next) ≡ Err fault
    fails fault (inl h) = ap (λ (r : Result (X × ℕ) Malformed). r >>= next) (a.refuses fault h)
    fails fault (inr h) = passes h.value h.end (Err fault) h.there ((b h.value h.end h.there).refuses fault h.holds)

-- another value in place of the one that was read
pub record Made {X Y : Type 0} (Is : X → ℕ → Type 0) (make : X → Y) (y : Y) (end : ℕ) : Type 0 where
  pub value : X
  pub is : Is value end
  pub made : make value ≡ y

abbrev pub at_end : {X Y : Type 0} → (X → Y) → X × ℕ → Result (Y × ℕ) Malformed
at_end make x = Ok (make x.0, x.1)

pub mapped : {X Y : Type 0} (Is : X → ℕ → Type 0) (Refuses : Malformed → Type 0) (read : Result (X × ℕ) Malformed) (make : X → Y) → Answers Is Refuses read → Answers (Made Is make) Refuses (read >>= at_end make)
mapped {X = X} {Y = Y} Is Refuses read make a =
    record {
      found = λ y e.
          let s = bind_ok read (at_end make) y e in
          let same = ok_is (make s.0.0, s.0.1) y s.2 in
          record { value = s.0.0; is = subst (λ (n : ℕ). Is s.0.0 n) (ap (λ (z : Y × ℕ). z.1) same) (a.found s.0 s.1); made = ap (λ (z : Y × ℕ). z.0) same };
      only = λ y end h. ap (λ (r : Result (X × ℕ) Malformed). r >>= at_end make) (a.only h.value end h.is) ∙ ap (λ (z : Y). Ok (z, end)) h.made;
      refused = λ fault e. elim (bind_err read (at_end make) fault e) [ inl here ↦ a.refused fault here | inr later ↦ absurd (let bad = later.2 in cc) ];
      refuses = λ fault h. ap (λ (r : Result (X × ℕ) Malformed). r >>= at_end make) (a.refuses fault h);
    }

-- the same said in other words
pub said : {X : Type 0} (Is Is' : X → ℕ → Type 0) (Refuses Refuses' : Malformed → Type 0) (read : Result (X × ℕ) Malformed) → Answers Is Refuses read
    → ((x : X) (end : ℕ) → Is x end → Is' x end) → ((x : X) (end : ℕ) → Is' x end → Is x end)
    → ((fault : Malformed) → Refuses fault → Refuses' fault) → ((fault : Malformed) → Refuses' fault → Refuses fault)
    → Answers Is' Refuses' read
said Is Is' Refuses Refuses' read a to from refused refuses =
    record {
      found = λ x e. to x.0 x.1 (a.found x e);
      only = λ x end h. a.only x end (from x end h);
      refused = λ fault e. refused fault (a.refused fault e);
      refuses = λ fault h. a.refuses fault (refuses fault h);
    }

-- ---- the whole

-- what the reading of all octets answers, and when
pub record Whole {X : Type 0} (Is : X → Type 0) (Refuses : Malformed → Type 0) (read : Result X Malformed) : Type 0 where
  pub found : (x : X) → read ≡ Ok x → Is x
  pub only : (x : X) → Is x → read ≡ Ok x
  pub refused : (fault : Malformed) → read ≡ Err fault → Refuses fault
  pub refuses : (fault : Malformed) → Refuses fault → read ≡ Err fault

abbrev after_end : {X : Type 0} → List ℕ → X × ℕ → Result X Malformed
after_end input x = nothing_follows input x.1 >>= λ _. Ok x.0

pub ended : {X : Type 0} (input : List ℕ) (Is : X → ℕ → Type 0) (Refuses : Malformed → Type 0) (read : Result (X × ℕ) Malformed) → Answers Is Refuses read → ((x : X) (end : ℕ) → Is x end → end ≤ length input)
    → Whole (λ x. Is x (length input)) (λ fault. Refuses fault ⊎ Behind Is (λ x place. RefusesMore input place fault)) (whole input read)
ended {X = X} input Is Refuses read a within =
    record {
      found = λ x e.
          let s = bind_ok read (after_end input) x e in
          elim (cases_lt s.0.1 (length input)) [
            | inl more ↦ absurd (let bad = sym s.2 ∙ too_many s.0 more in cc)
            | inr none ↦
                let first = a.found s.0 s.1 in
                let long = within s.0.0 s.0.1 first in
                let here : s.0.1 ≡ length input = omega arith in
                let same : s.0.0 ≡ x = ok_is s.0.0 x (sym (all s.0 none) ∙ s.2) in
                subst (λ (n : ℕ). Is x n) here (subst (λ (y : X). Is y s.0.1) same first)
          ];
      only = λ x h. ap (λ (r : Result (X × ℕ) Malformed). r >>= after_end input) (a.only x (length input) h) ∙ all (x, length input) (omega arith);
      refused = λ fault e.
          elim (bind_err read (after_end input) fault e) [
            | inl here ↦ inl (a.refused fault here)
            | inr later ↦
                elim (cases_lt later.0.1 (length input)) [
                  | inl more ↦
                      let same : fault ≡ too_many_arguments later.0.1 = let both = sym later.2 ∙ too_many later.0 more in cc in
                      inr (record { value = later.0.0; end = later.0.1; there = a.found later.0 later.1; holds = (same, more) })
                  | inr none ↦ absurd (let bad = sym later.2 ∙ all later.0 none in cc)
                ]
          ];
      refuses = λ fault h. fails fault h;
    }
  where
    too_many : (x : X × ℕ) → x.1 < length input → after_end input x ≡ Err (too_many_arguments x.1)
    too_many x lt = rw (lt-ltb x.1 (length input) lt) refl

    all : (x : X × ℕ) → length input ≤ x.1 → after_end input x ≡ Ok x.0
    all x le = rw (le-ltb x.1 (length input) le) refl

    fails : (fault : Malformed) → Refuses fault ⊎ Behind Is (λ x place. RefusesMore input place fault) → whole input read ≡ Err fault
    fails fault (inl h) = ap (λ (r : Result (X × ℕ) Malformed). r >>= after_end input) (a.refuses fault h)
    fails fault (inr h) =
        ap (λ (r : Result (X × ℕ) Malformed). r >>= after_end input) (a.only h.value h.end h.there) ∙ too_many (h.value, h.end) h.holds.1 ∙ ap (λ (f : Malformed). Err f) (sym h.holds.0)

pub whole_said : {X : Type 0} (Is Is' : X → Type 0) (Refuses : Malformed → Type 0) (read : Result X Malformed) → Whole Is Refuses read → ((x : X) → Is x → Is' x) → ((x : X) → Is' x → Is x) → Whole Is' Refuses read
whole_said Is Is' Refuses read a to from =
    record { found = λ x e. to x (a.found x e); only = λ x h. a.only x (from x h); refused = a.refused; refuses = a.refuses }

-- ---- what a call answers

-- what the clauses of a reader say
pub record ReadsWhole {X : Type 0} (Is : X → Type 0) (Refuses : Malformed → Type 0) (answer : Result X Malformed) : Type 0 where
  pub found : IfOk answer Is
  pub only : (x : X) → Is x → answer ≡ Ok x
  pub refused : (fault : Malformed) → (answer ≡ Err fault) ↔ Refuses fault

pub reads_whole : {X : Type 0} (Is : X → Type 0) (Refuses : Malformed → Type 0) (answer read : Result X Malformed) → answer ≡ read → Whole Is Refuses read → ReadsWhole Is Refuses answer
reads_whole {X = X} Is Refuses answer read e w =
    record {
      found = found answer e;
      only = λ x h. e ∙ w.only x h;
      refused = λ fault. (λ h. w.refused fault (sym e ∙ h), λ h. e ∙ w.refuses fault h);
    }
  where
    found : (r : Result X Malformed) → r ≡ read → IfOk r Is
    found (Ok x) same = w.found x (sym same)
    found (Err d) same = tt
