-- Things one after the other, up to where their list ends: what is read, and when it is refused.
use Rattle.std.proofs.Common.{◌≡◌, ℕ, zero, suc, ◌+◌, ◌<◌, ◌≤◌, Option, Some, None, List, [], ◌∷◌, length, Result, Ok, Err, refl, sym, ap, subst, ◌∙◌, arith, inl, inr}
use Rattle.bac_tags.specs.declared.malformed.Malformed.{Malformed}
use Rattle.bac_tags.specs.ReadingSteps.{◌>>=◌}
use Rattle.bac_tags.specs.Refusals.{invalid_tag}
use Rattle.bac_tags.proofs.ParameterAnswers.{Answers}
use Rattle.bac_tags.proofs.Steps.{bind_err, bind_ok, ok_is}
use Rattle.summaries.specs.ManyRefusals.{AreAt, AreListed, RefusesListed}
use Rattle.summaries.specs.ManySteps.{each_next, each_within}

pub one_within : {X : Type 0} (ends : ℕ → Option ℕ) (read : ℕ → Result (X × ℕ) Malformed) (more place : ℕ) → each_within ends read (suc more) place ≡ each_next read (λ next. each_within ends read more next) place (ends place)
unfolding each_within
one_within ends read more place = refl

none_within : {X : Type 0} (ends : ℕ → Option ℕ) (read : ℕ → Result (X × ℕ) Malformed) (place : ℕ) → each_within ends read 0 place ≡ Err (invalid_tag place)
unfolding each_within
none_within ends read place = refl

-- where the list ends there is no further thing, and where it doesn't end one is read
pub ended : {X : Type 0} (ends : ℕ → Option ℕ) (read : ℕ → Result (X × ℕ) Malformed) (more place end : ℕ) → ends place ≡ Some end → each_within ends read (suc more) place ≡ Ok ([], end)
ended ends read more place end e = one_within ends read more place ∙ ap (each_next read (λ next. each_within ends read more next) place) e

pub goes_on : {X : Type 0} (ends : ℕ → Option ℕ) (read : ℕ → Result (X × ℕ) Malformed) (more place : ℕ) → ends place ≡ None → each_within ends read (suc more) place ≡ each_next read (λ next. each_within ends read more next) place None
goes_on ends read more place e = one_within ends read more place ∙ ap (each_next read (λ next. each_within ends read more next) place) e

module _ {X : Type 0} (input : List ℕ) (ends : ℕ → Option ℕ) (read : ℕ → Result (X × ℕ) Malformed) (Is : ℕ → X → ℕ → Type 0) (Refuses : ℕ → Malformed → Type 0) (Ends : ℕ → ℕ → Type 0)
    (answers : (place : ℕ) → place ≤ length input → Answers (Is place) (Refuses place) (read place))
    (grows : (place : ℕ) (x : X) (end : ℕ) → place ≤ length input → Is place x end → (place < end) × (end ≤ length input))
    (is_end : (place end : ℕ) → ends place ≡ Some end → Ends place end)
    (end_is : (place end : ℕ) → Ends place end → ends place ≡ Some end)
    (differs : (place : ℕ) (x : X) (end : ℕ) → Is place x end → (other : ℕ) → ¬ Ends place other) where
  abbrev all : ℕ → ℕ → Result (List X × ℕ) Malformed
  all more place = each_within ends read more place

  abbrev behind : ℕ → X × ℕ → Result (List X × ℕ) Malformed
  behind more x = all more x.1 >>= λ rest. Ok (x.0 ∷ rest.0, rest.1)

  no_end : (place : ℕ) → ends place ≡ None → (end : ℕ) → ¬ Ends place end
  no_end place none end h = let bad = sym none ∙ end_is place end h in cc

  is_none : (place : ℕ) → ((end : ℕ) → ¬ Ends place end) → ends place ≡ None
  is_none place never = go (ends place) refl
    where
      go : (o : Option ℕ) → ends place ≡ o → ends place ≡ None
      go None e = e
      go (Some end) e = absurd (never end (is_end place end e))

  found : (more place : ℕ) → place ≤ length input → (x : List X × ℕ) → all more place ≡ Ok x → AreListed Is Ends place x.0 x.1
  found zero place le x e = absurd (let bad = sym (none_within ends read place) ∙ e in cc)
  found (suc more) place le x e = by_end (ends place) refl (λ next on y h. found more next on y h)
    where
      by_end : (o : Option ℕ) → ends place ≡ o → ((next : ℕ) → next ≤ length input → (y : List X × ℕ) → all more next ≡ Ok y → AreListed Is Ends next y.0 y.1) → AreListed Is Ends place x.0 x.1
      by_end (Some end) same later =
          subst (λ (y : List X × ℕ). AreListed Is Ends place y.0 y.1) (ok_is ([], end) x (sym (ended ends read more place end same) ∙ e)) (record { stop = place; are = refl; ends = is_end place end same })
      by_end None same later =
          let a = bind_ok (read place) (behind more) x (sym (goes_on ends read more place same) ∙ e) in
          let one = (answers place le).found a.0 a.1 in
          let b = bind_ok (all more a.0.1) (λ rest. Ok (a.0.0 ∷ rest.0, rest.1)) x a.2 in
          let on = later a.0.1 (grows place a.0.0 a.0.1 le one).1 b.0 b.1 in
          subst (λ (y : List X × ℕ). AreListed Is Ends place y.0 y.1) (ok_is (a.0.0 ∷ b.0.0, b.0.1) x b.2) (record { stop = on.stop; are = (a.0.1, one, on.are); ends = on.ends })

  only : (more place : ℕ) → place ≤ length input → length input < place + more → (xs : List X) (end : ℕ) → AreListed Is Ends place xs end → all more place ≡ Ok (xs, end)
  only zero place le enough xs end h = absurd (omega (arith, le, enough))
  only (suc more) place le enough [] end h =
      let here : h.stop ≡ place = h.are in
      ended ends read more place end (end_is place end (subst (λ (p : ℕ). Ends p end) here h.ends))
  only (suc more) place le enough (x ∷ xs) end h =
      let next = h.are.0 in
      let one = h.are.1 in
      let on = grows place x next le one in
      let first = (answers place le).only x next one in
      let later = only more next on.1 (omega (arith, enough, on.0)) xs end (record { stop = h.stop; are = h.are.2; ends = h.ends }) in
      goes_on ends read more place (is_none place (differs place x next one))
      ∙ (ap (λ (r : Result (X × ℕ) Malformed). r >>= behind more) first
      ∙ ap (λ (r : Result (List X × ℕ) Malformed). r >>= λ rest. Ok (x ∷ rest.0, rest.1)) later)

  refused : (more place : ℕ) → place ≤ length input → length input < place + more → (fault : Malformed) → all more place ≡ Err fault → RefusesListed Is Ends Refuses place fault
  refused zero place le enough fault e = absurd (omega (arith, le, enough))
  refused (suc more) place le enough fault e = by_end (ends place) refl (λ next on far h. refused more next on far fault h)
    where
      by_end : (o : Option ℕ) → ends place ≡ o → ((next : ℕ) → next ≤ length input → length input < next + more → all more next ≡ Err fault → RefusesListed Is Ends Refuses next fault) → RefusesListed Is Ends Refuses place fault
      by_end (Some end) same later = absurd (let bad = sym (ended ends read more place end same) ∙ e in cc)
      by_end None same later =
          elim (bind_err (read place) (behind more) fault (sym (goes_on ends read more place same) ∙ e)) [
            | inl here ↦ record { xs = []; stop = place; are = refl; no_end = no_end place same; refused = (answers place le).refused fault here }
            | inr after ↦
                let one = (answers place le).found after.0 after.1 in
                let on = grows place after.0.0 after.0.1 le one in
                elim (bind_err (all more after.0.1) (λ rest. Ok (after.0.0 ∷ rest.0, rest.1)) fault after.2) [
                  | inl there ↦
                      let h = later after.0.1 on.1 (omega (arith, enough, on.0)) there in
                      record { xs = after.0.0 ∷ h.xs; stop = h.stop; are = (after.0.1, one, h.are); no_end = h.no_end; refused = h.refused }
                  | inr never ↦ absurd (let bad = never.2 in cc)
                ]
          ]

  fails : (more place : ℕ) → place ≤ length input → length input < place + more → (fault : Malformed) (xs : List X) (stop : ℕ) → AreAt Is place xs stop → ((end : ℕ) → ¬ Ends stop end) → Refuses stop fault → all more place ≡ Err fault
  fails zero place le enough fault xs stop are never h = absurd (omega (arith, le, enough))
  fails (suc more) place le enough fault [] stop are never h =
      let here : stop ≡ place = are in
      goes_on ends read more place (is_none place (subst (λ (p : ℕ). (end : ℕ) → ¬ Ends p end) here never))
      ∙ ap (λ (r : Result (X × ℕ) Malformed). r >>= behind more) ((answers place le).refuses fault (subst (λ (p : ℕ). Refuses p fault) here h))
  fails (suc more) place le enough fault (x ∷ xs) stop are never h =
      let next = are.0 in
      let one = are.1 in
      let on = grows place x next le one in
      goes_on ends read more place (is_none place (differs place x next one))
      ∙ (ap (λ (r : Result (X × ℕ) Malformed). r >>= behind more) ((answers place le).only x next one)
      ∙ ap (λ (r : Result (List X × ℕ) Malformed). r >>= λ rest. Ok (x ∷ rest.0, rest.1)) (fails more next on.1 (omega (arith, enough, on.0)) fault xs stop are.2 never h))

  pub each_answers : (more place : ℕ) → place ≤ length input → length input < place + more → Answers (AreListed Is Ends place) (RefusesListed Is Ends Refuses place) (each_within ends read more place)
  each_answers more place le enough =
      record {
        found = found more place le;
        only = only more place le enough;
        refused = refused more place le enough;
        refuses = λ fault h. fails more place le enough fault h.xs h.stop h.are h.no_end h.refused;
      }

  -- they end behind the place, and each of them is behind the one before it
  pub are_within : (xs : List X) (place stop : ℕ) → place ≤ length input → AreAt Is place xs stop → (place ≤ stop) × (stop ≤ length input)
  are_within [] place stop le h = (omega (arith, h), omega (arith, le, h))
  are_within (x ∷ xs) place stop le h =
      let on = grows place x h.0 le h.1 in
      let later = are_within xs h.0 stop on.1 h.2 in
      (omega (arith, on.0, later.0), later.1)
