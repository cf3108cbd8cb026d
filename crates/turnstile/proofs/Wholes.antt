-- A history with no other entries than those of some calls: any measure of its entries is the sum over the calls.
use Rattle.std.proofs.Common.{◌≡◌, ◌≢◌, ℕ, ◌+◌, List, [], ◌∷◌, refl, sym, ap, ◌∙◌, subst, arith, eq-eqb, ne_eqb}
use mathlib.Core.Logic.{dite}
use native.Mathlib.Decide.{ℕ_discrete}
use Rattle.std.specs.Prelude.{sum_by}
use Rattle.std.proofs.lemmas.List.Sums.{sum_by-cons}
use Rattle.std.specs.Prelude.{◌==◌, if◌then◌else◌}
use Rattle.turnstile.specs.Histories.{entries_under, Accounts, times, IsOnce, NoOther}
use Rattle.turnstile.proofs.Counts.{times_here, times_there}

module _ {E : Type 0} where
  -- the entries that don't stand under the number
  abbrev without : ℕ → List (ℕ × E) → List (ℕ × E)
  without n [] = []
  without n (e ∷ es) = if e.0 == n then without n es else (e ∷ without n es)

  under_here : (n : ℕ) (e : ℕ × E) (es : List (ℕ × E)) → e.0 ≡ n → entries_under n (e ∷ es) ≡ e.1 ∷ entries_under n es
  under_here n e es is = ap (λ b. if b then (e.1 ∷ entries_under n es) else entries_under n es) (eq-eqb e.0 n is)

  under_there : (n : ℕ) (e : ℕ × E) (es : List (ℕ × E)) → e.0 ≢ n → entries_under n (e ∷ es) ≡ entries_under n es
  under_there n e es ne = ap (λ b. if b then (e.1 ∷ entries_under n es) else entries_under n es) (ne_eqb e.0 n ne)

  without_here : (n : ℕ) (e : ℕ × E) (es : List (ℕ × E)) → e.0 ≡ n → without n (e ∷ es) ≡ without n es
  without_here n e es is = ap (λ b. if b then without n es else (e ∷ without n es)) (eq-eqb e.0 n is)

  without_there : (n : ℕ) (e : ℕ × E) (es : List (ℕ × E)) → e.0 ≢ n → without n (e ∷ es) ≡ e ∷ without n es
  without_there n e es ne = ap (λ b. if b then without n es else (e ∷ without n es)) (ne_eqb e.0 n ne)

  without_other : (n k : ℕ) (log : List (ℕ × E)) → k ≢ n → entries_under k (without n log) ≡ entries_under k log
  without_other n k [] ne = refl
  without_other n k (e ∷ es) ne = dite (ℕ_discrete e.0 n)
      (λ is. ap (entries_under k) (without_here n e es is) ∙ (without_other n k es ne ∙ sym (under_there k e es (λ same. ne (sym same ∙ is)))))
      (λ no. ap (entries_under k) (without_there n e es no) ∙ dite (ℕ_discrete e.0 k)
      (λ is. under_here k e (without n es) is ∙ (ap (λ z. e.1 ∷ z) (without_other n k es ne) ∙ sym (under_here k e es is)))
      (λ apart. under_there k e (without n es) apart ∙ (without_other n k es ne ∙ sym (under_there k e es apart))))

  without_own : (n : ℕ) (log : List (ℕ × E)) → entries_under n (without n log) ≡ []
  without_own n [] = refl
  without_own n (e ∷ es) = dite (ℕ_discrete e.0 n)
      (λ is. ap (entries_under n) (without_here n e es is) ∙ without_own n es)
      (λ no. ap (entries_under n) (without_there n e es no) ∙ (under_there n e (without n es) no ∙ without_own n es))

  without_accounts : (n : ℕ) (log : List (ℕ × E)) (cs : List (ℕ × List E)) → times n cs ≡ 0 → Accounts log cs → Accounts (without n log) cs
  without_accounts n log [] none_there a = tt
  without_accounts n log (c ∷ cs) none_there a = (
    without_other n c.0 log (λ is. absurd (omega (arith, times_here n c cs is))) ∙ a.0,
    without_accounts n log cs (omega arith) a.1,
  )

  no_entries : (log : List (ℕ × E)) → ((n : ℕ) → entries_under n log ≡ []) → log ≡ []
  no_entries [] h = refl
  no_entries (e ∷ es) h = let first = sym (under_here e.0 e es refl) ∙ h e.0 in cc

  module _ (measure : E → ℕ) where
    abbrev of_entry : ℕ × E → ℕ
    of_entry e = measure e.1

    abbrev of_call : ℕ × List E → ℕ
    of_call c = sum_by measure c.1

    split_sum : (n : ℕ) (log : List (ℕ × E)) → sum_by of_entry log ≡ sum_by measure (entries_under n log) + sum_by of_entry (without n log)
    split_sum n [] = refl
    split_sum n (e ∷ es) = dite (ℕ_discrete e.0 n)
        (λ is. let a = ap (sum_by measure) (under_here n e es is) in let b = ap (sum_by of_entry) (without_here n e es is) in
        omega (arith, sum_by-cons of_entry e es, sum_by-cons measure e.1 (entries_under n es), split_sum n es))
        (λ no. let a = ap (sum_by measure) (under_there n e es no) in let b = ap (sum_by of_entry) (without_there n e es no) in
        omega (arith, sum_by-cons of_entry e es, sum_by-cons of_entry e (without n es), split_sum n es))

    -- with 1 for the measure: the history is as long as the calls are together
    pub whole_sum : (log : List (ℕ × E)) (calls : List (ℕ × List E)) → Accounts log calls → IsOnce calls → NoOther log calls → sum_by of_entry log ≡ sum_by of_call calls
    whole_sum log [] a once only = ap (sum_by of_entry) (no_entries log (λ n. only n refl))
    whole_sum log (c ∷ cs) a once only =
        let here = times_here c.0 c cs refl in let free : times c.0 cs ≡ 0 = (let o = once c.0 in omega arith) in
        let rest = whole_sum (without c.0 log) cs (without_accounts c.0 log cs free a.1) (λ n. let o = once n in omega arith)
        (λ n none_there. dite (ℕ_discrete c.0 n)
        (λ is. subst (λ k. entries_under k (without c.0 log) ≡ []) is (without_own c.0 log))
        (λ ne. without_other c.0 n log (λ is. ne (sym is)) ∙ only n (times_there n c cs ne ∙ none_there))) in
        let first = split_sum c.0 log in let mine = ap (sum_by measure) a.0 in omega (arith, sum_by-cons of_call c cs)
