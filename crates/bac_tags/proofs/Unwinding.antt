-- Elements within one another, whose closing tags are still to come: an array has the numbers of the tags that are open.
use Rattle.std.proofs.Common.{◌≡◌, ℕ, zero, suc, ◌-◌, ◌<◌, ◌≤◌, Option, Some, None, List, length, get_or, refl, sym, ap, ◌∙◌, arith}
use Rattle.std.proofs.Math.ListN.{set}
use Rattle.std.proofs.lemmas.List.{get_or-set_other, get_or-set_same}
use Rattle.bac_tags.specs.BalancedSteps.{rest_behind, elements_end}
use Rattle.bac_tags.proofs.Balance.{all_next}

-- behind the closing tag of the innermost come the elements of the one around it, and so on to the outermost
pub unwound : List ℕ → List ℕ → ℕ → Option (ℕ × ℕ) → Option (ℕ × ℕ)
unwound input numbers zero closes = closes
unwound input numbers (suc inner) None = None
unwound input numbers (suc inner) (Some x) = unwound input numbers inner (elements_end input x.1 (get_or numbers inner 0))

pub unwound-none : (input numbers : List ℕ) (inner : ℕ) → unwound input numbers inner None ≡ None
unfolding unwound
unwound-none input numbers zero = refl
unwound-none input numbers (suc inner) = refl

pub unwound-done : (input numbers : List ℕ) (closes : Option (ℕ × ℕ)) → unwound input numbers 0 closes ≡ closes
unfolding unwound
unwound-done input numbers closes = refl

-- one tag is closed
pub unwound-closed : (input numbers : List ℕ) (inner place after : ℕ) → unwound input numbers (suc inner) (Some (place, after)) ≡ unwound input numbers inner (elements_end input after (get_or numbers inner 0))
unfolding unwound
unwound-closed input numbers inner place after = refl

-- the numbers of those around it count alone
set_above : (input numbers : List ℕ) (at number inner : ℕ) (closes : Option (ℕ × ℕ)) → inner ≤ at → unwound input (set numbers at number) inner closes ≡ unwound input numbers inner closes
unfolding unwound
set_above input numbers at number zero closes le = refl
set_above input numbers at number (suc inner) None le = refl
set_above input numbers at number (suc inner) (Some x) le =
    let other : get_or (set numbers at number) inner 0 ≡ get_or numbers inner 0 = get_or-set_other numbers at inner number 0 (λ e. omega arith) in
    ap (λ (n : ℕ). unwound input (set numbers at number) inner (elements_end input x.1 n)) other ∙ set_above input numbers at number inner (elements_end input x.1 (get_or numbers inner 0)) (omega arith)

-- one tag is opened
pub unwound-opened : (input numbers : List ℕ) (inner number : ℕ) (closes : Option (ℕ × ℕ)) → unwound input (set numbers (suc inner) number) (suc inner) closes ≡ unwound input numbers inner (rest_behind (elements_end input) (get_or numbers inner 0) closes)
unfolding unwound
unwound-opened input numbers inner number None = sym (unwound-none input numbers inner)
unwound-opened input numbers inner number (Some x) =
    let other : get_or (set numbers (suc inner) number) inner 0 ≡ get_or numbers inner 0 = get_or-set_other numbers (suc inner) inner number 0 (λ e. omega arith) in
    ap (λ (n : ℕ). unwound input (set numbers (suc inner) number) inner (elements_end input x.1 n)) other ∙ set_above input numbers (suc inner) number inner (elements_end input x.1 (get_or numbers inner 0)) (omega arith)

-- ---- a step of the whole, of which this is left

pub started : (input numbers : List ℕ) (at number : ℕ) → get_or numbers 0 0 ≡ number → elements_end input at number ≡ unwound input numbers 0 (elements_end input at (get_or numbers 0 0))
started input numbers at number e = ap (elements_end input at) (sym e) ∙ sym (unwound-done input numbers (elements_end input at (get_or numbers 0 0)))

pub gone : (input numbers : List ℕ) (inner : ℕ) (all closes : Option (ℕ × ℕ)) → all ≡ unwound input numbers inner closes → closes ≡ None → None ≡ all
gone input numbers inner all closes left none = sym (left ∙ ap (unwound input numbers inner) none ∙ unwound-none input numbers inner)

pub passed : (input numbers : List ℕ) (inner : ℕ) (all closes later : Option (ℕ × ℕ)) → all ≡ unwound input numbers inner closes → closes ≡ later → all ≡ unwound input numbers inner later
passed input numbers inner all closes later left e = left ∙ ap (unwound input numbers inner) e

pub opened : (input numbers : List ℕ) (inner next number after : ℕ) (all : Option (ℕ × ℕ)) → next ≡ suc inner → next < length numbers → all ≡ unwound input numbers inner (rest_behind (all_next input) (get_or numbers inner 0) (elements_end input after number))
    → all ≡ unwound input (set numbers next number) next (elements_end input after (get_or (set numbers next number) next 0))
opened input numbers inner next number after all e lt left =
    let same : get_or (set numbers next number) next 0 ≡ number = get_or-set_same numbers next number 0 lt in
    left
    ∙ sym (unwound-opened input numbers inner number (elements_end input after number))
    ∙ ap (λ (k : ℕ). unwound input (set numbers k number) k (elements_end input after number)) (sym e)
    ∙ ap (λ (n : ℕ). unwound input (set numbers next number) next (elements_end input after n)) (sym same)

pub closed : (input numbers : List ℕ) (inner place after : ℕ) (all : Option (ℕ × ℕ)) → 0 < inner → all ≡ unwound input numbers inner (Some (place, after)) → all ≡ unwound input numbers (inner - 1) (elements_end input after (get_or numbers (inner - 1) 0))
closed input numbers zero place after all lt left = absurd (omega arith)
closed input numbers (suc inner) place after all lt left =
    let one : inner ≡ suc inner - 1 = omega arith in
    left ∙ unwound-closed input numbers inner place after ∙ ap (λ (i : ℕ). unwound input numbers i (elements_end input after (get_or numbers i 0))) one

pub ended : (input numbers : List ℕ) (inner place after : ℕ) (all : Option (ℕ × ℕ)) → inner ≡ 0 → all ≡ unwound input numbers inner (Some (place, after)) → Some (place, after) ≡ all
ended input numbers inner place after all e left =
    sym (left ∙ ap (λ (i : ℕ). unwound input numbers i (Some (place, after))) e ∙ unwound-done input numbers (Some (place, after)))
