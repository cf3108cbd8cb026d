-- The leaves behind the count are never due.
use Rattle.std.proofs.Common.{◌≡◌, ℕ, zero, suc, ◌+◌, ◌-◌, ◌<◌, ◌≤◌, List, [], ◌∷◌, ◌++◌, Option, Some, None, length, take, drop, replicate, cond, refl, sym, ap, ◌∙◌, arith, ⊎_elim}
use Rattle.std.specs.List.{position_from}
use Rattle.std.proofs.lemmas.Bool.{cases_Bool, cond-true, cond-false}
use Rattle.std.specs.Prelude.{unwrap_or}
use Rattle.std.proofs.lemmas.Option.{none-some}
use Rattle.std.proofs.lemmas.List.{drop-append-le, length-take, take-append-drop, length-drop}
use Rattle.held_timers.specs.Dues.{is_due, first_due_from}
use Rattle.held_timers.specs.TournamentSteps.{HoldsTimers}

never : (moment i n : ℕ) → position_from (is_due moment) i (replicate n None) ≡ None
never moment i zero = refl
never moment i (suc n) = never moment (i + 1) n

position_from-unused : (moment i n : ℕ) (dues : List (Option ℕ)) → position_from (is_due moment) i (dues ++ replicate n None) ≡ position_from (is_due moment) i dues
position_from-unused moment i n [] = never moment i n
position_from-unused moment i n (due ∷ dues) = ap (cond (is_due moment due) (Some i)) (position_from-unused moment (i + 1) n dues)

first_due_from-take : (moment index count rest : ℕ) (dues : List (Option ℕ)) → drop count dues ≡ replicate rest None → count ≤ length dues → index ≤ count → first_due_from dues moment index ≡ first_due_from (take count dues) moment index
first_due_from-take moment index count rest dues unused within low =
    let whole : dues ≡ take count dues ++ replicate rest None = sym (take-append-drop count dues) ∙ ap (λ behind. take count dues ++ behind) unused in
    let front : index ≤ length (take count dues) = omega (arith, length-take count dues, within, low) in
    ap (λ all. position_from (is_due moment) index (drop index all)) whole
    ∙ ap (position_from (is_due moment) index) (drop-append-le index (take count dues) (replicate rest None) front)
    ∙ position_from-unused moment index rest (drop index (take count dues))

-- what is found among the leaves is found among the timers
pub first_of_timers : (moment index count leaves : ℕ) (nodes lent dues : List (Option ℕ)) (found : Option ℕ) → HoldsTimers count leaves nodes → take count (drop leaves nodes) ≡ dues → index ≤ length dues → lent ≡ nodes → found ≡ first_due_from (drop leaves lent) moment index → found ≡ first_due_from dues moment index
first_of_timers moment index count leaves nodes lent dues found holds view low lends is =
    let enough : count ≤ length (drop leaves nodes) = omega (arith, length-drop leaves nodes, holds.size, holds.enough) in
    let within : index ≤ count = omega (arith, low, ap length view, length-take count (drop leaves nodes)) in
    is
    ∙ ap (λ all. first_due_from (drop leaves all) moment index) lends
    ∙ first_due_from-take moment index count (leaves - count) (drop leaves nodes) holds.unused enough within
    ∙ ap (λ all. first_due_from all moment index) view

-- what is found is an index
position_from-below : (moment i p : ℕ) (dues : List (Option ℕ)) → position_from (is_due moment) i dues ≡ Some p → p < i + length dues
position_from-below moment i p [] found = absurd (none-some p found)
position_from-below moment i p (due ∷ dues) found =
    ⊎_elim
    (λ yes. let here : i ≡ p = ap (λ first. unwrap_or first 0) (sym (cond-true _ (Some i) (position_from (is_due moment) (i + 1) dues) yes) ∙ found) in omega (arith, here))
    (λ no. let behind = position_from-below moment (i + 1) p dues (sym (cond-false _ (Some i) (position_from (is_due moment) (i + 1) dues) no) ∙ found) in omega (arith, behind))
    (cases_Bool (is_due moment due))

pub first_due_from-below : (moment index p : ℕ) (dues : List (Option ℕ)) → index ≤ length dues → first_due_from dues moment index ≡ Some p → p < length dues
first_due_from-below moment index p dues low found = omega (arith, position_from-below moment index p (drop index dues) found, length-drop index dues, low)
