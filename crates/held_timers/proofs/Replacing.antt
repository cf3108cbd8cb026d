-- Putting a moment at a leaf, and the winners above it.
use Rattle.std.proofs.Common.{◌≡◌, ◌≢◌, ℕ, ◌+◌, ◌*◌, ◌/◌, ◌<◌, List, Option, None, length, drop, get_or, set, ⊎_elim, sym, ap, subst, ◌∙◌, arith}
use Rattle.std.proofs.lemmas.Bool.{cases_eq}
use Rattle.std.proofs.lemmas.List.{get_or-set_same, get_or-set_other, length-set, drop-set-lt, drop-set-add}
use Rattle.held_timers.specs.Dues.{earlier}
use Rattle.held_timers.specs.TournamentSteps.{IsTournament}

-- node k holds the earlier moment of the two below it
abbrev pub Wins : List (Option ℕ) → ℕ → Type 0
Wins nodes k = get_or nodes k None ≡ earlier (get_or nodes (2 * k) None) (get_or nodes (2 * k + 1) None)

-- the leaves are as they are to be, and all nodes win but the one above the last that was written
pub record Replaced (leaves index : ℕ) (due : Option ℕ) (old nodes : List (Option ℕ)) (node : ℕ) : Type 0 where
  pub size : length nodes ≡ 2 * leaves
  pub low : 0 < node
  pub high : node < 2 * leaves
  pub put : drop leaves nodes ≡ set (drop leaves old) index due
  pub winning : (k : ℕ) → 0 < k → 2 * k + 1 < length nodes → k ≢ node / 2 → Wins nodes k

-- a write elsewhere changes nothing of what a node wins
wins_beside : (nodes : List (Option ℕ)) (k p : ℕ) (due : Option ℕ) → k ≢ p → 2 * k ≢ p → 2 * k + 1 ≢ p → Wins nodes k → Wins (set nodes p due) k
wins_beside nodes k p due here left right wins =
    get_or-set_other nodes p k due None here
    ∙ wins
    ∙ ap (λ first. earlier first (get_or nodes (2 * k + 1) None)) (sym (get_or-set_other nodes p (2 * k) due None left))
    ∙ ap (earlier (get_or (set nodes p due) (2 * k) None)) (sym (get_or-set_other nodes p (2 * k + 1) due None right))

-- what is written as the winner wins
wins_here : (nodes : List (Option ℕ)) (k : ℕ) (due : Option ℕ) → 0 < k → k < length nodes → due ≡ earlier (get_or nodes (2 * k) None) (get_or nodes (2 * k + 1) None) → Wins (set nodes k due) k
wins_here nodes k due pos within wins =
    get_or-set_same nodes k due None within
    ∙ wins
    ∙ ap (λ first. earlier first (get_or nodes (2 * k + 1) None)) (sym (get_or-set_other nodes k (2 * k) due None (omega (arith, pos))))
    ∙ ap (earlier (get_or (set nodes k due) (2 * k) None)) (sym (get_or-set_other nodes k (2 * k + 1) due None (omega (arith, pos))))

pub replaced_at_first : (leaves index : ℕ) (due : Option ℕ) (old : List (Option ℕ)) → length old ≡ 2 * leaves → IsTournament old → index < leaves → Replaced leaves index due old (set old (leaves + index) due) (leaves + index)
replaced_at_first leaves index due old size tournament within =
    record {
      size = length-set old (leaves + index) due ∙ size;
      low = omega arith;
      high = omega arith;
      put = drop-set-add leaves old index due;
      winning = λ k pos inner other.
          let inside : 2 * k + 1 < length old = omega (arith, inner, length-set old (leaves + index) due) in
          wins_beside old k (leaves + index) due (omega (arith, inside, size)) (omega (arith, other)) (omega (arith, other)) (tournament k pos inside);
    }

-- all nodes win but the one above the last winner
winning_above : (nodes : List (Option ℕ)) (k parent : ℕ) (winner : Option ℕ) → 0 < k → 2 * k + 1 < length nodes → k ≢ parent / 2 → 0 < parent → parent < length nodes → ((j : ℕ) → 0 < j → 2 * j + 1 < length nodes → j ≢ parent → Wins nodes j) → winner ≡ earlier (get_or nodes (2 * parent) None) (get_or nodes (2 * parent + 1) None) → Wins (set nodes parent winner) k
winning_above nodes k parent winner pos inside other above within winning wins =
    ⊎_elim
    (λ same. subst (λ n. Wins (set nodes parent winner) n) (sym same) (wins_here nodes parent winner above within wins))
    (λ apart. wins_beside nodes k parent winner apart (omega (arith, other)) (omega (arith, other)) (winning k pos inside apart))
    (cases_eq k parent)

pub replaced_above : (leaves index : ℕ) (due winner : Option ℕ) (old nodes : List (Option ℕ)) (node : ℕ) → Replaced leaves index due old nodes node → 1 < node → winner ≡ earlier (get_or nodes (2 * (node / 2)) None) (get_or nodes (2 * (node / 2) + 1) None) → Replaced leaves index due old (set nodes (node / 2) winner) (node / 2)
replaced_above leaves index due winner old nodes node before inner wins =
    let parent : ℕ = node / 2 in
    let below : parent < leaves = omega (arith, before.high) in
    let above : 0 < parent = omega (arith, inner) in
    record {
      size = length-set nodes parent winner ∙ before.size;
      low = above;
      high = omega (arith, below);
      put = drop-set-lt leaves nodes parent winner below ∙ before.put;
      winning = λ k pos inside other. winning_above nodes k parent winner pos (omega (arith, inside, length-set nodes parent winner)) other above (omega (arith, below, before.size)) before.winning wins;
    }
