-- A node of a tournament holds the least moment of the leaves below it.
use Rattle.std.proofs.Common.{◌≡◌, ℕ, zero, suc, ◌+◌, ◌-◌, ◌*◌, ◌^◌, ◌<◌, ◌≤◌, min, List, [], ◌∷◌, ◌++◌, Option, Some, None, length, take, drop, get_or, replicate, refl, sym, ap, subst, ◌∙◌, arith}
use Rattle.std.proofs.Math.Nat.{pow-suc}
use Rattle.std.proofs.Math.Seq.{take-add}
use Rattle.std.proofs.lemmas.List.{drop-drop, take-append-drop, take_all, length-drop}
use Rattle.std.proofs.lemmas.Nat.{pow_pos}
use Rattle.held_timers.specs.Dues.{earlier, least_due}
use Rattle.held_timers.specs.TournamentSteps.{IsTournament, HoldsTimers}

pub earlier-None : (due : Option ℕ) → earlier due None ≡ due
earlier-None None = refl
earlier-None (Some due) = refl

min-min : (a b c : ℕ) → min (min a b) c ≡ min a (min b c)
min-min a b c = omega arith

pub earlier-earlier : (a b c : Option ℕ) → earlier (earlier a b) c ≡ earlier a (earlier b c)
earlier-earlier None b c = refl
earlier-earlier (Some a) None c = refl
earlier-earlier (Some a) (Some b) None = refl
earlier-earlier (Some a) (Some b) (Some c) = ap Some (min-min a b c)

pub least_due-append : (xs ys : List (Option ℕ)) → least_due (xs ++ ys) ≡ earlier (least_due xs) (least_due ys)
least_due-append [] ys = refl
least_due-append (x ∷ xs) ys = ap (earlier x) (least_due-append xs ys) ∙ sym (earlier-earlier x (least_due xs) (least_due ys))

pub least_due-replicate : (n : ℕ) → least_due (replicate n None) ≡ None
least_due-replicate zero = refl
least_due-replicate (suc n) = least_due-replicate n

twice : (w node : ℕ) → node * (w + w) ≡ (2 * node) * w
twice w node = grind arith

next : (w node : ℕ) → (2 * node) * w + w ≡ (2 * node + 1) * w
next w node = grind arith

-- one leaf is the list of itself
one_leaf : (nodes : List (Option ℕ)) (k : ℕ) → k < length nodes → take 1 (drop k nodes) ≡ get_or nodes k None ∷ []
one_leaf [] k within = absurd (omega (arith, within))
one_leaf (due ∷ nodes) zero within = refl
one_leaf (due ∷ nodes) (suc k) within = one_leaf nodes k (omega (arith, within))

-- the leaves below a node are those below its left, and those below its right
halves : (nodes : List (Option ℕ)) (w node : ℕ) → take (w + w) (drop (node * (w + w)) nodes) ≡ take w (drop ((2 * node) * w) nodes) ++ take w (drop ((2 * node + 1) * w) nodes)
halves nodes w node =
    ap (λ at. take (w + w) (drop at nodes)) (twice w node)
    ∙ take-add w w (drop ((2 * node) * w) nodes)
    ∙ ap (λ rest. take w (drop ((2 * node) * w) nodes) ++ take w rest) (drop-drop w ((2 * node) * w) nodes ∙ ap (λ at. drop at nodes) (next w node))

inside : (w node size : ℕ) → 0 < w → (node + 1) * (w + w) ≤ size → 2 * node + 1 < size
inside zero node size pos fits = elim pos [ ]
inside (suc v) node size pos fits = grind arith

left_fits : (w node size : ℕ) → (node + 1) * (w + w) ≤ size → (2 * node + 1) * w ≤ size
left_fits w node size fits = grind arith

right_fits : (w node size : ℕ) → (node + 1) * (w + w) ≤ size → (2 * node + 1 + 1) * w ≤ size
right_fits w node size fits = grind arith

double : (height : ℕ) → 2 ^ suc height ≡ 2 ^ height + 2 ^ height
double height = pow-suc 2 height ∙ (omega arith)

pub least_of_node : (nodes : List (Option ℕ)) → IsTournament nodes → (height node : ℕ) → 0 < node → (node + 1) * 2 ^ height ≤ length nodes → least_due (take (2 ^ height) (drop (node * 2 ^ height) nodes)) ≡ get_or nodes node None
least_of_node nodes tournament zero node pos fits =
    ap least_due (ap (λ at. take 1 (drop at nodes)) (omega arith) ∙ one_leaf nodes node (omega (arith, fits))) ∙ earlier-None (get_or nodes node None)
least_of_node nodes tournament (suc height) node pos fits =
    let w : ℕ = 2 ^ height in
    let wide : (node + 1) * (w + w) ≤ length nodes = subst (λ n. (node + 1) * n ≤ length nodes) (double height) fits in
    let some : 0 < w = pow_pos height in
    let left = least_of_node nodes tournament height (2 * node) (omega (arith, pos)) (left_fits w node (length nodes) wide) in
    let right = least_of_node nodes tournament height (2 * node + 1) (omega arith) (right_fits w node (length nodes) wide) in
    ap (λ n. least_due (take n (drop (node * n) nodes))) (double height)
    ∙ ap least_due (halves nodes w node)
    ∙ least_due-append (take w (drop ((2 * node) * w) nodes)) (take w (drop ((2 * node + 1) * w) nodes))
    ∙ ap (λ first. earlier first (least_due (take w (drop ((2 * node + 1) * w) nodes)))) left
    ∙ ap (earlier (get_or nodes (2 * node) None)) right
    ∙ sym (tournament node pos (inside w node (length nodes) some wide))

-- places without a moment don't count
least_due-take : (dues : List (Option ℕ)) (count rest : ℕ) → drop count dues ≡ replicate rest None → least_due (take count dues) ≡ least_due dues
least_due-take dues count rest unused =
    sym (earlier-None (least_due (take count dues)))
    ∙ ap (earlier (least_due (take count dues))) (sym (ap least_due unused ∙ least_due-replicate rest))
    ∙ sym (least_due-append (take count dues) (drop count dues))
    ∙ ap least_due (take-append-drop count dues)

-- there is a top
pub top_stands : (count leaves : ℕ) (nodes : List (Option ℕ)) → HoldsTimers count leaves nodes → 1 < length nodes
top_stands count leaves nodes holds = omega (arith, holds.size, holds.power.1, pow_pos holds.power.0)

-- the top holds the least moment of all
pub least_of_timers : (count leaves : ℕ) (nodes : List (Option ℕ)) → HoldsTimers count leaves nodes → least_due (take count (drop leaves nodes)) ≡ get_or nodes 1 None
least_of_timers count leaves nodes holds =
    let height : ℕ = holds.power.0 in
    let power : leaves ≡ 2 ^ height = holds.power.1 in
    let whole : length (drop leaves nodes) ≡ leaves = length-drop leaves nodes ∙ omega (arith, holds.size) in
    let fits : (1 + 1) * 2 ^ height ≤ length nodes = omega (arith, holds.size, power) in
    let top = least_of_node nodes holds.tournament height 1 (omega arith) fits in
    least_due-take (drop leaves nodes) count (leaves - count) holds.unused
    ∙ ap least_due (sym (take_all leaves (drop leaves nodes) (omega (arith, whole))))
    ∙ ap (λ n. least_due (take n (drop n nodes))) power
    ∙ ap (λ n. least_due (take (2 ^ height) (drop n nodes))) (omega arith)
    ∙ top
