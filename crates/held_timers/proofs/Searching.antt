-- Going up from a leaf and down again finds the first leaf that is due.
use Rattle.std.proofs.Common.{◌≡◌, ℕ, zero, suc, ◌+◌, ◌-◌, ◌*◌, ◌^◌, ◌<◌, ◌≤◌, Bool, true, false, ◌||◌, List, [], ◌∷◌, Option, Some, None, length, take, drop, get_or, refl, sym, ap, subst, ◌∙◌, arith}
use Rattle.std.specs.Prelude.{nat_le, min}
use Rattle.std.specs.List.{position_from, list_any}
use Rattle.std.proofs.Math.Nat.{pow-suc, mul-le-mul_right, mul_assoc}
use Rattle.std.proofs.lemmas.Bool.{or_parts, cond-true, cond-false}
use Rattle.std.proofs.lemmas.List.{drop-drop, length-drop, get_or-drop}
use Rattle.std.proofs.lemmas.Nat.{pow_pos}
use Rattle.held_timers.specs.Dues.{earlier, is_due, least_due, first_due_from}
use Rattle.held_timers.specs.TournamentSteps.{IsTournament, BeginsAt}
use Rattle.held_timers.proofs.Winners.{least_of_node}

-- the earlier of two moments is due where one of them is
min_le : (moment a b : ℕ) → nat_le (min a b) moment ≡ (nat_le a moment || nat_le b moment)
min_le moment a b = grind arith

is_due-earlier : (moment : ℕ) (a b : Option ℕ) → is_due moment (earlier a b) ≡ (is_due moment a || is_due moment b)
is_due-earlier moment None b = refl
is_due-earlier moment (Some a) None = grind arith
is_due-earlier moment (Some a) (Some b) = min_le moment a b

pub is_due-least : (moment : ℕ) (dues : List (Option ℕ)) → is_due moment (least_due dues) ≡ list_any (is_due moment) dues
is_due-least moment [] = refl
is_due-least moment (due ∷ dues) = is_due-earlier moment due (least_due dues) ∙ ap (λ b. is_due moment due || b) (is_due-least moment dues)

-- what doesn't pass is passed over
position_from-skip : {X : Type 0} (test : X → Bool) (n i : ℕ) (xs : List X) → n ≤ length xs → list_any test (take n xs) ≡ false → position_from test i xs ≡ position_from test (i + n) (drop n xs)
position_from-skip test zero i xs within none = ap (λ at. position_from test at xs) (omega arith)
position_from-skip test (suc n) i [] within none = absurd (omega (arith, within))
position_from-skip test (suc n) i (x ∷ xs) within none =
    let parts : (test x ≡ false) × (list_any test (take n xs) ≡ false) = or_parts (test x) (list_any test (take n xs)) none in
    cond-false _ _ _ parts.0
    ∙ position_from-skip test n (i + 1) xs (omega (arith, within)) parts.1
    ∙ ap (λ at. position_from test at (drop n xs)) (omega arith)

-- where an element passes, it is the first from its own place on
position_from-here : {X : Type 0} (test : X → Bool) (d : X) (i k : ℕ) (xs : List X) → k < length xs → test (get_or xs k d) ≡ true → position_from test i (drop k xs) ≡ Some i
position_from-here test d i k [] within passes = absurd (omega (arith, within))
position_from-here test d i zero (x ∷ xs) within passes = cond-true _ _ _ passes
position_from-here test d i (suc k) (x ∷ xs) within passes = position_from-here test d i k xs (omega (arith, within)) passes

-- products, with the powers of two as plain numbers
pub one_more : (w node : ℕ) → (node + 1) * w ≡ node * w + w
one_more w node = grind arith

pub moved : (a b x y : ℕ) → x ≡ a * 2 → y ≡ b * 2 → x * b ≡ a * y
moved a b x y ex ey =
    let middle : (a * 2) * b ≡ a * (b * 2) = grind arith in
    ap (λ n. n * b) ex ∙ middle ∙ ap (λ n. a * n) (sym ey)

pub doubled : (q w y : ℕ) → y ≡ w * 2 → (2 * q) * w ≡ q * y
doubled q w y e = grind arith

pub level_fits : (a w node leaves : ℕ) → a * w ≡ leaves → node < 2 * a → (node + 1) * w ≤ 2 * leaves
level_fits a w node leaves all high =
    let most : (node + 1) * w ≤ (2 * a) * w = mul-le-mul_right w (omega (arith, high)) in
    let whole : (2 * a) * w ≡ 2 * leaves = mul_assoc 2 a w ∙ ap (λ n. 2 * n) all in
    omega (arith, most, whole)

too_wide : (a v node leaves : ℕ) → 0 < v → a * (v * 2) ≡ leaves → leaves ≤ node → node < 2 * a → ⊥
too_wide a zero node leaves pos all low high = elim pos [ ]
too_wide a (suc v) node leaves pos all low high = grind arith

-- a node that isn't due has no leaf below it that is
pub skip_node : (moment : ℕ) (nodes : List (Option ℕ)) (leaves node index height : ℕ) → IsTournament nodes → 0 < node → (node + 1) * 2 ^ height ≤ length nodes → leaves + index ≡ node * 2 ^ height → is_due moment (get_or nodes node None) ≡ false → first_due_from (drop leaves nodes) moment index ≡ first_due_from (drop leaves nodes) moment (index + 2 ^ height)
skip_node moment nodes leaves node index height tournament pos fits place quiet =
    let w : ℕ = 2 ^ height in
    let test : Option ℕ → Bool = is_due moment in
    let below : drop index (drop leaves nodes) ≡ drop (node * w) nodes = drop-drop index leaves nodes ∙ ap (λ at. drop at nodes) place in
    let none : list_any test (take w (drop index (drop leaves nodes))) ≡ false =
    ap (λ xs. list_any test (take w xs)) below
    ∙ sym (is_due-least moment (take w (drop (node * w) nodes)))
    ∙ ap test (least_of_node nodes tournament height node pos fits)
    ∙ quiet in
    let within : w ≤ length (drop index (drop leaves nodes)) = omega (arith, length-drop index (drop leaves nodes), length-drop leaves nodes, fits, one_more w node, place) in
    position_from-skip test w index (drop index (drop leaves nodes)) within none
    ∙ ap (position_from test (index + w)) (drop-drop w index (drop leaves nodes))

-- the search down has come to a node: the first due leaf from an index on is the first one from the node's own leaves on
pub record Comes (moment : ℕ) (nodes : List (Option ℕ)) (leaves node index : ℕ) : Type 0 where
  pub edge : ℕ
  pub begins : BeginsAt leaves node edge
  pub same : first_due_from (drop leaves nodes) moment index ≡ first_due_from (drop leaves nodes) moment edge

left_begins : (leaves node index depth height : ℕ) → 2 ^ depth * 2 ^ height ≡ leaves → 2 ^ depth ≤ node → node < 2 * 2 ^ depth → leaves + index ≡ node * 2 ^ height → node < leaves → BeginsAt leaves (2 * node) index
left_begins leaves node index depth zero all low high place inner = absurd (omega (arith, all, low, inner))
left_begins leaves node index depth (suc height) all low high place inner =
    record {
      depth = suc depth;
      height = height;
      all = moved (2 ^ depth) (2 ^ height) (2 ^ suc depth) (2 ^ suc height) (pow-suc 2 depth) (pow-suc 2 height) ∙ all;
      low = omega (arith, pow-suc 2 depth, low);
      high = omega (arith, pow-suc 2 depth, high);
      place = place ∙ sym (doubled node (2 ^ height) (2 ^ suc height) (pow-suc 2 height));
    }

comes_left : (moment : ℕ) (nodes : List (Option ℕ)) (leaves node index : ℕ) → Comes moment nodes leaves node index → node < leaves → Comes moment nodes leaves (2 * node) index
comes_left moment nodes leaves node index comes inner =
    let b = comes.begins in
    record {
      edge = comes.edge;
      begins = left_begins leaves node comes.edge b.depth b.height b.all b.low b.high b.place inner;
      same = comes.same;
    }

comes_right : (moment : ℕ) (nodes : List (Option ℕ)) (leaves node index : ℕ) → IsTournament nodes → length nodes ≡ 2 * leaves → Comes moment nodes leaves (2 * node) index → 0 < node → is_due moment (get_or nodes (2 * node) None) ≡ false → Comes moment nodes leaves (2 * node + 1) index
comes_right moment nodes leaves node index tournament size comes pos quiet =
    let b = comes.begins in
    let w : ℕ = 2 ^ b.height in
    let fits : (2 * node + 1) * w ≤ length nodes = omega (arith, level_fits (2 ^ b.depth) w (2 * node) leaves b.all b.high, size) in
    record {
      edge = comes.edge + w;
      begins = record {
        depth = b.depth;
        height = b.height;
        all = b.all;
        low = omega (arith, b.low);
        high = omega (arith, b.high);
        place = omega (arith, b.place, one_more w (2 * node));
      };
      same = comes.same ∙ skip_node moment nodes leaves (2 * node) comes.edge b.height tournament (omega (arith, pos)) fits b.place quiet;
    }

leaf_edge : (leaves node index depth height : ℕ) → 2 ^ depth * 2 ^ height ≡ leaves → node < 2 * 2 ^ depth → leaves + index ≡ node * 2 ^ height → leaves ≤ node → leaves + index ≡ node
leaf_edge leaves node index depth zero all high place outer = omega (arith, place)
leaf_edge leaves node index depth (suc height) all high place outer =
    absurd (too_wide (2 ^ depth) (2 ^ height) node leaves (pow_pos height) (ap (λ n. 2 ^ depth * n) (sym (pow-suc 2 height)) ∙ all) outer high)

pub comes_to_leaf : (moment : ℕ) (nodes : List (Option ℕ)) (leaves node index : ℕ) → length nodes ≡ 2 * leaves → Comes moment nodes leaves node index → leaves ≤ node → node < 2 * leaves → is_due moment (get_or nodes node None) ≡ true → Some (node - leaves) ≡ first_due_from (drop leaves nodes) moment index
comes_to_leaf moment nodes leaves node index size comes outer high due =
    let b = comes.begins in
    let place : leaves + comes.edge ≡ node = leaf_edge leaves node comes.edge b.depth b.height b.all b.high b.place outer in
    let within : comes.edge < length (drop leaves nodes) = omega (arith, length-drop leaves nodes, size, place, high) in
    let there : is_due moment (get_or (drop leaves nodes) comes.edge None) ≡ true = ap (is_due moment) (get_or-drop leaves nodes comes.edge None ∙ ap (λ at. get_or nodes at None) place) ∙ due in
    let edge : node - leaves ≡ comes.edge = omega (arith, place) in
    sym (comes.same ∙ position_from-here (is_due moment) None comes.edge comes.edge (drop leaves nodes) within there ∙ ap Some (sym edge))

-- the search down: the node is due, and the search comes to it from every index at which the leaves of the top begin
pub record Descends (moment : ℕ) (nodes : List (Option ℕ)) (leaves top node : ℕ) : Type 0 where
  pub low : 0 < node
  pub high : node < 2 * leaves
  pub due : is_due moment (get_or nodes node None) ≡ true
  pub comes : (index : ℕ) → BeginsAt leaves top index → Comes moment nodes leaves node index

pub descends_left : (moment : ℕ) (nodes : List (Option ℕ)) (leaves top node left : ℕ) → Descends moment nodes leaves top node → node < leaves → left ≡ 2 * node → is_due moment (get_or nodes left None) ≡ true → Descends moment nodes leaves top left
descends_left moment nodes leaves top node left descends inner twice due =
    record {
      low = omega (arith, descends.low, twice);
      high = omega (arith, inner, twice);
      due = due;
      comes = λ index begins. subst (λ n. Comes moment nodes leaves n index) (sym twice) (comes_left moment nodes leaves node index (descends.comes index begins) inner);
    }

pub descends_right : (moment : ℕ) (nodes : List (Option ℕ)) (leaves top node left : ℕ) → IsTournament nodes → length nodes ≡ 2 * leaves → Descends moment nodes leaves top node → node < leaves → left ≡ 2 * node → is_due moment (get_or nodes left None) ≡ false → Descends moment nodes leaves top (left + 1)
descends_right moment nodes leaves top node left tournament size descends inner twice quiet =
    let left_quiet : is_due moment (get_or nodes (2 * node) None) ≡ false = ap (λ n. is_due moment (get_or nodes n None)) (sym twice) ∙ quiet in
    let wins : is_due moment (get_or nodes node None) ≡ (is_due moment (get_or nodes (2 * node) None) || is_due moment (get_or nodes (2 * node + 1) None)) =
    ap (is_due moment) (tournament node descends.low (omega (arith, inner, size))) ∙ is_due-earlier moment (get_or nodes (2 * node) None) (get_or nodes (2 * node + 1) None) in
    record {
      low = omega arith;
      high = omega (arith, inner, twice);
      due = ap (λ n. is_due moment (get_or nodes (n + 1) None)) twice
          ∙ sym (ap (λ b. b || is_due moment (get_or nodes (2 * node + 1) None)) left_quiet)
          ∙ sym wins
          ∙ descends.due;
      comes = λ index begins. subst (λ n. Comes moment nodes leaves (n + 1) index) (sym twice)
          (comes_right moment nodes leaves node index tournament size (comes_left moment nodes leaves node index (descends.comes index begins) inner) descends.low left_quiet);
    }
