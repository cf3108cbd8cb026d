-- Going up from a leaf, until a node to the right is due.
use Rattle.std.proofs.Common.{◌≡◌, ◌≢◌, ℕ, zero, suc, ◌+◌, ◌*◌, ◌/◌, ◌%◌, ◌^◌, ◌<◌, ◌≤◌, false, List, Option, None, length, drop, get_or, sym, ap, ◌∙◌, arith}
use Rattle.std.specs.Int.{IsPowerOfTwo}
use Rattle.std.proofs.Math.Nat.{pow-suc}
use Rattle.held_timers.specs.Dues.{is_due, first_due_from}
use Rattle.held_timers.specs.TournamentSteps.{IsTournament, BeginsAt}
use Rattle.held_timers.proofs.Searching.{one_more, moved, doubled, level_fits, skip_node}

-- the search up has come to a node: the first due leaf from an index on is the first one behind the node's own leaves
pub record Climbs (moment : ℕ) (nodes : List (Option ℕ)) (leaves node index : ℕ) : Type 0 where
  pub depth : ℕ
  pub height : ℕ
  pub all : 2 ^ depth * 2 ^ height ≡ leaves
  pub low : 2 ^ depth ≤ node
  pub high : node < 2 * 2 ^ depth
  pub within : node < 2 * leaves
  pub edge : ℕ
  pub place : leaves + edge ≡ (node + 1) * 2 ^ height
  pub same : first_due_from (drop leaves nodes) moment index ≡ first_due_from (drop leaves nodes) moment edge

pub climbs_from_leaf : (moment : ℕ) (nodes : List (Option ℕ)) (leaves index : ℕ) → IsTournament nodes → length nodes ≡ 2 * leaves → IsPowerOfTwo leaves → index < leaves → is_due moment (get_or nodes (leaves + index) None) ≡ false → Climbs moment nodes leaves (leaves + index) index
climbs_from_leaf moment nodes leaves index tournament size power inside quiet =
    let depth : ℕ = power.0 in
    record {
      depth = depth;
      height = 0;
      all = omega (arith, power.1);
      low = omega (arith, power.1);
      high = omega (arith, power.1, inside);
      within = omega (arith, inside);
      edge = index + 1;
      place = omega arith;
      same = skip_node moment nodes leaves (leaves + index) index 0 tournament (omega (arith, inside)) (omega (arith, inside, size)) (omega arith) quiet;
    }

-- the leaves of the node to the right of a left one begin where its own end
pub begins_beside : (moment : ℕ) (nodes : List (Option ℕ)) (leaves node index : ℕ) (climbs : Climbs moment nodes leaves node index) → node % 2 ≡ 0 → BeginsAt leaves (node + 1) climbs.edge
begins_beside moment nodes leaves node index climbs even =
    record {
      depth = climbs.depth;
      height = climbs.height;
      all = climbs.all;
      low = omega (arith, climbs.low);
      high = omega (arith, climbs.high, even);
      place = climbs.place;
    }

-- the level above
parent_all : (leaves depth height : ℕ) → 2 ^ suc depth * 2 ^ height ≡ leaves → 2 ^ depth * 2 ^ suc height ≡ leaves
parent_all leaves depth height all = sym (moved (2 ^ depth) (2 ^ height) (2 ^ suc depth) (2 ^ suc height) (pow-suc 2 depth) (pow-suc 2 height)) ∙ all

parent_place : (node next height : ℕ) → next ≡ 2 * (node / 2 + 1) → next * 2 ^ height ≡ (node / 2 + 1) * 2 ^ suc height
parent_place node next height e = ap (λ n. n * 2 ^ height) e ∙ doubled (node / 2 + 1) (2 ^ height) (2 ^ suc height) (pow-suc 2 height)

-- to the parent, where the leaves behind some edge stand behind the parent's too
climbs_to_parent : (moment : ℕ) (nodes : List (Option ℕ)) (leaves node index next edge depth height : ℕ) → 2 ^ depth * 2 ^ height ≡ leaves → 2 ^ depth ≤ node → node < 2 * 2 ^ depth → node < 2 * leaves → 1 < node → next ≡ 2 * (node / 2 + 1) → leaves + edge ≡ next * 2 ^ height → first_due_from (drop leaves nodes) moment index ≡ first_due_from (drop leaves nodes) moment edge → Climbs moment nodes leaves (node / 2) index
climbs_to_parent moment nodes leaves node index next edge zero height all low high within inner twice place same = absurd (omega (arith, high, inner))
climbs_to_parent moment nodes leaves node index next edge (suc depth) height all low high within inner twice place same =
    record {
      depth = depth;
      height = suc height;
      all = parent_all leaves depth height all;
      low = omega (arith, pow-suc 2 depth, low);
      high = omega (arith, pow-suc 2 depth, high);
      within = omega (arith, within);
      edge = edge;
      place = place ∙ parent_place node next height twice;
      same = same;
    }

pub climbs_from_right : (moment : ℕ) (nodes : List (Option ℕ)) (leaves node index : ℕ) → Climbs moment nodes leaves node index → 1 < node → node % 2 ≢ 0 → Climbs moment nodes leaves (node / 2) index
climbs_from_right moment nodes leaves node index climbs inner odd =
    climbs_to_parent moment nodes leaves node index (node + 1) climbs.edge climbs.depth climbs.height climbs.all climbs.low climbs.high climbs.within inner (omega (arith, odd)) climbs.place climbs.same

pub climbs_from_left : (moment : ℕ) (nodes : List (Option ℕ)) (leaves node index : ℕ) → IsTournament nodes → length nodes ≡ 2 * leaves → Climbs moment nodes leaves node index → 1 < node → node % 2 ≡ 0 → is_due moment (get_or nodes (node + 1) None) ≡ false → Climbs moment nodes leaves (node / 2) index
climbs_from_left moment nodes leaves node index tournament size climbs inner even quiet =
    let w : ℕ = 2 ^ climbs.height in
    let high : node + 1 < 2 * 2 ^ climbs.depth = omega (arith, climbs.high, even) in
    let fits : (node + 1 + 1) * w ≤ length nodes = omega (arith, level_fits (2 ^ climbs.depth) w (node + 1) leaves climbs.all high, size) in
    let skipped = skip_node moment nodes leaves (node + 1) climbs.edge climbs.height tournament (omega arith) fits climbs.place quiet in
    climbs_to_parent moment nodes leaves node index (node + 1 + 1) (climbs.edge + w) climbs.depth climbs.height climbs.all climbs.low climbs.high climbs.within inner (omega (arith, even))
    (omega (arith, climbs.place, one_more w (node + 1))) (climbs.same ∙ skipped)
