-- How timers are kept: the leaves of a tournament, whose inner nodes hold the earlier moment of the two below them.
use Rattle.std.specs.Prelude.{◌≡◌, ℕ, ◌+◌, ◌-◌, ◌*◌, ◌^◌, ◌<◌, ◌≤◌, Option, None, List, length, drop, replicate, slice_index_or}
use Rattle.std.specs.Int.{IsPowerOfTwo}
use Rattle.held_timers.specs.Dues.{earlier}

-- below node k stand the nodes 2 k and 2 k + 1; node 1 is the top, and node 0 isn't used
abbrev pub IsTournament : List (Option ℕ) → Type 0
IsTournament nodes =
    (k : ℕ) → 0 < k → 2 * k + 1 < length nodes → slice_index_or nodes k None ≡ earlier (slice_index_or nodes (2 * k) None) (slice_index_or nodes (2 * k + 1) None)

-- the last nodes are the leaves, one for each index and further ones that have no moment
pub record HoldsTimers (count leaves : ℕ) (nodes : List (Option ℕ)) : Type 0 where
  pub power : IsPowerOfTwo leaves
  pub enough : count ≤ leaves
  pub size : length nodes ≡ 2 * leaves
  pub tournament : IsTournament nodes
  pub unused : drop count (drop leaves nodes) ≡ replicate (leaves - count) None

-- the leaves below a node are those from an index on: the node is one of 2 ^ depth on its level, and 2 ^ height leaves stand below each of these
pub record BeginsAt (leaves node index : ℕ) : Type 0 where
  pub depth : ℕ
  pub height : ℕ
  pub all : 2 ^ depth * 2 ^ height ≡ leaves
  pub low : 2 ^ depth ≤ node
  pub high : node < 2 * 2 ^ depth
  pub place : leaves + index ≡ node * 2 ^ height
