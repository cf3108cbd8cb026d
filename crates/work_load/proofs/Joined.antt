-- Texts one behind the other.
use Rattle.std.proofs.Common.{◌≡◌, ℕ, List, ◌++◌}

pub joined : {front front' behind behind' : List ℕ} → front ≡ front' → behind ≡ behind' → front ++ behind ≡ front' ++ behind'
joined first second = cc
