-- Where a value stands among octets.
use Rattle.std.specs.Prelude.{◌≡◌, ℕ, ◌+◌, List, ◌++◌, length, drop}

-- octets that spell the value stand at the place, whatever follows them, and `end` is the place after them
pub record IsSpelledAt {X : Type 0} (Spells : List ℕ → X → Type 0) (input : List ℕ) (place : ℕ) (value : X) (end : ℕ) : Type 0 where
  pub octets : List ℕ
  pub rest : List ℕ
  pub spelled : Spells octets value
  pub there : drop place input ≡ octets ++ rest
  pub ends : end ≡ place + length octets
