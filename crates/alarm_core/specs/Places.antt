-- Where the one item that is wanted stands.
use Rattle.std.specs.Prelude.{◌≡◌, ◌≢◌, ℕ, ◌<◌, Bool, true, false, List, length, slice_index_or}

-- the item at the place passes a test, and no other does
pub record IsAt {X : Type 0} (test : X → Bool) (xs : List X) (place : ℕ) : Type 0 where
  pub within : place < length xs
  pub here : (d : X) → test (slice_index_or xs place d) ≡ true
  pub others : (k : ℕ) (d : X) → k < length xs → k ≢ place → test (slice_index_or xs k d) ≡ false
