-- How the counts of two sources move.
use Rattle.std.specs.Prelude.{◌⊎◌, ◌≤◌, ℕ}
use Rattle.ground_io.specs.Counts.{Rose}

-- neither count falls, and a fault is answered only where one of them rose
pub record HasCauseInEither (site site_now script script_now : ℕ) (Fault : Type 0) : Type 0 where
  pub site_later : site ≤ site_now
  pub script_later : script ≤ script_now
  pub rose : Fault → Rose site site_now ⊎ Rose script script_now
