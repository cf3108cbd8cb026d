-- Numbers that are drawn from a seed.
use Rattle.std.specs.Prelude.{ℕ, ◌+◌, ◌*◌, ◌/◌, ◌%◌, ◌^◌}

-- what a draw makes of the seed
abbrev pub next_seed : ℕ → ℕ
next_seed seed = (seed * 6_364_136_223_846_793_005 + 1_442_695_040_888_963_407) % 2 ^ 64

-- the number below a limit that a draw gives which made this seed
abbrev pub drawn : ℕ → ℕ → ℕ
drawn seed limit = seed / 2 ^ 33 % limit
