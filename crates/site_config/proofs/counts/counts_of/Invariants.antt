use Rattle.std.proofs.Common.{◌≡◌, ℕ, take}
use Rattle.site_config.specs.Limits.{count_in, count_of}
use Rattle.site_config.proofs.counts.counts_of.Given as goal

abbrev pub invariant-loop-site : goal.invariant-loop-site
invariant-loop-site l = (class : ℕ) → count_in l.counts class ≡ count_of class (take l.site-index l.destinations)
