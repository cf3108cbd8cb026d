-- The digits of a line of packets.
use Rattle.std.proofs.Common.{◌≤◌, ℕ, List, length, arith}
use Rattle.std.proofs.lemmas.Grind.{common_steps}
use Rattle.script_lines.specs.Words.{other_words}

-- what follows the first blank of a text is no longer than the text
pub others_within : (text : List ℕ) → length (other_words text) ≤ length text
others_within text = grind (arith, common_steps)
