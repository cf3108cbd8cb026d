-- The words of a line, and its moment.
use Rattle.std.specs.Prelude.{ℕ, ◌==◌, nat_le, Option, Some, None, option_and_then, List, if◌then◌else◌}
use Rattle.std.specs.List.{before_first, after_first}
use Rattle.bac_values.specs.Moments.{first_moment, last_moment}
use Rattle.script_lines.specs.Number.{unsigned_of}

-- a word ends at a blank, which is 32
abbrev pub first_word : List ℕ → List ℕ
first_word text = before_first (λ c. c == 32) text

-- what follows the first blank, or nothing
abbrev pub other_words : List ℕ → List ℕ
other_words text = after_first (λ c. c == 32) text

-- a moment in range, in milliseconds since 1970
abbrev pub moment_of : List ℕ → Option ℕ
moment_of text = option_and_then (λ m. if nat_le first_moment m then Some m else None) (unsigned_of last_moment text)
