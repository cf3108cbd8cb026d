-- How far a reader of lines has come.
use Rattle.std.specs.Prelude.{ℕ, Bool, List, Option}
use Rattle.std.specs.Io.KnownBytes.{prepend_known}
use Rattle.script_lines.specs.declared.line.Grammar.{Grammar}

-- the grammar, the octets that were read and not given out, how many lines were read, skipped ones counted, and whether the source's end was seen
pub record LinesState : Type 0 where
  pub grammar : Grammar
  pub pending : List ℕ
  pub number : ℕ
  pub ended : Bool

-- the octets that are to come, where the source tells what it has left
abbrev pub octets_to_come : LinesState → Option (List ℕ) → Option (List ℕ)
octets_to_come reading left = prepend_known reading.pending left
