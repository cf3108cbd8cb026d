-- The lines of a text, as the octets of its line feeds part it.
use Rattle.std.specs.Prelude.{◌≤◌, ◌+◌, ℕ, List, count_by, take}
use Rattle.script_lines.specs.Script.{is_line_feed}

-- the number, from 1, of the line in which a place of a text is
abbrev pub line_at : List ℕ → ℕ → ℕ
line_at text place = count_by is_line_feed (take place text) + 1

-- a text has one line more than line feeds, and this is the number of one of its lines
abbrev pub IsLineOf : List ℕ → ℕ → Type 0
IsLineOf text line = (1 ≤ line) × (line ≤ count_by is_line_feed text + 1)
