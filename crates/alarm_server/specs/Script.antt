-- What all lines of a script spell, by what a line says.
use Rattle.std.specs.Prelude.{ℕ, ◌+◌, Option, Some, None, List, [], ◌∷◌}
use Rattle.script_lines.specs.declared.line.Says.{Says}
use Rattle.script_lines.specs.declared.line.Says.TheVariants.{Skipped, Outside, Spells}
use Rattle.script_lines.specs.Script.{lines_of}

-- from what a line says, and what those behind it spell
abbrev pub spelled_by : {L : Type 0} → Says L → List L → List L
spelled_by Skipped behind = behind
spelled_by Outside behind = []
spelled_by (Spells line) behind = line ∷ behind

-- the lines that texts spell, behind so many others: skipped ones are left out, and nothing counts from one on that is outside the grammar
unfoldable pub spelled_in : {L : Type 0} → (ℕ → List ℕ → Says L) → ℕ → List (List ℕ) → List L
spelled_in says number [] = []
spelled_in says number (text ∷ behind) = spelled_by (says (number + 1) text) (spelled_in says (number + 1) behind)

-- from what a line says, its number, and the first refusal behind it
abbrev pub refused_by : {L : Type 0} → Says L → ℕ → Option ℕ → Option ℕ
refused_by Skipped number behind = behind
refused_by Outside number behind = Some number
refused_by (Spells line) number behind = behind

-- the number of the first text outside the grammar, behind so many others
unfoldable pub refused_in : {L : Type 0} → (ℕ → List ℕ → Says L) → ℕ → List (List ℕ) → Option ℕ
refused_in says number [] = None
refused_in says number (text ∷ behind) = refused_by (says (number + 1) text) (number + 1) (refused_in says (number + 1) behind)

-- the number of the first line of a script that is outside the grammar
abbrev pub refused_line : {L : Type 0} → (ℕ → List ℕ → Says L) → List ℕ → Option ℕ
refused_line says script = refused_in says 0 (lines_of script)
