-- The lines of a script, and how they are taken one after the other.
use Rattle.std.specs.Prelude.{◌≡◌, ◌⊎◌, ℕ, ◌+◌, ◌==◌, Bool, List, [], ◌∷◌, ◌++◌, length, Option, Some, None, Result, Ok, Err, if◌then◌else◌}
use Rattle.std.specs.List.{onto_first}
use Rattle.script_lines.specs.declared.lines.LineFault.{LineFault}
use Rattle.script_lines.specs.declared.lines.LineFault.TheVariants.{Read, NoMemory}
use Rattle.script_lines.specs.declared.lines.LineFault.TheVariants as line_fault
use Rattle.script_lines.specs.declared.line.Says.{Says}
use Rattle.script_lines.specs.declared.line.Says.TheVariants.{Skipped, Outside, Spells}

abbrev pub is_line_feed : ℕ → Bool
is_line_feed c = c == 10

-- the lines of a text; each ends with a line feed, and the last may lack it
abbrev pub lines_of : List ℕ → List (List ℕ)
lines_of [] = []
lines_of (c ∷ cs) = if is_line_feed c then [] ∷ lines_of cs else onto_first c (lines_of cs)

-- what comes next in a script: its end, and how many lines it has; a line outside the grammar, by its number; or a line, with its number, and the lines behind it
pub data Next (L : Type 0) : Type 0 where
  AtEnd : ℕ → Next L
  Refuses : ℕ → Next L
  Gives : ℕ → L → List (List ℕ) → Next L

-- what comes next, from what the first line says, its number, the lines behind it, and what comes next there
abbrev pub next_by : {L : Type 0} → Says L → ℕ → List (List ℕ) → Next L → Next L
next_by Skipped number behind next = next
next_by Outside number behind next = Refuses number
next_by (Spells line) number behind next = Gives number line behind

-- what comes next in these lines of a script, by what a line says, behind so many others
abbrev pub next_in : {L : Type 0} → (ℕ → List ℕ → Says L) → ℕ → List (List ℕ) → Next L
next_in says number [] = AtEnd number
next_in says number (text ∷ behind) = next_by (says (number + 1) text) (number + 1) behind (next_in says (number + 1) behind)

-- nothing, or octets that end with a line feed
abbrev pub IsWholeLines : List ℕ → Type 0
IsWholeLines octets = (octets ≡ []) ⊎ ((front : List ℕ) × (octets ≡ front ++ 10 ∷ []))

-- so many whole lines were taken off the octets
pub record TakesLines (before now : ℕ) (old new : List ℕ) : Type 0 where
  pub taken : List ℕ
  pub whole : IsWholeLines taken
  pub front : old ≡ taken ++ new
  pub count : before + length (lines_of taken) ≡ now

-- what a reading says of the octets before and after it, and of how many lines were read before and after it, by what a line says
abbrev pub ReadsLine : {L : Type 0} → (ℕ → List ℕ → Says L) → ℕ → ℕ → Result (Option L) LineFault → List ℕ → List ℕ → Type 0
ReadsLine says before now (Ok None) old new = (next_in says before (lines_of old) ≡ AtEnd now) × (new ≡ [])
ReadsLine says before now (Ok (Some line)) old new = next_in says before (lines_of old) ≡ Gives now line (lines_of new)
ReadsLine says before now (Err (line_fault.Grammar line)) old new = (next_in says before (lines_of old) ≡ Refuses line) × (next_in says now (lines_of new) ≡ Refuses line)
ReadsLine says before now (Err Read) old new = next_in says now (lines_of new) ≡ next_in says before (lines_of old)
ReadsLine says before now (Err NoMemory) old new = next_in says now (lines_of new) ≡ next_in says before (lines_of old)
