-- A history is the list of all entries so far, in order. Each stands beside the number of the pass that made it.
use Rattle.std.specs.Prelude.{◌≡◌, ◌≢◌, ℕ, ◌+◌, ◌≤◌, ◌==◌, List, [], ◌∷◌, ◌++◌, if◌then◌else◌}

-- how often a number stands in a list
abbrev pub among : ℕ → List ℕ → ℕ
among n [] = 0
among n (m ∷ ms) = (if m == n then 1 else 0) + among n ms

module _ {E : Type 0} where
  -- the history begins with what was seen
  abbrev pub StartsWith : List (ℕ × E) → List (ℕ × E) → Type 0
  StartsWith log seen = (rest : List (ℕ × E)) × (log ≡ seen ++ rest)

  -- the entries that stand under a number, in order
  abbrev pub entries_under : ℕ → List (ℕ × E) → List E
  entries_under n [] = []
  entries_under n (e ∷ es) = if e.0 == n then (e.1 ∷ entries_under n es) else entries_under n es

  -- calls are a list of numbers, each with a list of entries. The history has, under each of the numbers, just the entries beside it
  abbrev pub Accounts : List (ℕ × E) → List (ℕ × List E) → Type 0
  Accounts log [] = Unit {0}
  Accounts log (c ∷ cs) = (entries_under c.0 log ≡ c.1) × Accounts log cs

  -- how often a number stands among the calls
  abbrev pub times : ℕ → List (ℕ × List E) → ℕ
  times n [] = 0
  times n (c ∷ cs) = (if c.0 == n then 1 else 0) + times n cs

  -- under each number that doesn't stand among the calls the history has no entry
  abbrev pub NoOther : List (ℕ × E) → List (ℕ × List E) → Type 0
  NoOther log calls = (n : ℕ) → times n calls ≡ 0 → entries_under n log ≡ []

  -- no number stands among the calls twice
  abbrev pub IsOnce : List (ℕ × List E) → Type 0
  IsOnce calls = (n : ℕ) → times n calls ≤ 1

  -- the history licenses the mark, where that is not 0
  abbrev pub Licensed : (List (ℕ × E) → ℕ → Type 0) → List (ℕ × E) → ℕ → Type 0
  Licensed licenses log mark = mark ≢ 0 → licenses log mark
