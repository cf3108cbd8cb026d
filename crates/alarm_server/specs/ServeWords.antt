-- The words of a server: how many datagrams it takes.
use Rattle.std.specs.Prelude.{ℕ, ◌==◌, Option, Some, None, option_and_then, List, [], ◌∷◌, if◌then◌else◌, codes}
use Rattle.std.specs.Str.{bytes_eq}
use Rattle.script_lines.specs.Number.{unsigned_of}

-- a server takes so many datagrams at most
abbrev pub most_datagrams : ℕ
most_datagrams = 1_000_000

-- and one at least
abbrev pub at_least_one : ℕ → Option ℕ
at_least_one count = if count == 0 then None else Some count

-- how many datagrams the words `serve SITE JOURNAL COUNT` ask for, where they do
abbrev pub count_in : List (List ℕ) → Option ℕ
count_in (serve ∷ site ∷ journal ∷ count ∷ []) = if bytes_eq serve (codes "serve") then option_and_then at_least_one (unsigned_of most_datagrams count) else None
count_in _ = None
