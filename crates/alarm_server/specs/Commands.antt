-- The forms of the words.
use Rattle.std.specs.Prelude.{◌-◌, ◌^◌, ℕ, Bool, false, Option, Some, None, option_and_then, List, [], ◌∷◌, if◌then◌else◌, codes}
use Rattle.std.specs.Str.{bytes_eq}
use Rattle.script_lines.specs.Number.{unsigned_of}
use Rattle.alarm_server.specs.declared.command.Command.{Command}
use Rattle.alarm_server.specs.declared.command.Command.TheVariants.{Trial, Session, Workload, Ship, Standby}
use Rattle.alarm_server.specs.declared.settings.Settings.{Settings}
use Rattle.alarm_server.specs.Settings.{settings_of}

infixl 10 ◌>>=◌
abbrev ◌>>=◌ : {A B : Type 0} → Option A → (A → Option B) → Option B
o >>= f = option_and_then f o

-- whether the words are `session SITE JOURNAL`
abbrev pub is_session : List (List ℕ) → Bool
is_session (session ∷ site ∷ journal ∷ []) = bytes_eq session (codes "session")
is_session _ = false

-- a workload may have so many lines
abbrev pub most_lines : ℕ
most_lines = 20_000

abbrev pub workload_from : List ℕ → List ℕ → Option Command
workload_from seed count = do
  seed ← unsigned_of (2 ^ 64 - 1) seed
  count ← unsigned_of most_lines count
  Some (Workload seed count)

-- what the words `workload SEED COUNT` ask for
abbrev pub workload_of : List (List ℕ) → Option Command
workload_of (workload ∷ seed ∷ count ∷ []) = if bytes_eq workload (codes "workload") then workload_from seed count else None
workload_of _ = None

abbrev pub ship_from : List ℕ → Option Command
ship_from from = do
  from ← unsigned_of (2 ^ 64 - 1) from
  Some (Ship from)

-- what the words `ship SITE JOURNAL FROM` ask for
abbrev pub ship_of : List (List ℕ) → Option Command
ship_of (ship ∷ site ∷ journal ∷ from ∷ []) = if bytes_eq ship (codes "ship") then ship_from from else None
ship_of _ = None

-- what the words `standby SITE JOURNAL` ask for
abbrev pub standby_of : List (List ℕ) → Option Command
standby_of (standby ∷ site ∷ journal ∷ []) = if bytes_eq standby (codes "standby") then Some Standby else None
standby_of _ = None

-- the first of two commands that is there
abbrev pub command_or : Option Command → Option Command → Option Command
command_or (Some command) other = Some command
command_or None other = other

abbrev pub command_by : Option Settings → Bool → Option Command → Option Command
command_by (Some settings) session others = Some (Trial settings)
command_by None session others = if session then Some Session else others

-- what the words ask for: a trial, a session, a workload, what is shipped, or a standby; none where they are of no form
abbrev pub command_of : List (List ℕ) → Option Command
command_of words = command_by (settings_of words) (is_session words) (command_or (workload_of words) (command_or (ship_of words) (standby_of words)))
