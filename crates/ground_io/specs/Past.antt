-- What a ground in memory keeps of its past, and what that tells.
use Rattle.std.specs.Prelude.{ℕ, List, [], ◌∷◌, Option, Some, None, unwrap_or}
use Rattle.ground_io.specs.Trace.{Told, Adds}
use Rattle.ground_io.specs.InMemory.{AreTold}
use Rattle.ground_io.specs.declared.entry.Entry.{Entry}
use Rattle.ground_io.specs.declared.past.Past.{Past}

-- what it tells, where these are the contents now; those that were first still stand where none were put aside
abbrev pub told_of : Option Past → List ℕ → Option Told
told_of None contents = None
told_of (Some past) contents = Some (record { first = unwrap_or past.first contents; trace = past.entries.items })

-- an entry came, and the contents are these now; what is told goes on with it, or nothing is told any more
pub record GoesOn (old new : Option Past) (contents now : List ℕ) (entry : Entry) : Type 0 where
  pub told : Adds (told_of old contents) (told_of new now) (entry ∷ [])
  pub kept : AreTold contents (told_of old contents) → AreTold now (told_of new now)
