-- How the parameter of GetEventInformation is read.
use Rattle.std.specs.Prelude.{ℕ, Option, Some, List, Result, Ok}
use Rattle.bac_values.specs.Identifier.{ObjectIdData}
use Rattle.bac_tags.specs.ReadingSteps.{object_at, ◌>>=◌}
use Rattle.bac_tags.specs.declared.malformed.Malformed.{Malformed}
use Rattle.bac_tags.specs.ParameterReadingSteps.{optional, nothing_follows}

unfoldable pub information_request_of : List ℕ → Result (Option ObjectIdData) Malformed
information_request_of input = do
  object ← optional input 0 (object_at input 0 (Some 0))
  nothing ← nothing_follows input object.1
  Ok object.0
