-- Reading the parameters of a service: the value and the place after it, or the first refusal.
use Rattle.std.specs.Prelude.{ℕ, ◌==◌, nat_lt, if◌then◌else◌, Option, Some, None, List, length, Result, Ok, Err}
use Rattle.bac_tags.specs.declared.fault.TagFault.{TagFault}
use Rattle.bac_tags.specs.declared.fault.TagFault.TheVariants.{Truncated, WrongTag, BadLength, NoMemory}
use Rattle.bac_tags.specs.declared.malformed.Malformed.{Malformed}
use Rattle.bac_tags.specs.ReadingSteps.{◌>>=◌}
use Rattle.bac_tags.specs.Refusals.{invalid_tag, missing_parameter, too_many_arguments}

-- what a reader of elements refuses is no parameter
abbrev pub or_invalid : {X : Type 0} → ℕ → Result X TagFault → Result X Malformed
or_invalid place (Ok x) = Ok x
or_invalid place (Err fault) = Err (invalid_tag place)

-- a parameter that has to be there, given what the reader of its element answers at the place
abbrev pub required : {X : Type 0} → List ℕ → ℕ → Result X TagFault → Result X Malformed
required input place read = if nat_lt place (length input) then or_invalid place read else Err (missing_parameter (length input))

-- a parameter that may be absent is so where another whole tag stands in place of its own
abbrev pub or_absent : {X : Type 0} → ℕ → Result (X × ℕ) TagFault → Result (Option X × ℕ) Malformed
or_absent place (Ok x) = Ok (Some x.0, x.1)
or_absent place (Err (WrongTag other)) = if other == place then Ok (None, place) else Err (invalid_tag place)
or_absent place (Err (Truncated end)) = Err (invalid_tag place)
or_absent place (Err (BadLength wrong)) = Err (invalid_tag place)
or_absent place (Err NoMemory) = Err (invalid_tag place)

-- and where the octets end
abbrev pub optional : {X : Type 0} → List ℕ → ℕ → Result (X × ℕ) TagFault → Result (Option X × ℕ) Malformed
optional input place read = if nat_lt place (length input) then or_absent place read else Ok (None, place)

-- the last parameter ends where the octets do
abbrev pub nothing_follows : List ℕ → ℕ → Result (Unit {0}) Malformed
nothing_follows input place = if nat_lt place (length input) then Err (too_many_arguments place) else Ok tt

-- what is read and nothing else
abbrev pub whole : {X : Type 0} → List ℕ → Result (X × ℕ) Malformed → Result X Malformed
whole input read = do
  x ← read
  _ ← nothing_follows input x.1
  Ok x.0
