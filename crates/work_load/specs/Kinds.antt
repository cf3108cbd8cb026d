-- The kinds of the workload's objects.
use Rattle.std.specs.Prelude.{ℕ, ◌==◌, ◌%◌, List, codes, if◌then◌else◌}
use Rattle.work_load.specs.declared.kind.Kind.{Kind}
use Rattle.work_load.specs.declared.kind.Kind.TheVariants.{Integer, PositiveInteger, Binary, MultiState, BitString, CharacterString}

-- the six kinds in turn, by the object's instance
unfoldable pub kind_at : ℕ → Kind
kind_at instance =
    if instance % 6 == 0 then Integer
    else (if instance % 6 == 1 then PositiveInteger
    else (if instance % 6 == 2 then Binary
    else (if instance % 6 == 3 then MultiState
    else (if instance % 6 == 4 then BitString
    else CharacterString))))

abbrev pub kind_name : Kind → List ℕ
kind_name Integer = codes "integer-value"
kind_name PositiveInteger = codes "positive-integer-value"
kind_name Binary = codes "binary-value"
kind_name MultiState = codes "multi-state-value"
kind_name BitString = codes "bitstring-value"
kind_name CharacterString = codes "characterstring-value"
