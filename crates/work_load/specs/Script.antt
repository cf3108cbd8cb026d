-- The workload's script: so many lines, which are drawn from a seed. A line comes a second after the one before it.
use Rattle.std.specs.Prelude.{ℕ, ◌+◌, ◌*◌, ◌/◌, ◌%◌, ◌==◌, ◌||◌, zero, suc, Bool, List, [], ◌++◌, codes, if◌then◌else◌, ℤ, pos, ◌-ℤ◌}
use Rattle.std.specs.Fmt.{decimal, signed_decimal}
use Rattle.work_load.specs.declared.kind.Kind.{Kind}
use Rattle.work_load.specs.declared.kind.Kind.TheVariants.{Integer, PositiveInteger, Binary, MultiState, BitString, CharacterString}
use Rattle.work_load.specs.declared.line_kind.LineKind.{LineKind}
use Rattle.work_load.specs.declared.line_kind.LineKind.TheVariants.{Pump, Request, Tick, Set}
use Rattle.work_load.specs.Draws.{drawn, next_seed}
use Rattle.work_load.specs.Kinds.{kind_at, kind_name}
use Rattle.work_load.specs.Lines.{line_kind_at}

-- one of four texts: ok, fire 2, leak and fan, in hexadecimal digits
abbrev pub word_at : ℕ → List ℕ
word_at place =
    if place == 0 then codes "6f6b"
    else (if place == 1 then codes "666972652032"
    else (if place == 2 then codes "6c65616b"
    else codes "66616e"))

-- four bits of a number, the highest first
abbrev pub digits_of : ℕ → List ℕ
digits_of number = decimal (number / 8 % 2) ++ (decimal (number / 4 % 2) ++ (decimal (number / 2 % 2) ++ decimal (number % 2)))

-- an integer value: ten less than what was drawn
abbrev pub signed_text : ℕ → List ℕ
signed_text number = codes "signed:" ++ signed_decimal (pos number -ℤ pos 10)

-- the value to which an object of a kind is set, from the seed of its draw
abbrev pub value_text : Kind → ℕ → List ℕ
value_text Integer seed = signed_text (drawn seed 121)
value_text PositiveInteger seed = codes "unsigned:" ++ decimal (drawn seed 121)
value_text Binary seed = if drawn seed 2 == 1 then codes "active" else codes "inactive"
value_text MultiState seed = codes "unsigned:" ++ decimal (1 + drawn seed 4)
value_text BitString seed = codes "bits:" ++ digits_of (drawn seed 16)
value_text CharacterString seed = codes "text:" ++ word_at (drawn seed 4)

-- an object is set to a value
abbrev pub set_to : ℕ → ℕ → List ℕ → List ℕ
set_to moment instance value =
    codes "set " ++ (decimal moment ++ (codes " " ++ (kind_name (kind_at instance) ++ (codes ":" ++ (decimal instance ++ (codes " " ++ (value ++ codes "\n")))))))

-- the object and its value are drawn, one after the other
abbrev pub set_text : ℕ → ℕ → List ℕ
set_text moment seed =
    let instance = drawn (next_seed seed) 40 in
    set_to moment instance (value_text (kind_at instance) (next_seed (next_seed seed)))

-- the moment of a line
abbrev pub moment_at : ℕ → ℕ
moment_at number = 1_700_000_000_000 + 1000 * number

-- a line that does this
abbrev pub line_by : LineKind → ℕ → ℕ → List ℕ
line_by Pump moment seed = codes "pump " ++ (decimal moment ++ codes "\n")
line_by Request moment seed = codes "from " ++ (decimal moment ++ codes " 10.1.0.9:47808 810a000a01040005011d\n")
line_by Tick moment seed = codes "tick " ++ (decimal moment ++ codes "\n")
line_by Set moment seed = set_text moment seed

-- the line with a number
abbrev pub line_text : ℕ → ℕ → List ℕ
line_text number seed = line_by (line_kind_at number) (moment_at number) seed

-- the seed behind a line: an object and its value are drawn for each that sets one
abbrev pub seed_by : LineKind → ℕ → ℕ
seed_by Pump seed = seed
seed_by Request seed = seed
seed_by Tick seed = seed
seed_by Set seed = next_seed (next_seed seed)

abbrev pub seed_behind : ℕ → ℕ → ℕ
seed_behind number seed = seed_by (line_kind_at number) seed

-- so many lines from a number on
unfoldable pub lines_from : ℕ → ℕ → ℕ → List ℕ
lines_from number seed zero = []
lines_from number seed (suc count) = line_text number seed ++ lines_from (number + 1) (seed_behind number seed) count

-- the whole script
abbrev pub workload_script : ℕ → ℕ → List ℕ
workload_script seed count = lines_from 1 seed count
