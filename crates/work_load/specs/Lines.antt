-- What the lines of the workload's script do.
use Rattle.std.specs.Prelude.{ℕ, ◌==◌, ◌%◌, if◌then◌else◌}
use Rattle.work_load.specs.declared.line_kind.LineKind.{LineKind}
use Rattle.work_load.specs.declared.line_kind.LineKind.TheVariants.{Pump, Request, Tick, Set}

-- of eight lines, the third is a pump, the fifth a request, the seventh a tick, and the other five set an object
unfoldable pub line_kind_at : ℕ → LineKind
line_kind_at number =
    if number % 8 == 3 then Pump
    else (if number % 8 == 5 then Request
    else (if number % 8 == 7 then Tick
    else Set))
