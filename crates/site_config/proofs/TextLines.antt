-- A place of a text is in one of its lines.
use Rattle.std.proofs.Common.{ℕ, cond, List, arith}
use Rattle.std.proofs.lemmas.List.Sums.{sum_by-take-le}
use Rattle.script_lines.specs.Script.{is_line_feed}
use Rattle.site_config.specs.TextLines.{line_at, IsLineOf}

pub line_is_of : (text : List ℕ) (place : ℕ) → IsLineOf text (line_at text place)
line_is_of text place =
    let fewer = sum_by-take-le (λ octet. cond (is_line_feed octet) 1 0) text place in
    (omega arith, omega (arith, fewer))
