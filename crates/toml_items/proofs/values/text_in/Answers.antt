use Rattle.std.proofs.Common.{◌≡◌, ℕ, ◌<◌, List, length, None, Err, ap, ◌∙◌, arith}
use Rattle.std.proofs.lemmas.Bool.Decides.{nat_tests}
use Rattle.toml_items.specs.Values.{◌>>=◌, short_text}
use Rattle.toml_items.proofs.values.text_in.Goals as goal

long_text : (text : List ℕ) (n : ℕ) → (n ≡ length text) × (256 < n) → None ≡ short_text text
long_text text n h = grind (arith, nat_tests)

pub returns-in-Err-TooLong : goal.returns-in-Err-TooLong
returns-in-Err-TooLong c =
    let long = (c.in-Err-TooLong.ensures.too_long c.in-Err-TooLong.field-0-0).0 (ap Err c.in-Err-TooLong.field-0-is) in
    record { text = long_text c.in-Some.source.now c.in-Err-TooLong.field-0-0 long ∙ ap (λ found. found >>= short_text) c.in-Some.ensures }
