use Rattle.std.proofs.Common.{◌≡◌, Some, ap, ◌∙◌}
use Rattle.toml.specs.Data.{as_array}
use Rattle.toml.specs.View.{view, items_view}
use Rattle.toml_items.specs.Lists.{three_of}
use Rattle.toml_items.specs.Values.{◌>>=◌, unsigned_in}
use Rattle.toml_items.proofs.Fronts.{fewer_than_three, more_than_three}
use Rattle.toml_items.proofs.lists.three_octets_in.Goals as goal

pub returns-in_default : goal.returns-in_default
returns-in_default c =
    let e : Some (items_view c.as_slice.result.now) ≡ as_array (view c.args.value.now) = rw c.as_slice.ensures.value c.in_ok-as_array.ensures in
    record { octets = fewer_than_three (unsigned_in 0 255) c.as_slice.result.now c.in_default.len_below ∙ ap (λ found. found >>= three_of (unsigned_in 0 255)) e }

pub returns-in_default-2 : goal.returns-in_default-2
returns-in_default-2 c =
    let e : Some (items_view c.as_slice.result.now) ≡ as_array (view c.args.value.now) = rw c.as_slice.ensures.value c.in_ok-as_array.ensures in
    record { octets = more_than_three (unsigned_in 0 255) c.as_slice.result.now c.in_default.len_at_least ∙ ap (λ found. found >>= three_of (unsigned_in 0 255)) e }
