-- The first key of a map that isn't known is the first of its members.
use Rattle.std.proofs.Common.{◌≡◌, ℕ, Bool, true, false, not, List, [], ◌∷◌, Option, Some, None, option_map, String, Global, string_bytes, cond, Bor, refl, ap, ◌∙◌}
use Rattle.std.specs.List.{find}
use Rattle.std.specs.Map.{keys_of}
use Rattle.std.specs.Option.{option_copied}
use Rattle.toml.specs.declared.value.Value.{Value}
use Rattle.toml.specs.View.{members_view}
use Rattle.toml_items.specs.Members.{first_unknown}

one_more : (t : Bool) (k : String Global) (rest : Option (String Global)) (r : Option (List ℕ)) → option_map string_bytes rest ≡ r
    → option_map string_bytes (cond (not t) (Some k) rest) ≡ cond t r (Some (string_bytes k))
one_more true k rest r e = e
one_more false k rest r e = refl

pub first_unknown_find : (known : List ℕ → Bool) (es : List (String Global × Value)) → option_map string_bytes (find (λ k. not (known (string_bytes k))) (keys_of es)) ≡ first_unknown known (members_view es)
first_unknown_find known [] = refl
first_unknown_find known (e ∷ es) = one_more (known (string_bytes e.0)) e.0 _ _ (first_unknown_find known es)

bytes_of_copied : (r : Option (Bor (String Global))) → option_map (λ k. string_bytes k.now) r ≡ option_map string_bytes (option_copied r)
bytes_of_copied None = refl
bytes_of_copied (Some k) = refl

-- the octets of the key that was found
pub unknown_bytes : (r : Option (Bor (String Global))) (known : List ℕ → Bool) (es : List (String Global × Value)) → option_copied r ≡ find (λ k. not (known (string_bytes k))) (keys_of es)
    → option_map (λ k. string_bytes k.now) r ≡ first_unknown known (members_view es)
unknown_bytes r known es found = bytes_of_copied r ∙ (ap (option_map string_bytes) found ∙ first_unknown_find known es)
