-- Which octets are a text.
use Rattle.std.proofs.Common.{◌≡◌, ℕ, ◌≤◌, Some, None, List, length, refl}
use Rattle.std.specs.Prelude.{IsUtf8}
use Rattle.std.specs.Str.{is_utf8}
use Rattle.std.proofs.lemmas.Bool.{le-leb, false_from_ne_true}
use Rattle.std.proofs.lemmas.Str.{is_utf8-from_IsUtf8, IsUtf8-from_is_utf8}
use Rattle.state_codec.specs.ReadingSteps.{text_of}

pub is_text : (octets : List ℕ) → length octets ≤ 256 → IsUtf8 octets → text_of octets ≡ Some octets
is_text octets short utf8 = rw (le-leb (length octets) 256 short, is_utf8-from_IsUtf8 octets utf8) refl

pub no_text : (octets : List ℕ) → length octets ≤ 256 → ¬ IsUtf8 octets → text_of octets ≡ None
no_text octets short not_utf8 =
    rw (le-leb (length octets) 256 short, false_from_ne_true (is_utf8 octets) (λ e. not_utf8 (IsUtf8-from_is_utf8 octets e))) refl
