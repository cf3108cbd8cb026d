-- Whether octets are UTF-8, as a test.
use Rattle.std.proofs.Common.{◌≡◌, inl, inr, ℕ, true, false, List}
use Rattle.std.specs.Str.{IsUtf8, is_utf8}
use Rattle.std.proofs.lemmas.Bool.{cases_Bool}
use Rattle.std.proofs.lemmas.Str.{IsUtf8-from_is_utf8, is_utf8-from_IsUtf8}

pub passes_utf8 : (octets : List ℕ) → IsUtf8 octets → is_utf8 octets ≡ true
passes_utf8 octets h = is_utf8-from_IsUtf8 octets h

pub fails_utf8 : (octets : List ℕ) → (IsUtf8 octets → ⊥) → is_utf8 octets ≡ false
fails_utf8 octets h =
    elim (cases_Bool (is_utf8 octets)) [
      | inl passes ↦ absurd (h (IsUtf8-from_is_utf8 octets passes))
      | inr fails ↦ fails
    ]
