-- The value of a text's octets, and where a text gets no memory.
use Rattle.std.proofs.Common.{◌≡◌, ℕ, ◌≤◌, true, List, length, Ok, refl, sym, ap, ◌∙◌}
use Rattle.std.specs.Prelude.{IsUtf8, IsOkAnd}
use Rattle.std.specs.Str.{is_utf8}
use Rattle.std.proofs.lemmas.Bool.{le-ltb, false_from_ne_true}
use Rattle.std.proofs.lemmas.Str.{is_utf8-from_IsUtf8, IsUtf8-from_is_utf8}
use Rattle.bac_values.specs.declared.value.Value.TheVariants as values
use Rattle.bac_values.specs.declared.value.Foreign.TheVariants.{NotUtf8}
use Rattle.bac_tags.specs.Values.{has_length}
use Rattle.bac_tags.specs.ReadingSteps.{octets_at, application_at, characters_in, text_in, value_in, value_at, IsText}

pub is_text : (octets : List ℕ) → length octets ≤ 256 → IsUtf8 octets → characters_in octets ≡ values.Text octets
is_text octets short utf8 = rw (le-ltb 256 (length octets) short, is_utf8-from_IsUtf8 octets utf8) refl

pub no_text : (octets : List ℕ) → length octets ≤ 256 → ¬ IsUtf8 octets → characters_in octets ≡ values.Opaque 7 NotUtf8
no_text octets short not_utf8 =
    rw (le-ltb 256 (length octets) short, false_from_ne_true (is_utf8 octets) (λ e. not_utf8 (IsUtf8-from_is_utf8 octets e))) refl

-- a value that is a text is read there
pub text_at : (input : List ℕ) (place type n start : ℕ) (content : List ℕ) → application_at input place ≡ Ok (type, n, start) → has_length type n ≡ true → type ≡ 7 → octets_at input start n ≡ Ok content → IsText (text_in content)
    → IsOkAnd (value_at input place) (λ x. IsText x.0)
unfolding value_at value_in
text_at input place type n start content a h e o text =
    let a7 : application_at input place ≡ Ok (7, n, start) = a ∙ ap (λ (t : ℕ). Ok (t, n, start)) e in
    let h7 : has_length 7 n ≡ true = sym (ap (λ (t : ℕ). has_length t n) e) ∙ h in
    rw (a7, h7, o) text
