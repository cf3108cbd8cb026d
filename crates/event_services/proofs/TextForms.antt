-- The text of a content.
use Rattle.std.proofs.Common.{◌≡◌, ℕ, ◌-◌, ◌≤◌, Bool, cond, eqb, ◌&&◌, Some, None, List, [], ◌∷◌, length, get_or, take, drop, Ok, Err, refl, sym, ap, ◌∙◌, arith}
use Rattle.std.specs.Prelude.{IsUtf8, nat_le}
use Rattle.std.specs.Str.{is_utf8}
use Rattle.std.proofs.lemmas.Bool.{eq-eqb, le-leb, and_from, and_right, false_from_ne_true}
use Rattle.std.proofs.lemmas.List.{take_all, length-drop}
use Rattle.std.proofs.lemmas.Str.{is_utf8-from_IsUtf8, IsUtf8-from_is_utf8}
use Rattle.bac_tags.specs.declared.fault.TagFault.{TagFault}
use Rattle.bac_tags.specs.declared.fault.TagFault.TheVariants.{BadLength}
use Rattle.bac_tags.specs.ReadingSteps.{content_at}
use Rattle.event_services.specs.NoteReadingSteps.{text_of, text_at}

-- the octets behind the first one
pub rest_is : (content : List ℕ) → take (length content - 1) (drop 1 content) ≡ drop 1 content
rest_is content = take_all (length content - 1) (drop 1 content) (omega (arith, length-drop 1 content))

text_here : (set : ℕ) (text : List ℕ) → set ≡ 0 → length text ≤ 256 → IsUtf8 text → text_of (set ∷ text) ≡ Some text
text_here set text zero short utf8 =
    ap (λ (b : Bool). cond b (Some text) None) (and_from (eqb set 0 && nat_le (length text) 256) (is_utf8 text) (and_from (eqb set 0) (nat_le (length text) 256) (eq-eqb set 0 zero) (le-leb (length text) 256 short)) (is_utf8-from_IsUtf8 text utf8))

no_text_here : (set : ℕ) (text : List ℕ) → ¬ IsUtf8 text → text_of (set ∷ text) ≡ None
no_text_here set text not_utf8 =
    ap (λ (b : Bool). cond b (Some text) None) (and_right (eqb set 0 && nat_le (length text) 256) (is_utf8 text) (false_from_ne_true (is_utf8 text) (λ e. not_utf8 (IsUtf8-from_is_utf8 text e))))

pub text_from : (content text : List ℕ) → 1 ≤ length content → get_or content 0 0 ≡ 0 → length text ≤ 256 → text ≡ drop 1 content → IsUtf8 text → text_of content ≡ Some text
text_from [] text some zero short same utf8 = absurd (omega arith)
text_from (set ∷ rest) text some zero short same utf8 =
    ap (λ (xs : List ℕ). text_of (set ∷ xs)) (sym same) ∙ text_here set text zero short utf8

pub no_text_from : (content text : List ℕ) → 1 ≤ length content → text ≡ drop 1 content → ¬ IsUtf8 text → text_of content ≡ None
no_text_from [] text some same not_utf8 = absurd (omega arith)
no_text_from (set ∷ rest) text some same not_utf8 = ap (λ (xs : List ℕ). text_of (set ∷ xs)) (sym same) ∙ no_text_here set text not_utf8

pub text_err : (input : List ℕ) (place number : ℕ) (e : TagFault) → content_at input place 0 (Some number) 1 257 ≡ Err e → text_at number input place ≡ Err e
unfolding text_at
text_err input place number e h = rw h refl

pub text_none : (input : List ℕ) (place number : ℕ) (content : List ℕ) (after : ℕ) → content_at input place 0 (Some number) 1 257 ≡ Ok (content, after) → text_of content ≡ None → text_at number input place ≡ Err (BadLength place)
unfolding text_at
text_none input place number content after h none = rw (h, none) refl

pub text_some : (input : List ℕ) (place number : ℕ) (content : List ℕ) (after : ℕ) (text : List ℕ) → content_at input place 0 (Some number) 1 257 ≡ Ok (content, after) → text_of content ≡ Some text → text_at number input place ≡ Ok (text, after)
unfolding text_at
text_some input place number content after text h some = rw (h, some) refl
