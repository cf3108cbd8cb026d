-- The parts of a session's line, from what is known of their own parts.
use Rattle.std.proofs.Common.{◌≡◌, ℕ, ◌+◌, ◌*◌, Option, Some, None, List, refl}
use Rattle.script_lines.specs.Number.{unsigned_of}
use Rattle.script_lines.specs.SessionLine.{◌>>=◌, before, behind, dot, ip_of}

-- four numbers of an address, one after the other
abbrev pub four : Option ℕ → Option ℕ → Option ℕ → Option ℕ → Option ℕ
four first second third fourth = do
  a ← first
  b ← second
  c ← third
  d ← fourth
  Some (a * 16777216 + b * 65536 + c * 256 + d)

pub four_read : (o p q r : Option ℕ) (a b c d : ℕ) → o ≡ Some a → p ≡ Some b → q ≡ Some c → r ≡ Some d → Some (a * 16777216 + b * 65536 + c * 256 + d) ≡ four o p q r
four_read o p q r a b c d e f g h = rw (e, f, g, h) refl

pub no_third : (o p q r : Option ℕ) (a b : ℕ) → o ≡ Some a → p ≡ Some b → q ≡ None → None ≡ four o p q r
no_third o p q r a b e f g = rw (e, f, g) refl

pub no_fourth : (o p q r : Option ℕ) (a b c : ℕ) → o ≡ Some a → p ≡ Some b → q ≡ Some c → r ≡ None → None ≡ four o p q r
no_fourth o p q r a b c e f g h = rw (e, f, g, h) refl

-- the address of a text that was split at its dots
pub three_dots : (text a b c b' c' d : List ℕ) (o p q r : Option ℕ) → a ≡ before dot text → b' ≡ behind dot text → b ≡ before dot b' → c' ≡ behind dot b' → c ≡ before dot c' → d ≡ behind dot c'
    → o ≡ unsigned_of 255 a → p ≡ unsigned_of 255 b → q ≡ unsigned_of 255 c → r ≡ unsigned_of 255 d → four o p q r ≡ ip_of text
three_dots text a b c b' c' d o p q r is_a is_b' is_b is_c' is_c is_d is_o is_p is_q is_r = rw (is_o, is_p, is_q, is_r, is_a, is_b, is_c, is_d, is_c', is_b') refl
