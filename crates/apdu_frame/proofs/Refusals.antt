-- An answer that names a reason is in the grammar.
use Rattle.std.proofs.Common.{◌≡◌, ℕ, ◌≤◌, ◌/◌, List, [], ◌∷◌, length, get_or, arith}
use Rattle.apdu_frame.specs.Headers.{IsRefusal}

pub refusal_found : (kind first : ℕ) (rest octets : List ℕ) → octets ≡ first ∷ rest → 2 ≤ length rest → first / 16 ≡ kind → IsRefusal kind octets (get_or rest 0 0)
refusal_found kind first [] octets e long named = absurd (omega arith)
refusal_found kind first (x ∷ []) octets e long named = absurd (omega arith)
refusal_found kind first (x ∷ y ∷ more) octets e long named = record { first = first; reason = y; more = more; spelled = e; named = named }
