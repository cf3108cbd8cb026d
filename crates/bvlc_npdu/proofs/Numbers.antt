-- Octets, and the numbers that they spell.
use Rattle.std.proofs.Common.{◌≡◌, ℕ, zero, suc, ◌<◌, List, [], ◌∷◌, ◌++◌, get_or, refl, sym, arith}
use Rattle.std.specs.Int.{bytes_high_first}
use Rattle.std.proofs.lemmas.Nat.{be_bytes_2, be_bytes_4}
use Rattle.byteorder.specs.Endian.{big_number}

-- each item is an octet
abbrev pub AreOctets : List ℕ → Type 0
AreOctets octets = (i : ℕ) → get_or octets i 0 < 256

pub AreOctets-behind : (front rest : List ℕ) → AreOctets (front ++ rest) → AreOctets rest
AreOctets-behind [] rest h = h
AreOctets-behind (x ∷ front) rest h = AreOctets-behind front rest (λ i. h (suc i))

first_two : (a b : ℕ) → a < 256 → b < 256 → AreOctets (a ∷ b ∷ [])
first_two a b ha hb zero = ha
first_two a b ha hb (suc zero) = hb
first_two a b ha hb (suc (suc i)) = omega arith

first_four : (a b c d : ℕ) → a < 256 → b < 256 → c < 256 → d < 256 → AreOctets (a ∷ b ∷ c ∷ d ∷ [])
first_four a b c d ha hb hc hd zero = ha
first_four a b c d ha hb hc hd (suc zero) = hb
first_four a b c d ha hb hc hd (suc (suc zero)) = hc
first_four a b c d ha hb hc hd (suc (suc (suc zero))) = hd
first_four a b c d ha hb hc hd (suc (suc (suc (suc i)))) = omega arith

-- two octets are those of their number
pub octets_of_two : (a b n : ℕ) (rest : List ℕ) → a < 256 → b < 256 → big_number 2 (a ∷ b ∷ rest) ≡ n → a ∷ b ∷ [] ≡ bytes_high_first 2 n
octets_of_two a b n rest ha hb e = sym (be_bytes_2 (a ∷ b ∷ []) n refl (first_two a b ha hb) (omega arith))

-- four octets are those of their number
pub octets_of_four : (a b c d n : ℕ) (rest : List ℕ) → a < 256 → b < 256 → c < 256 → d < 256 → big_number 4 (a ∷ b ∷ c ∷ d ∷ rest) ≡ n → a ∷ b ∷ c ∷ d ∷ [] ≡ bytes_high_first 4 n
octets_of_four a b c d n rest ha hb hc hd e = sym (be_bytes_4 (a ∷ b ∷ c ∷ d ∷ []) n refl (first_four a b c d ha hb hc hd) (omega arith))
