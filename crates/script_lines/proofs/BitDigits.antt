-- The number that digits of bits write, from the last digit on.
use Rattle.std.proofs.Common.{◌≡◌, ℕ, suc, ◌+◌, ◌*◌, ◌^◌, ◌<◌, ◌≤◌, nat_lt, false, Option, Some, None, List, [], ◌∷◌, ◌++◌, append-nil, length, length-append, append_assoc, refl, ap, ◌∙◌, sym, arith}
use Rattle.std.specs.List.{push}
use Rattle.std.proofs.lemmas.Bool.Decides.{nat_tests}
use Rattle.std.proofs.Math.Pow.{pow_mono}
use Rattle.bac_values.specs.BitString.{BitsData}
use Rattle.script_lines.specs.SessionLine.{◌>>=◌, bit_of, bits_number, bits_of}

-- the digits behind those that are left write this number
pub record Behind (digits left : List ℕ) (number : ℕ) : Type 0 where
  pub tail : List ℕ
  pub whole : digits ≡ left ++ tail
  pub value : bits_number tail ≡ Some number
  pub small : number < 2 ^ length tail

pub behind_all : (digits : List ℕ) → Behind digits digits 0
behind_all digits = record { tail = []; whole = sym (append-nil digits); value = refl; small = omega arith }

-- a bit is 0 or 1
pub bit_small : (d b : ℕ) → bit_of d ≡ Some b → b ≤ 1
bit_small d b h = grind (arith, nat_tests)

doubled : (b number n : ℕ) → b ≤ 1 → number < 2 ^ n → b + 2 * number < 2 ^ suc n
doubled b number n h small = omega arith

-- one digit more
pub behind_more : (digits left rest : List ℕ) (d b number : ℕ) → Behind digits left number → left ≡ push rest d → bit_of d ≡ Some b → Behind digits rest (b + 2 * number)
behind_more digits left rest d b number h e is = record {
  tail = d ∷ h.tail;
  whole = h.whole ∙ (ap (λ xs. xs ++ h.tail) e ∙ append_assoc rest (d ∷ []) h.tail);
  value = rw (is, h.value) refl;
  small = doubled b number (length h.tail) (bit_small d b is) h.small;
}

after_none : {A : Type 0} (o : Option A) → (o >>= (λ _. let none : Option ℕ = None in none)) ≡ None
after_none None = refl
after_none (Some x) = refl

no_number : (front tail : List ℕ) (d : ℕ) → bit_of d ≡ None → bits_number (front ++ d ∷ tail) ≡ None
no_number [] tail d h = rw h refl
no_number (c ∷ cs) tail d h = rw (no_number cs tail d h) (after_none (bit_of c))

-- no number where one of the digits is none
pub behind_none : (digits left rest : List ℕ) (d number : ℕ) → Behind digits left number → left ≡ push rest d → bit_of d ≡ None → None ≡ bits_number digits
behind_none digits left rest d number h e is =
    let whole = h.whole ∙ (ap (λ xs. xs ++ h.tail) e ∙ append_assoc rest (d ∷ []) h.tail) in
    sym (ap bits_number whole ∙ no_number rest h.tail d is)

-- the number of all digits
pub behind_nothing : (digits left : List ℕ) (number : ℕ) → Behind digits left number → left ≡ [] → Some number ≡ bits_number digits
behind_nothing digits left number h e = sym (ap bits_number (h.whole ∙ ap (λ xs. xs ++ h.tail) e) ∙ h.value)

-- there is room for one digit more
pub behind_room : (digits left rest : List ℕ) (d number : ℕ) → Behind digits left number → left ≡ push rest d → length digits ≤ 64 → number < 2 ^ 63
behind_room digits left rest d number h e short =
    let whole = ap length (h.whole ∙ ap (λ xs. xs ++ h.tail) e) in
    let size : length h.tail ≤ 63 = omega (arith, whole, length-append {A = ℕ}) in
    omega (arith, h.small, pow_mono size)

joined : (o p : Option ℕ) (n k : ℕ) → (o >>= (λ bit. p >>= (λ others. Some (bit + 2 * others)))) ≡ Some n → ((b : ℕ) → o ≡ Some b → b ≤ 1) → ((m : ℕ) → p ≡ Some m → m < 2 ^ k) → n < 2 ^ suc k
joined None p n k h bit others = absurd cc
joined (Some b) None n k h bit others = absurd cc
joined (Some b) (Some m) n k h bit others =
    let is : b + 2 * m ≡ n = cc in
    omega (arith, is, doubled b m k (bit b refl) (others m refl))

-- no bit is set at or above the number of digits
pub number_small : (digits : List ℕ) (number : ℕ) → bits_number digits ≡ Some number → number < 2 ^ length digits
number_small [] number h = let none : 0 ≡ number = cc in omega arith
number_small (c ∷ cs) number h = joined (bit_of c) (bits_number cs) number (length cs) h (λ b e. bit_small c b e) (λ m e. number_small cs m e)

abbrev pub string_of : List ℕ → ℕ → BitsData
string_of digits number = record { size = length digits; bits = number }

-- the string of bits that digits write
pub bits_written : (digits : List ℕ) (number : ℕ) → length digits ≤ 64 → bits_number digits ≡ Some number → Some (string_of digits number) ≡ bits_of digits
bits_written digits number short h =
    let few : nat_lt 64 (length digits) ≡ false = grind (arith, nat_tests) in
    rw (few, h) refl
