-- How batches are read, or a bad length is found.
use Rattle.std.proofs.Common.{◌≡◌, ◌≢◌, ℕ, zero, suc, ◌+◌, ◌≤◌, ◌<◌, ◌^◌, List, [], ◌∷◌, ◌++◌, length, get_or, refl, sym, ◌∙◌, ap, arith, append_assoc, length-append, Result, Ok, Err, nat_lt, true, false, Bool, ◌==◌, ◌⊎◌, inl, inr, take, drop, if◌then◌else◌}
use Rattle.std.proofs.lemmas.Bool.Decides.{nat_tests}
use Rattle.std.proofs.lemmas.List.{take_at}
use Rattle.byteorder.specs.Endian.{big_number, big_bytes}
use Rattle.byteorder.specs.Numbers.{big_number-reads_back}
use Rattle.alarm_journal.specs.Journal.{framed}
use Rattle.alarm_journal.specs.JournalSteps.{in_front, batches_from}

pub is_one : (k : ℕ) → k ≡ 1 → (k == 1) ≡ true
is_one k is = grind (arith, nat_tests)

pub not_one : (k : ℕ) → k ≢ 1 → (k == 1) ≡ false
not_one k is = grind (arith, nat_tests)

pub not_below : (n m : ℕ) → n ≤ m → nat_lt m n ≡ false
not_below n m le = grind (arith, nat_tests)

pub below : (n m : ℕ) → m < n → nat_lt m n ≡ true
below n m lt = grind (arith, nat_tests)

pub at_least : (n m : ℕ) → nat_lt m n ≡ false → n ≤ m
at_least n m is = grind (arith, nat_tests)

batches_body : (place : ℕ) (body rest : List ℕ) → batches_from place (length body) (body ++ rest) ≡ batches_from (place + length body) zero rest
batches_body place [] rest = ap (λ (p : ℕ). batches_from p zero rest) same
  where
    same : place ≡ place + 0
    same = omega arith
batches_body place (x ∷ body) rest = batches_body (place + 1) body rest ∙ ap (λ (p : ℕ). batches_from p zero rest) same
  where
    same : place + 1 + length body ≡ place + length (x ∷ body)
    same = omega arith

-- what a batch's length leads to
abbrev behind_length : ℕ → ℕ → List ℕ → Result (List (List ℕ)) ℕ
behind_length place size rest = if nat_lt (length rest) size then Err (place + 1) else in_front (take size rest) (batches_from (place + 5) size rest)

pub batches_closed : (place : ℕ) (xs : List ℕ) → get_or xs 0 0 ≢ 1 → batches_from place zero xs ≡ Ok []
batches_closed place [] shut = refl
batches_closed place (g ∷ []) shut = ap (λ (t : Bool). if t then Err (place + 1) else Ok []) (not_one g shut)
batches_closed place (g ∷ a ∷ []) shut = ap (λ (t : Bool). if t then Err (place + 1) else Ok []) (not_one g shut)
batches_closed place (g ∷ a ∷ b ∷ []) shut = ap (λ (t : Bool). if t then Err (place + 1) else Ok []) (not_one g shut)
batches_closed place (g ∷ a ∷ b ∷ c ∷ []) shut = ap (λ (t : Bool). if t then Err (place + 1) else Ok []) (not_one g shut)
batches_closed place (g ∷ a ∷ b ∷ c ∷ d ∷ rest) shut = ap (λ (t : Bool). if t then behind_length place (big_number 4 (a ∷ b ∷ c ∷ d ∷ [])) rest else Ok []) (not_one g shut)

open_at : (place size : ℕ) (body rest : List ℕ) → length body ≡ size → behind_length place size (body ++ rest) ≡ in_front body (batches_from (place + 5 + length body) zero rest)
open_at place size body rest count =
    let within : nat_lt (length (body ++ rest)) size ≡ false = not_below size (length (body ++ rest)) (omega (arith, count, length-append body rest)) in
    ap (λ (t : Bool). if t then Err (place + 1) else in_front (take size (body ++ rest)) (batches_from (place + 5) size (body ++ rest))) within
    ∙ ap (λ (l : List ℕ). in_front l (batches_from (place + 5) size (body ++ rest))) (take_at body rest size count)
    ∙ ap (λ (k : ℕ). in_front body (batches_from (place + 5) k (body ++ rest))) (sym count) ∙ ap (in_front body) (batches_body (place + 5) body rest)

pub batches_open : (place : ℕ) (four body rest : List ℕ) → length four ≡ 4 → length body ≡ big_number 4 four → batches_from place zero (1 ∷ (four ++ (body ++ rest))) ≡ in_front body (batches_from (place + 5 + length body) zero rest)
batches_open place [] body rest is count = absurd (omega (arith, is))
batches_open place (a ∷ []) body rest is count = absurd (omega (arith, is))
batches_open place (a ∷ b ∷ []) body rest is count = absurd (omega (arith, is))
batches_open place (a ∷ b ∷ c ∷ []) body rest is count = absurd (omega (arith, is))
batches_open place (a ∷ b ∷ c ∷ d ∷ []) body rest is count = open_at place (big_number 4 (a ∷ b ∷ c ∷ d ∷ [])) body rest count
batches_open place (a ∷ b ∷ c ∷ d ∷ e ∷ more) body rest is count = absurd (omega (arith, is))

bad_at : (place size : ℕ) (rest : List ℕ) → length rest < size → behind_length place size rest ≡ Err (place + 1)
bad_at place size rest over = ap (λ (t : Bool). if t then Err (place + 1) else in_front (take size rest) (batches_from (place + 5) size rest)) (below size (length rest) over)

bad_long : (place size : ℕ) (rest : List ℕ) (k : ℕ) → k ≡ 5 + length rest → (k < 5) ⊎ (k < 5 + size) → behind_length place size rest ≡ Err (place + 1)
bad_long place size rest k is (inl short) = absurd (omega arith)
bad_long place size rest k is (inr long) = bad_at place size rest (omega arith)

-- a gate 1 without room for its length, or a length that leaves the area
pub batches_bad : (place : ℕ) (xs : List ℕ) → get_or xs 0 0 ≡ 1 → (length xs < 5) ⊎ (length xs < 5 + big_number 4 (take 4 (drop 1 xs))) → batches_from place zero xs ≡ Err (place + 1)
batches_bad place [] gate bad = absurd (zero_one gate)
  where
    zero_one : zero ≡ 1 → ⊥
    zero_one is = omega arith
batches_bad place (g ∷ []) gate bad = ap (λ (t : Bool). if t then Err (place + 1) else Ok []) (is_one g gate)
batches_bad place (g ∷ a ∷ []) gate bad = ap (λ (t : Bool). if t then Err (place + 1) else Ok []) (is_one g gate)
batches_bad place (g ∷ a ∷ b ∷ []) gate bad = ap (λ (t : Bool). if t then Err (place + 1) else Ok []) (is_one g gate)
batches_bad place (g ∷ a ∷ b ∷ c ∷ []) gate bad = ap (λ (t : Bool). if t then Err (place + 1) else Ok []) (is_one g gate)
batches_bad place (g ∷ a ∷ b ∷ c ∷ d ∷ rest) gate bad =
    ap (λ (t : Bool). if t then behind_length place (big_number 4 (a ∷ b ∷ c ∷ d ∷ [])) rest else Ok []) (is_one g gate)
    ∙ bad_long place (big_number 4 (a ∷ b ∷ c ∷ d ∷ [])) rest (length (g ∷ a ∷ b ∷ c ∷ d ∷ rest)) (five (length rest)) bad
  where
    five : (n : ℕ) → suc (suc (suc (suc (suc n)))) ≡ 5 + n
    five n = omega arith

pub length-four : (n : ℕ) → length (big_bytes 4 n) ≡ 4
length-four n = refl

pub length-framed : (body : List ℕ) → length (framed body) ≡ length body + 5
length-framed body = length-append (big_bytes 4 (length body)) (body ++ 0 ∷ []) ∙ sum (length (body ++ 0 ∷ [])) (length-append body (0 ∷ []))
  where
    sum : (k : ℕ) → k ≡ length body + 1 → 4 + k ≡ length body + 5
    sum k is = omega arith

pub reads_back : (n : ℕ) → n < 2 ^ 32 → big_number 4 (big_bytes 4 n) ≡ n
reads_back n few = big_number-reads_back 4 n [] few

-- an open batch is its body, and what stands behind it
pub batch_open : (place : ℕ) (body rest : List ℕ) → length body < 2 ^ 32 → batches_from place zero (1 ∷ (big_bytes 4 (length body) ++ (body ++ rest))) ≡ in_front body (batches_from (place + 5 + length body) zero rest)
batch_open place body rest few = batches_open place (big_bytes 4 (length body)) body rest (length-four (length body)) (sym (reads_back (length body) few))

-- with a closed gate behind it, its body
pub batch_framed : (place : ℕ) (body rest : List ℕ) → length body < 2 ^ 32 → batches_from place zero (1 ∷ (framed body ++ rest)) ≡ Ok (body ∷ [])
batch_framed place body rest few =
    ap (λ (l : List ℕ). batches_from place zero (1 ∷ l)) (append_assoc (big_bytes 4 (length body)) (body ++ 0 ∷ []) rest ∙ ap (λ (l : List ℕ). big_bytes 4 (length body) ++ l) (append_assoc body (0 ∷ []) rest))
    ∙ batch_open place body (0 ∷ rest) few
    ∙ ap (in_front body) (batches_closed (place + 5 + length body) (0 ∷ rest) zero_not_one)
  where
    zero_not_one : zero ≡ 1 → ⊥
    zero_not_one is = omega arith
