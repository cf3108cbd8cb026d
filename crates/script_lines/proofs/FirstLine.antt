-- The first line of a text, by the place of the first line feed, and what it makes of what comes next.
use Rattle.std.proofs.Common.{◌≡◌, ◌⊎◌, inl, inr, ℕ, ◌+◌, ◌<◌, ◌≤◌, false, Option, List, [], ◌∷◌, ◌++◌, suc, append-nil, length, take, drop, refl, ap, ◌∙◌, sym, arith}
use Rattle.std.specs.List.{position_or_len, before_first, after_first, onto_first}
use Rattle.std.proofs.lemmas.Bool.{cases_Bool, cases_lt}
use Rattle.std.proofs.lemmas.Bool.Decides.{nat_tests}
use Rattle.std.proofs.lemmas.Grind.{common_steps}
use Rattle.std.proofs.lemmas.List.{take_all, drop_all}
use Rattle.script_lines.specs.declared.line.Says.{Says}
use Rattle.script_lines.specs.declared.line.Says.TheVariants.{Outside}
use Rattle.script_lines.specs.Line.{says_by}
use Rattle.script_lines.specs.Script.{is_line_feed, lines_of, next_by, next_in}

-- one element more, in front
pub take_next : (n c : ℕ) (cs : List ℕ) → take (1 + n) (c ∷ cs) ≡ c ∷ take n cs
take_next n c cs = let e : 1 + n ≡ suc n = omega arith in rw e refl

pub drop_next : (n c : ℕ) (cs : List ℕ) → drop (1 + n + 1) (c ∷ cs) ≡ drop (n + 1) cs
drop_next n c cs = let e : 1 + n + 1 ≡ suc (n + 1) = omega arith in rw e refl

-- octets in front of the first line
abbrev onto_line : List ℕ → List (List ℕ) → List (List ℕ)
onto_line front [] = front ∷ []
onto_line front (line ∷ lines) = (front ++ line) ∷ lines

onto_line_is : (front : List ℕ) (lines : List (List ℕ)) → (tail : List ℕ) × (rest : List (List ℕ)) × (onto_line front lines ≡ (front ++ tail) ∷ rest)
onto_line_is front [] = ([], [], ap (λ x. x ∷ []) (sym (append-nil front)))
onto_line_is front (line ∷ lines) = (line, lines, refl)

onto_one : (c : ℕ) (lines : List (List ℕ)) → onto_first c lines ≡ onto_line (c ∷ []) lines
onto_one c [] = refl
onto_one c (line ∷ lines) = refl

onto_more : (c d : ℕ) (cs : List ℕ) (lines : List (List ℕ)) → onto_first c (onto_line (d ∷ cs) lines) ≡ onto_line (c ∷ d ∷ cs) lines
onto_more c d cs [] = refl
onto_more c d cs (line ∷ lines) = refl

other_first : (c : ℕ) (cs : List ℕ) → length (c ∷ cs) ≤ position_or_len is_line_feed (c ∷ cs) → (is_line_feed c ≡ false) × (length cs ≤ position_or_len is_line_feed cs)
other_first c cs none = (grind arith, grind arith)

other_line : (c : ℕ) (cs : List ℕ) → is_line_feed c ≡ false → lines_of (c ∷ cs) ≡ onto_first c (lines_of cs)
other_line c cs other = rw other refl

lines_of-front : (xs ys : List ℕ) → 0 < length xs → length xs ≤ position_or_len is_line_feed xs → lines_of (xs ++ ys) ≡ onto_line xs (lines_of ys)
lines_of-front [] ys h none = absurd (omega arith)
lines_of-front (c ∷ []) ys h none = other_line c ys (other_first c [] none).0 ∙ onto_one c (lines_of ys)
lines_of-front (c ∷ d ∷ cs) ys h none =
    let parts = other_first c (d ∷ cs) none in
    other_line c (d ∷ cs ++ ys) parts.0 ∙ (ap (onto_first c) (lines_of-front (d ∷ cs) ys (omega arith) parts.1) ∙ onto_more c d cs (lines_of ys))

pub lines_of-first : (xs ys : List ℕ) → position_or_len is_line_feed xs < length xs → lines_of (xs ++ ys) ≡ before_first is_line_feed xs ∷ lines_of (after_first is_line_feed xs ++ ys)
lines_of-first [] ys h = absurd (omega arith)
lines_of-first (c ∷ cs) ys h =
    elim (cases_Bool (is_line_feed c)) [
      | inl feed ↦ rw feed refl
      | inr other ↦ let rest : position_or_len is_line_feed cs < length cs = grind arith in let more = lines_of-first cs ys rest in rw (other, more, take_next, drop_next) refl
    ]

-- a text that is too long says nothing of the grammar
abbrev pub RefusesLong : {L : Type 0} → (ℕ → List ℕ → Says L) → Type 0
RefusesLong says = (number : ℕ) (text : List ℕ) → 4096 < length text → says number text ≡ Outside

pub long_says : {L : Type 0} (found : ℕ → List ℕ → Option L) → RefusesLong (says_by found)
long_says found number text long = grind (arith, nat_tests)

-- what comes next, by a first line that has nothing behind it or is too long
next_front : {L : Type 0} (says : ℕ → List ℕ → Says L) → RefusesLong says → (number : ℕ) (xs ys : List ℕ) → 0 < length xs → length xs ≤ position_or_len is_line_feed xs → (4096 < length xs) ⊎ (ys ≡ [])
    → next_in says number (lines_of (xs ++ ys)) ≡ next_by (says (number + 1) xs) (number + 1) (lines_of ys) (next_in says (number + 1) (lines_of ys))
next_front says refuses number xs ys some none (inl long) =
    let parts = onto_line_is xs (lines_of ys) in
    let longer : 4096 < length (xs ++ parts.0) = grind (arith, common_steps) in
    ap (next_in says number) (lines_of-front xs ys some none ∙ parts.2) ∙ rw (refuses (number + 1) (xs ++ parts.0) longer, refuses (number + 1) xs long) refl
next_front says refuses number xs ys some none (inr ended) = ap (next_in says number) (lines_of-front xs ys some none) ∙ rw ended refl

-- what comes next, by what is pending of the first line
pub next_first : {L : Type 0} (says : ℕ → List ℕ → Says L) → RefusesLong says → (number : ℕ) (xs ys : List ℕ) → 0 < length xs → (position_or_len is_line_feed xs < length xs) ⊎ ((4096 < length xs) ⊎ (ys ≡ []))
    → next_in says number (lines_of (xs ++ ys))
    ≡ next_by (says (number + 1) (before_first is_line_feed xs)) (number + 1) (lines_of (after_first is_line_feed xs ++ ys)) (next_in says (number + 1) (lines_of (after_first is_line_feed xs ++ ys)))
next_first says refuses number xs ys some why =
    elim (cases_lt (position_or_len is_line_feed xs) (length xs)) [
      | inl found ↦ ap (next_in says number) (lines_of-first xs ys found)
      | inr none ↦ rw (take_all (position_or_len is_line_feed xs) xs none, drop_all (position_or_len is_line_feed xs + 1) xs (omega arith))
          (next_front says refuses number xs ys some none (elim why as (λ _. (4096 < length xs) ⊎ (ys ≡ [])) [ inl found ↦ absurd (omega arith) | inr rest ↦ rest ]))
    ]

-- a line and its line feed
pub feed_ends : (xs : List ℕ) → position_or_len is_line_feed xs < length xs
    → (xs ≡ before_first is_line_feed xs ++ 10 ∷ after_first is_line_feed xs) × (lines_of (before_first is_line_feed xs ++ 10 ∷ []) ≡ before_first is_line_feed xs ∷ [])
feed_ends [] h = absurd (omega arith)
feed_ends (c ∷ cs) h =
    elim (cases_Bool (is_line_feed c)) [
      | inl feed ↦ let ten : c ≡ 10 = grind (arith, nat_tests) in rw (feed, ten) (refl, refl)
      | inr other ↦
          let rest : position_or_len is_line_feed cs < length cs = grind arith in
          let more = feed_ends cs rest in
          rw (other, take_next, drop_next) (ap (λ xs. c ∷ xs) more.0, rw (other, more.1) refl)
    ]
