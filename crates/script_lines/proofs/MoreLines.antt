-- Lines that are taken one after the other.
use Rattle.std.proofs.Common.{◌≡◌, inl, inr, ℕ, false, Option, Some, None, List, [], ◌∷◌, ◌++◌, append-nil, append_assoc, length, length-append, refl, ap, ◌∙◌, sym, arith}
use Rattle.std.specs.List.{onto_first}
use Rattle.std.proofs.lemmas.Bool.{cases_Bool}
use Rattle.ground_io.specs.Trace.{WhereTold}
use Rattle.script_lines.specs.declared.line.Says.{Says}
use Rattle.script_lines.specs.Reading.{octets_to_come, LinesState}
use Rattle.script_lines.specs.Script.{is_line_feed, lines_of, next_in, TakesLines, IsWholeLines}

-- what holds from the first to the second and from there to the third, where they are told
pub told_then : {X : Type 0} (a b c : Option X) (P Q R : X → X → Type 0) → ((x y z : X) → P x y → Q y z → R x z) → WhereTold a b P → WhereTold b c Q → WhereTold a c R
told_then a b None P Q R f p q = tt
told_then a None (Some z) P Q R f p q = absurd q
told_then None (Some y) (Some z) P Q R f p q = absurd p
told_then (Some x) (Some y) (Some z) P Q R f p q = f x y z p q

onto_some : (c : ℕ) (lines : List (List ℕ)) → (x : List ℕ) × (xs : List (List ℕ)) × (onto_first c lines ≡ x ∷ xs)
onto_some c [] = (c ∷ [], [], refl)
onto_some c (line ∷ lines) = (c ∷ line, lines, refl)

some_line : (c : ℕ) (cs : List ℕ) → (x : List ℕ) × (xs : List (List ℕ)) × (lines_of (c ∷ cs) ≡ x ∷ xs)
some_line c cs =
    elim (cases_Bool (is_line_feed c)) [
      | inl feed ↦ ([], lines_of cs, rw feed refl)
      | inr other ↦ let some = onto_some c (lines_of cs) in (some.0, some.1, rw other some.2)
    ]

some_whole : (front : List ℕ) → (x : List ℕ) × (xs : List (List ℕ)) × (lines_of (front ++ 10 ∷ []) ≡ x ∷ xs)
some_whole [] = some_line 10 []
some_whole (c ∷ cs) = some_line c (cs ++ 10 ∷ [])

lines_of-feed : (front more : List ℕ) → lines_of ((front ++ 10 ∷ []) ++ more) ≡ lines_of (front ++ 10 ∷ []) ++ lines_of more
lines_of-feed [] more = refl
lines_of-feed (c ∷ cs) more =
    let rest = lines_of-feed cs more in
    elim (cases_Bool (is_line_feed c)) [
      | inl feed ↦ rw feed (ap (λ lines. [] ∷ lines) rest)
      | inr other ↦ let some = some_whole cs in rw other (rw rest (rw some.2 refl))
    ]

lines_of-whole : (front more : List ℕ) → IsWholeLines front → lines_of (front ++ more) ≡ lines_of front ++ lines_of more
lines_of-whole front more (inl none) = rw none refl
lines_of-whole front more (inr some) = rw some.1 (lines_of-feed some.0 more)

whole_more : (front more : List ℕ) → IsWholeLines front → IsWholeLines more → IsWholeLines (front ++ more)
whole_more front more whole (inl none) = rw (none, append-nil) whole
whole_more front more whole (inr some) = inr (front ++ some.0, rw some.1 (sym (append_assoc front some.0 (10 ∷ []))))

-- whole lines, and more of them
pub takes_then : (before mid now : ℕ) (x y z : List ℕ) → TakesLines before mid x y → TakesLines mid now y z → TakesLines before now x z
takes_then before mid now x y z first more =
    let both = ap length (lines_of-whole first.taken more.taken first.whole) ∙ length-append (lines_of first.taken) (lines_of more.taken) in
    record {
      taken = first.taken ++ more.taken;
      whole = whole_more first.taken more.taken first.whole more.whole;
      front = first.front ∙ (ap (λ rest. first.taken ++ rest) more.front ∙ sym (append_assoc first.taken more.taken z));
      count = omega (arith, both, first.count, more.count);
    }

-- whole lines, and more of them, unless the source's end was seen
pub whole_then : (r0 r1 r2 : LinesState) (left0 left1 left2 : Option (List ℕ))
    → (r1.ended ≡ false → WhereTold (octets_to_come r0 left0) (octets_to_come r1 left1) (TakesLines r0.number r1.number))
    → (r2.ended ≡ false → r1.ended ≡ false)
    → (r2.ended ≡ false → WhereTold (octets_to_come r1 left1) (octets_to_come r2 left2) (TakesLines r1.number r2.number))
    → r2.ended ≡ false → WhereTold (octets_to_come r0 left0) (octets_to_come r2 left2) (TakesLines r0.number r2.number)
whole_then r0 r1 r2 left0 left1 left2 first earlier more goes_on =
    told_then (octets_to_come r0 left0) (octets_to_come r1 left1) (octets_to_come r2 left2) (TakesLines r0.number r1.number) (TakesLines r1.number r2.number) (TakesLines r0.number r2.number)
    (takes_then r0.number r1.number r2.number) (first (earlier goes_on)) (more goes_on)

-- what comes next stays the same
pub next_then : {L : Type 0} (says : ℕ → List ℕ → Says L) (r0 r1 r2 : LinesState) (left0 left1 left2 : Option (List ℕ))
    → WhereTold (octets_to_come r0 left0) (octets_to_come r1 left1) (λ old new. next_in says r1.number (lines_of new) ≡ next_in says r0.number (lines_of old))
    → WhereTold (octets_to_come r1 left1) (octets_to_come r2 left2) (λ old new. next_in says r2.number (lines_of new) ≡ next_in says r1.number (lines_of old))
    → WhereTold (octets_to_come r0 left0) (octets_to_come r2 left2) (λ old new. next_in says r2.number (lines_of new) ≡ next_in says r0.number (lines_of old))
next_then says r0 r1 r2 left0 left1 left2 first more =
    told_then (octets_to_come r0 left0) (octets_to_come r1 left1) (octets_to_come r2 left2)
    (λ old new. next_in says r1.number (lines_of new) ≡ next_in says r0.number (lines_of old))
    (λ old new. next_in says r2.number (lines_of new) ≡ next_in says r1.number (lines_of old))
    (λ old new. next_in says r2.number (lines_of new) ≡ next_in says r0.number (lines_of old))
    (λ x y z p q. q ∙ p) first more
