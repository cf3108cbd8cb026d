-- What a reader that took a line says of the octets before and after it.
use Rattle.std.proofs.Common.{◌≡◌, ◌⊎◌, inl, inr, ℕ, ◌+◌, ◌<◌, true, false, Option, Some, None, List, [], ◌∷◌, ◌++◌, append_assoc, length, refl, ap, ◌∙◌, sym, arith}
use Rattle.std.specs.List.{position_or_len, before_first, after_first}
use Rattle.std.specs.Io.KnownBytes.{prepend_known, IsAtEnd}
use Rattle.ground_io.specs.Source.{Keeps}
use Rattle.std.proofs.lemmas.Bool.{cases_lt}
use Rattle.std.proofs.lemmas.List.{take_all}
use Rattle.ground_io.specs.Trace.{WhereTold}
use Rattle.script_lines.specs.declared.line.Says.{Says}
use Rattle.script_lines.specs.declared.line.Says.TheVariants.{Skipped, Outside, Spells}
use Rattle.script_lines.specs.Reading.{LinesState}
use Rattle.script_lines.specs.Script.{is_line_feed, lines_of, next_by, next_in, TakesLines}
use Rattle.script_lines.specs.TakingSteps.{TakesLine, behind_line, taken_of}
use Rattle.script_lines.proofs.FirstLine.{next_first, feed_ends, RefusesLong}

-- a line feed is pending, or more than a line may have, or the source's end was seen
abbrev pub IsFoundBy : LinesState → Type 0
IsFoundBy now = (position_or_len is_line_feed now.pending < length now.pending) ⊎ ((4096 < length now.pending) ⊎ (now.ended ≡ true))

nothing_comes : (now : LinesState) (b : List ℕ) → IsFoundBy now → (now.ended ≡ true → b ≡ []) → (position_or_len is_line_feed now.pending < length now.pending) ⊎ ((4096 < length now.pending) ⊎ (b ≡ []))
nothing_comes now b (inl feed) ended = inl feed
nothing_comes now b (inr (inl long)) ended = inr (inl long)
nothing_comes now b (inr (inr end)) ended = inr (inr (ended end))

judged_told : {L : Type 0} (reads : ℕ → List ℕ → Says L) (says : Says L) (xs b : List ℕ) (reading : LinesState) → reading.pending ≡ xs
    → next_in reads reading.number (lines_of (xs ++ b)) ≡ next_by says (reading.number + 1) (lines_of (after_first is_line_feed xs ++ b)) (next_in reads (reading.number + 1) (lines_of (after_first is_line_feed xs ++ b)))
    → TakesLine reads reading.number (behind_line says reading).number (taken_of (reading.number + 1) says) (xs ++ b) ((behind_line says reading).pending ++ b)
judged_told reads Outside xs b reading same next = rw same (next, next)
judged_told reads Skipped xs b reading same next = rw same (sym next)
judged_told reads (Spells line) xs b reading same next = rw same next

-- what the octets before and after say
pub judged : {L : Type 0} (reads : ℕ → List ℕ → Says L) → RefusesLong reads → (says : Says L) (pending : List ℕ) (now new : LinesState) (left0 left1 : Option (List ℕ))
    → Keeps (prepend_known pending left0) (prepend_known now.pending left1) → 0 < length now.pending → IsFoundBy now → (now.ended ≡ true → IsAtEnd left1)
    → says ≡ reads (now.number + 1) (before_first is_line_feed now.pending) → new ≡ behind_line says now
    → WhereTold (prepend_known pending left0) (prepend_known new.pending left1) (TakesLine reads now.number new.number (taken_of (now.number + 1) says))
judged reads refuses says pending now new left0 None same some found ended said rest = tt
judged reads refuses says pending now new None (Some b) same some found ended said rest = same
judged reads refuses says pending now new (Some a) (Some b) same some found ended said rest =
    let next = next_first reads refuses now.number now.pending b some (nothing_comes now b found ended) in
    rw (← same, rest) (judged_told reads says now.pending b now refl (rw (← said) at next))

-- nothing was taken
takes_none : (number : ℕ) (octets : List ℕ) → TakesLines number number octets octets
takes_none number octets = record { taken = []; whole = inl refl; front = refl; count = omega arith }

-- a line and its line feed were taken
takes_first : (number : ℕ) (xs b : List ℕ) → position_or_len is_line_feed xs < length xs → TakesLines number (number + 1) (xs ++ b) (after_first is_line_feed xs ++ b)
takes_first number xs b found =
    let parts = feed_ends xs found in
    record {
      taken = before_first is_line_feed xs ++ 10 ∷ [];
      whole = inr (before_first is_line_feed xs, refl);
      front = ap (λ ys. ys ++ b) parts.0 ∙ simp append_assoc;
      count = ap (λ lines. number + length lines) parts.1;
    }

-- a line that isn't outside the grammar, before the source's end, has its line feed
has_feed : {L : Type 0} (reads : ℕ → List ℕ → Says L) → RefusesLong reads → (says : Says L) (now : LinesState) → IsFoundBy now → now.ended ≡ false → says ≡ reads (now.number + 1) (before_first is_line_feed now.pending)
    → (says ≡ Outside → ⊥) → position_or_len is_line_feed now.pending < length now.pending
has_feed reads refuses says now found goes_on said inside =
    elim (cases_lt (position_or_len is_line_feed now.pending) (length now.pending)) [
      | inl feed ↦ feed
      | inr none ↦ elim found [
        | inl feed ↦ feed
        | inr (inl long) ↦
            let whole = take_all (position_or_len is_line_feed now.pending) now.pending none in
            absurd (inside (said ∙ (ap (reads (now.number + 1)) whole ∙ refuses (now.number + 1) now.pending long)))
        | inr (inr ended) ↦ let wrong : ⊥ = cc in absurd wrong
      ]
    ]

judged_takes : {L : Type 0} (says : Says L) (xs b : List ℕ) (reading : LinesState) → reading.pending ≡ xs → ((says ≡ Outside → ⊥) → position_or_len is_line_feed xs < length xs)
    → TakesLines reading.number (behind_line says reading).number (xs ++ b) ((behind_line says reading).pending ++ b)
judged_takes Outside xs b reading same feed = rw same (takes_none reading.number (xs ++ b))
judged_takes Skipped xs b reading same feed = rw same (takes_first reading.number xs b (feed (λ e. cc)))
judged_takes (Spells line) xs b reading same feed = rw same (takes_first reading.number xs b (feed (λ e. cc)))

goes_on_before : {L : Type 0} (says : Says L) (now : LinesState) → (behind_line says now).ended ≡ false → now.ended ≡ false
goes_on_before Outside now e = e
goes_on_before Skipped now e = e
goes_on_before (Spells line) now e = e

-- whole lines were taken before the source's end
pub judged_whole : {L : Type 0} (reads : ℕ → List ℕ → Says L) → RefusesLong reads → (says : Says L) (pending : List ℕ) (now new : LinesState) (left0 left1 : Option (List ℕ))
    → Keeps (prepend_known pending left0) (prepend_known now.pending left1) → IsFoundBy now
    → says ≡ reads (now.number + 1) (before_first is_line_feed now.pending) → new ≡ behind_line says now → new.ended ≡ false
    → WhereTold (prepend_known pending left0) (prepend_known new.pending left1) (TakesLines now.number new.number)
judged_whole reads refuses says pending now new left0 None same found said rest goes_on = tt
judged_whole reads refuses says pending now new None (Some b) same found said rest goes_on = same
judged_whole reads refuses says pending now new (Some a) (Some b) same found said rest goes_on =
    let before = goes_on_before says now (ap (λ r. r.ended) (sym rest) ∙ goes_on) in
    rw (← same, rest) (judged_takes says now.pending b now refl (has_feed reads refuses says now found before said))
