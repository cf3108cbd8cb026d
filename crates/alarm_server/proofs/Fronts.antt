-- What a front of a script spells, beside what all of it does.
use Rattle.std.proofs.Common.{◌≡◌, inl, inr, ℕ, ◌+◌, ◌<◌, ◌≤◌, ◌==◌, Option, Some, None, List, [], ◌∷◌, ◌++◌, length, refl, ap, ◌∙◌, sym, arith, append_assoc}
use Rattle.std.specs.List.{onto_first}
use Rattle.std.proofs.lemmas.Bool.{cases_Bool}
use Rattle.std.proofs.lemmas.List.{append_cancel_right, append-nil, length-append}
use Rattle.script_lines.specs.declared.line.Says.{Says}
use Rattle.script_lines.specs.declared.line.Says.TheVariants.{Skipped, Outside, Spells}
use Rattle.script_lines.specs.Script.{lines_of, IsWholeLines, TakesLines}
use Rattle.alarm_server.specs.Script.{spelled_by, spelled_in, refused_by, refused_in}
use Rattle.alarm_server.proofs.Spelled.{spelled-first, spelled-none, refused-first, refused-none}

-- behind a front without a refusal, the texts spell what they do by themselves
front_with : {L : Type 0} (reads : ℕ → List ℕ → Says L) (says : Says L) (number : ℕ) (text : List ℕ) (front behind : List (List ℕ)) → refused_by says (number + 1) (refused_in reads (number + 1) front) ≡ None → (refused_in reads (number + 1) front ≡ None → spelled_in reads (number + 1) (front ++ behind) ≡ spelled_in reads (number + 1) front ++ spelled_in reads (number + 1 + length front) behind) → spelled_by says (spelled_in reads (number + 1) (front ++ behind)) ≡ spelled_by says (spelled_in reads (number + 1) front) ++ spelled_in reads (number + length (text ∷ front)) behind
front_with reads Skipped number text front behind e more =
    let place : number + 1 + length front ≡ number + length (text ∷ front) = omega arith in
    more e ∙ ap (λ n. spelled_in reads (number + 1) front ++ spelled_in reads n behind) place
front_with reads Outside number text front behind e more = absurd cc
front_with reads (Spells line) number text front behind e more =
    let place : number + 1 + length front ≡ number + length (text ∷ front) = omega arith in
    ap (λ lines. line ∷ lines) (more e ∙ ap (λ n. spelled_in reads (number + 1) front ++ spelled_in reads n behind) place)

front_spelled : {L : Type 0} (reads : ℕ → List ℕ → Says L) (front behind : List (List ℕ)) (number : ℕ) → refused_in reads number front ≡ None → spelled_in reads number (front ++ behind) ≡ spelled_in reads number front ++ spelled_in reads (number + length front) behind
front_spelled reads [] behind number e =
    let place : number ≡ number + 0 = omega arith in
    ap (λ n. spelled_in reads n behind) place ∙ ap (λ lines. lines ++ spelled_in reads (number + 0) behind) (sym (spelled-none reads number))
front_spelled reads (text ∷ front) behind number e =
    let says = reads (number + 1) text in
    spelled-first reads number text (front ++ behind)
    ∙ (front_with reads says number text front behind (sym (refused-first reads number text front) ∙ e) (λ h. front_spelled reads front behind (number + 1) h)
    ∙ ap (λ lines. lines ++ spelled_in reads (number + length (text ∷ front)) behind) (sym (spelled-first reads number text front)))

-- a front with a refusal decides all
record Decides {L : Type 0} (reads : ℕ → List ℕ → Says L) (number : ℕ) (front behind : List (List ℕ)) (line : ℕ) : Type 0 where
  spelled : spelled_in reads number (front ++ behind) ≡ spelled_in reads number front
  refused : refused_in reads number (front ++ behind) ≡ Some line
  within : line ≤ number + length front

decides_with : {L : Type 0} (reads : ℕ → List ℕ → Says L) (says : Says L) (number : ℕ) (text : List ℕ) (front behind : List (List ℕ)) (line : ℕ) → reads (number + 1) text ≡ says → refused_by says (number + 1) (refused_in reads (number + 1) front) ≡ Some line → (refused_in reads (number + 1) front ≡ Some line → Decides reads (number + 1) front behind line) → Decides reads number (text ∷ front) behind line
decides_with reads Skipped number text front behind line is e more =
    let d = more e in
    record {
      spelled = spelled-first reads number text (front ++ behind) ∙ (ap (λ says. spelled_by says (spelled_in reads (number + 1) (front ++ behind))) is ∙ (d.spelled ∙ sym (spelled-first reads number text front ∙ ap (λ says. spelled_by says (spelled_in reads (number + 1) front)) is)));
      refused = refused-first reads number text (front ++ behind) ∙ (ap (λ says. refused_by says (number + 1) (refused_in reads (number + 1) (front ++ behind))) is ∙ d.refused);
      within = omega (arith, d.within);
    }
decides_with reads Outside number text front behind line is e more =
    let here : number + 1 ≡ line = cc in
    record {
      spelled = spelled-first reads number text (front ++ behind) ∙ (ap (λ says. spelled_by says (spelled_in reads (number + 1) (front ++ behind))) is ∙ sym (spelled-first reads number text front ∙ ap (λ says. spelled_by says (spelled_in reads (number + 1) front)) is));
      refused = refused-first reads number text (front ++ behind) ∙ (ap (λ says. refused_by says (number + 1) (refused_in reads (number + 1) (front ++ behind))) is ∙ ap Some here);
      within = omega arith;
    }
decides_with reads (Spells found) number text front behind line is e more =
    let d = more e in
    record {
      spelled = spelled-first reads number text (front ++ behind) ∙ (ap (λ says. spelled_by says (spelled_in reads (number + 1) (front ++ behind))) is ∙ (ap (λ lines. found ∷ lines) d.spelled ∙ sym (spelled-first reads number text front ∙ ap (λ says. spelled_by says (spelled_in reads (number + 1) front)) is)));
      refused = refused-first reads number text (front ++ behind) ∙ (ap (λ says. refused_by says (number + 1) (refused_in reads (number + 1) (front ++ behind))) is ∙ d.refused);
      within = omega (arith, d.within);
    }

front_decides : {L : Type 0} (reads : ℕ → List ℕ → Says L) (front behind : List (List ℕ)) (number line : ℕ) → refused_in reads number front ≡ Some line → Decides reads number front behind line
front_decides reads [] behind number line e = let none = refused-none reads number in absurd cc
front_decides reads (text ∷ front) behind number line e =
    decides_with reads (reads (number + 1) text) number text front behind line refl (sym (refused-first reads number text front) ∙ e) (λ h. front_decides reads front behind (number + 1) line h)

-- a refused line stands behind the lines before it
above_with : {L : Type 0} (reads : ℕ → List ℕ → Says L) (says : Says L) (number : ℕ) (text : List ℕ) (behind : List (List ℕ)) (line : ℕ) → refused_by says (number + 1) (refused_in reads (number + 1) behind) ≡ Some line → (refused_in reads (number + 1) behind ≡ Some line → number + 1 < line) → number < line
above_with reads Skipped number text behind line e more = omega (arith, more e)
above_with reads Outside number text behind line e more = let here : number + 1 ≡ line = cc in omega arith
above_with reads (Spells found) number text behind line e more = omega (arith, more e)

refused_above : {L : Type 0} (reads : ℕ → List ℕ → Says L) (texts : List (List ℕ)) (number line : ℕ) → refused_in reads number texts ≡ Some line → number < line
refused_above reads [] number line e = let none = refused-none reads number in absurd cc
refused_above reads (text ∷ behind) number line e = above_with reads (reads (number + 1) text) number text behind line (sym (refused-first reads number text behind) ∙ e) (λ h. refused_above reads behind (number + 1) line h)

-- no text that was taken is outside the grammar
accepted_by : {L : Type 0} (reads : ℕ → List ℕ → Says L) (found : Option ℕ) (front behind : List (List ℕ)) (number : ℕ) → refused_in reads 0 front ≡ found → refused_in reads 0 (front ++ behind) ≡ refused_in reads number behind → length front ≡ number → refused_in reads 0 front ≡ None
accepted_by reads None front behind number is refused count = is
accepted_by reads (Some line) front behind number is refused count =
    let d = front_decides reads front behind 0 line is in
    let above = refused_above reads behind number line (sym refused ∙ d.refused) in
    absurd (omega (arith, d.within, above))

pub front_accepted : {L : Type 0} (reads : ℕ → List ℕ → Says L) (front behind : List (List ℕ)) (number : ℕ) → refused_in reads 0 (front ++ behind) ≡ refused_in reads number behind → length front ≡ number → refused_in reads 0 front ≡ None
front_accepted reads front behind number refused count = accepted_by reads (refused_in reads 0 front) front behind number refl refused count

-- the lines that were taken are those that the taken texts spell
pub front_lines : {L : Type 0} (reads : ℕ → List ℕ → Says L) (front behind : List (List ℕ)) (lines : List L) (number : ℕ) → spelled_in reads 0 (front ++ behind) ≡ lines ++ spelled_in reads number behind → refused_in reads 0 (front ++ behind) ≡ refused_in reads number behind → length front ≡ number → lines ≡ spelled_in reads 0 front
front_lines reads front behind lines number spelled refused count =
    let place : number ≡ 0 + length front = omega arith in
    append_cancel_right lines (spelled_in reads 0 front) (spelled_in reads number behind)
    (sym spelled ∙ (front_spelled reads front behind 0 (front_accepted reads front behind number refused count) ∙ ap (λ n. spelled_in reads 0 front ++ spelled_in reads n behind) (sym place)))

-- the lines of a text that begins with whole ones
onto_first-append : (c : ℕ) (line : List ℕ) (lines others : List (List ℕ)) → onto_first c ((line ∷ lines) ++ others) ≡ onto_first c (line ∷ lines) ++ others
onto_first-append c line lines others = refl

record HasLines (octets others : List ℕ) : Type 0 where
  line : List ℕ
  lines : List (List ℕ)
  whole : lines_of octets ≡ line ∷ lines
  then_others : lines_of (octets ++ others) ≡ (line ∷ lines) ++ lines_of others

has_lines : (front others : List ℕ) → HasLines (front ++ 10 ∷ []) others
has_lines [] others = record { line = []; lines = []; whole = refl; then_others = refl }
has_lines (c ∷ cs) others =
    let more = has_lines cs others in
    elim (cases_Bool (c == 10)) [
      | inl feed ↦ record {
        line = [];
        lines = more.line ∷ more.lines;
        whole = rw feed (ap (λ l. [] ∷ l) more.whole);
        then_others = rw feed (ap (λ l. [] ∷ l) more.then_others);
      }
      | inr other ↦ record {
        line = c ∷ more.line;
        lines = more.lines;
        whole = rw other (ap (onto_first c) more.whole);
        then_others = rw other (ap (onto_first c) more.then_others);
      }
    ]

pub lines_of-whole : (octets others : List ℕ) → IsWholeLines octets → lines_of (octets ++ others) ≡ lines_of octets ++ lines_of others
lines_of-whole octets others (inl nothing) = rw nothing refl
lines_of-whole octets others (inr (front, ends)) =
    let h = has_lines front others in
    ap (λ xs. lines_of (xs ++ others)) ends ∙ (h.then_others ∙ ap (λ lines. lines ++ lines_of others) (sym (ap lines_of ends ∙ h.whole)))

whole_then : (xs ys : List ℕ) → IsWholeLines xs → IsWholeLines ys → IsWholeLines (xs ++ ys)
whole_then xs ys first (inl nothing) = rw nothing (rw append-nil first)
whole_then xs ys first (inr (front, ends)) = inr (xs ++ front, ap (λ l. xs ++ l) ends ∙ sym (append_assoc xs front (10 ∷ [])))

-- lines were taken, and then more
pub takes_then : (a b c : ℕ) (x y z : List ℕ) → TakesLines a b x y → TakesLines b c y z → TakesLines a c x z
takes_then a b c x y z first second =
    let lines = lines_of-whole first.taken second.taken first.whole in
    record {
      taken = first.taken ++ second.taken;
      whole = whole_then first.taken second.taken first.whole second.whole;
      front = first.front ∙ (ap (λ l. first.taken ++ l) second.front ∙ sym (append_assoc first.taken second.taken z));
      count = rw (lines, length-append) (omega (arith, first.count, second.count));
    }
