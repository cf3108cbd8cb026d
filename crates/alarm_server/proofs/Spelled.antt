-- What the lines of a script spell, one after the other.
use Rattle.std.proofs.Common.{◌≡◌, ℕ, ◌+◌, Some, None, List, [], ◌∷◌, length, refl, ap, ◌∙◌, sym, arith}
use Rattle.script_lines.specs.declared.line.Says.{Says}
use Rattle.script_lines.specs.declared.line.Says.TheVariants.{Skipped, Outside, Spells}
use Rattle.script_lines.specs.Script.{Next, AtEnd, Refuses, Gives, next_by, next_in}
use Rattle.alarm_server.specs.Script.{spelled_by, spelled_in, refused_by, refused_in}

pub spelled-first : {L : Type 0} (reads : ℕ → List ℕ → Says L) (number : ℕ) (text : List ℕ) (behind : List (List ℕ)) → spelled_in reads number (text ∷ behind) ≡ spelled_by (reads (number + 1) text) (spelled_in reads (number + 1) behind)
unfolding spelled_in
spelled-first reads number text behind = refl

pub spelled-none : {L : Type 0} (reads : ℕ → List ℕ → Says L) (number : ℕ) → spelled_in reads number [] ≡ []
unfolding spelled_in
spelled-none reads number = refl

pub refused-first : {L : Type 0} (reads : ℕ → List ℕ → Says L) (number : ℕ) (text : List ℕ) (behind : List (List ℕ)) → refused_in reads number (text ∷ behind) ≡ refused_by (reads (number + 1) text) (number + 1) (refused_in reads (number + 1) behind)
unfolding refused_in
refused-first reads number text behind = refl

pub refused-none : {L : Type 0} (reads : ℕ → List ℕ → Says L) (number : ℕ) → refused_in reads number [] ≡ None
unfolding refused_in
refused-none reads number = refl

-- the texts spell a line, which has a number, and then what the rest of them spells
pub record Spelled {L : Type 0} (reads : ℕ → List ℕ → Says L) (number : ℕ) (texts : List (List ℕ)) (at : ℕ) (line : L) (rest : List (List ℕ)) : Type 0 where
  pub spelled : spelled_in reads number texts ≡ line ∷ spelled_in reads at rest
  pub refused : refused_in reads number texts ≡ refused_in reads at rest
  pub count : number + length texts ≡ at + length rest

spelled_with : {L : Type 0} (reads : ℕ → List ℕ → Says L) (says : Says L) (number : ℕ) (text : List ℕ) (behind : List (List ℕ)) (at : ℕ) (line : L) (rest : List (List ℕ)) → reads (number + 1) text ≡ says → next_by says (number + 1) behind (next_in reads (number + 1) behind) ≡ Gives at line rest → (next_in reads (number + 1) behind ≡ Gives at line rest → Spelled reads (number + 1) behind at line rest) → Spelled reads number (text ∷ behind) at line rest
spelled_with reads Skipped number text behind at line rest is e more =
    let m = more e in
    record {
      spelled = spelled-first reads number text behind ∙ (ap (λ says. spelled_by says (spelled_in reads (number + 1) behind)) is ∙ m.spelled);
      refused = refused-first reads number text behind ∙ (ap (λ says. refused_by says (number + 1) (refused_in reads (number + 1) behind)) is ∙ m.refused);
      count = omega (arith, m.count);
    }
spelled_with reads Outside number text behind at line rest is e more = absurd cc
spelled_with reads (Spells found) number text behind at line rest is e more =
    let here : number + 1 ≡ at = cc in
    let same : found ≡ line = cc in
    let others : behind ≡ rest = cc in
    record {
      spelled = spelled-first reads number text behind
          ∙ (ap (λ says. spelled_by says (spelled_in reads (number + 1) behind)) is
          ∙ (ap (λ l. l ∷ spelled_in reads (number + 1) behind) same ∙ (ap (λ n. line ∷ spelled_in reads n behind) here ∙ ap (λ b. line ∷ spelled_in reads at b) others)));
      refused = refused-first reads number text behind
          ∙ (ap (λ says. refused_by says (number + 1) (refused_in reads (number + 1) behind)) is
          ∙ (ap (λ n. refused_in reads n behind) here ∙ ap (λ b. refused_in reads at b) others));
      count = let count : length behind ≡ length rest = ap length others in omega arith;
    }

pub spelled_gives : {L : Type 0} (reads : ℕ → List ℕ → Says L) (texts : List (List ℕ)) (number at : ℕ) (line : L) (rest : List (List ℕ)) → next_in reads number texts ≡ Gives at line rest → Spelled reads number texts at line rest
spelled_gives reads [] number at line rest e = absurd cc
spelled_gives reads (text ∷ behind) number at line rest e =
    spelled_with reads (reads (number + 1) text) number text behind at line rest refl e (λ h. spelled_gives reads behind (number + 1) at line rest h)

-- the texts spell no line, and none of them is refused
pub record SpellsNone {L : Type 0} (reads : ℕ → List ℕ → Says L) (number : ℕ) (texts : List (List ℕ)) (end : ℕ) : Type 0 where
  pub spelled : spelled_in reads number texts ≡ []
  pub refused : refused_in reads number texts ≡ None
  pub count : number + length texts ≡ end

none_with : {L : Type 0} (reads : ℕ → List ℕ → Says L) (says : Says L) (number : ℕ) (text : List ℕ) (behind : List (List ℕ)) (end : ℕ) → reads (number + 1) text ≡ says → next_by says (number + 1) behind (next_in reads (number + 1) behind) ≡ AtEnd end → (next_in reads (number + 1) behind ≡ AtEnd end → SpellsNone reads (number + 1) behind end) → SpellsNone reads number (text ∷ behind) end
none_with reads Skipped number text behind end is e more =
    let m = more e in
    record {
      spelled = spelled-first reads number text behind ∙ (ap (λ says. spelled_by says (spelled_in reads (number + 1) behind)) is ∙ m.spelled);
      refused = refused-first reads number text behind ∙ (ap (λ says. refused_by says (number + 1) (refused_in reads (number + 1) behind)) is ∙ m.refused);
      count = omega (arith, m.count);
    }
none_with reads Outside number text behind end is e more = absurd cc
none_with reads (Spells found) number text behind end is e more = absurd cc

pub spells_none : {L : Type 0} (reads : ℕ → List ℕ → Says L) (texts : List (List ℕ)) (number end : ℕ) → next_in reads number texts ≡ AtEnd end → SpellsNone reads number texts end
spells_none reads [] number end e = let same : number ≡ end = cc in record { spelled = spelled-none reads number; refused = refused-none reads number; count = omega arith }
spells_none reads (text ∷ behind) number end e = none_with reads (reads (number + 1) text) number text behind end refl e (λ h. spells_none reads behind (number + 1) end h)

-- the texts spell no line before one that is refused
pub record SpellsRefused {L : Type 0} (reads : ℕ → List ℕ → Says L) (number : ℕ) (texts : List (List ℕ)) (line : ℕ) : Type 0 where
  pub spelled : spelled_in reads number texts ≡ []
  pub refused : refused_in reads number texts ≡ Some line

refused_with : {L : Type 0} (reads : ℕ → List ℕ → Says L) (says : Says L) (number : ℕ) (text : List ℕ) (behind : List (List ℕ)) (line : ℕ) → reads (number + 1) text ≡ says → next_by says (number + 1) behind (next_in reads (number + 1) behind) ≡ Refuses line → (next_in reads (number + 1) behind ≡ Refuses line → SpellsRefused reads (number + 1) behind line) → SpellsRefused reads number (text ∷ behind) line
refused_with reads Skipped number text behind line is e more =
    let m = more e in
    record {
      spelled = spelled-first reads number text behind ∙ (ap (λ says. spelled_by says (spelled_in reads (number + 1) behind)) is ∙ m.spelled);
      refused = refused-first reads number text behind ∙ (ap (λ says. refused_by says (number + 1) (refused_in reads (number + 1) behind)) is ∙ m.refused);
    }
refused_with reads Outside number text behind line is e more =
    let same : number + 1 ≡ line = cc in
    record {
      spelled = spelled-first reads number text behind ∙ ap (λ says. spelled_by says (spelled_in reads (number + 1) behind)) is;
      refused = refused-first reads number text behind ∙ (ap (λ says. refused_by says (number + 1) (refused_in reads (number + 1) behind)) is ∙ ap Some same);
    }
refused_with reads (Spells found) number text behind line is e more = absurd cc

pub spells_refused : {L : Type 0} (reads : ℕ → List ℕ → Says L) (texts : List (List ℕ)) (number line : ℕ) → next_in reads number texts ≡ Refuses line → SpellsRefused reads number texts line
spells_refused reads [] number line e = absurd cc
spells_refused reads (text ∷ behind) number line e = refused_with reads (reads (number + 1) text) number text behind line refl e (λ h. spells_refused reads behind (number + 1) line h)

-- where the same comes next, the texts spell the same
pub record SpellsSame {L : Type 0} (reads : ℕ → List ℕ → Says L) (number number' : ℕ) (texts texts' : List (List ℕ)) : Type 0 where
  pub spelled : spelled_in reads number texts ≡ spelled_in reads number' texts'
  pub refused : refused_in reads number texts ≡ refused_in reads number' texts'

same_with : {L : Type 0} (reads : ℕ → List ℕ → Says L) (next : Next L) (number number' : ℕ) (texts texts' : List (List ℕ)) → next_in reads number texts ≡ next → next_in reads number' texts' ≡ next → SpellsSame reads number number' texts texts'
same_with reads (AtEnd end) number number' texts texts' e e' =
    let h = spells_none reads texts number end e in
    let h' = spells_none reads texts' number' end e' in
    record { spelled = h.spelled ∙ sym h'.spelled; refused = h.refused ∙ sym h'.refused }
same_with reads (Refuses line) number number' texts texts' e e' =
    let h = spells_refused reads texts number line e in
    let h' = spells_refused reads texts' number' line e' in
    record { spelled = h.spelled ∙ sym h'.spelled; refused = h.refused ∙ sym h'.refused }
same_with reads (Gives at line rest) number number' texts texts' e e' =
    let h = spelled_gives reads texts number at line rest e in
    let h' = spelled_gives reads texts' number' at line rest e' in
    record { spelled = h.spelled ∙ sym h'.spelled; refused = h.refused ∙ sym h'.refused }

pub spells_same : {L : Type 0} (reads : ℕ → List ℕ → Says L) (number number' : ℕ) (texts texts' : List (List ℕ)) → next_in reads number texts ≡ next_in reads number' texts' → SpellsSame reads number number' texts texts'
spells_same reads number number' texts texts' e = same_with reads (next_in reads number' texts') number number' texts texts' e refl
