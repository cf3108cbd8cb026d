-- One input that is tried until no commit has to come first.
use Rattle.std.proofs.Common.{Option, ◌≡◌, ℕ, List, [], ◌∷◌, ◌++◌, refl, sym, ap, ◌∙◌, subst, inl, inr}
use Rattle.std.proofs.lemmas.List.{append-nil}
use Rattle.std.proofs.lemmas.List.Elements.{All-append, All-cons, All-head, All-nil, All-tail}
use Rattle.std.specs.Prelude.{◌⊎◌, Result, Ok, Err}
use Rattle.std.specs.List.{All}
use Rattle.bac_values.specs.declared.input.Input.{Input}
use Rattle.ground_io.specs.Trace.{Told}
use Rattle.turnstile.specs.Passes.{Known}
use Rattle.noted.specs.declared.noted.Noted.{Noted}
use Rattle.alarm_core.specs.State.{CoreState}
use Rattle.alarm_journal.specs.Press.{PressState}
use Rattle.floor_desk.specs.declared.entry.Entry.{Entry}
use Rattle.floor_desk.specs.declared.entry.Entry.TheVariants.{Looked}
use Rattle.floor_desk.specs.declared.entry.Look.TheVariants.{Refused}
use Rattle.floor_desk.specs.declared.faults.CommitFault.TheVariants as commits
use Rattle.floor_desk.specs.declared.entry.Ticket.{Ticket}
use Rattle.floor_desk.specs.declared.faults.EnterFault.{EnterFault}
use Rattle.floor_desk.specs.Accounts.{entry_for}
use Rattle.floor_desk.specs.Desks.{MakesEntry}
use Rattle.floor_desk.specs.Tries.{IsAnsweredBehind, IsOfCommit, IsOfInput, IsTried, Try, tried_by, tries_in}
use Rattle.floor_desk.specs.Workers.{AreShown, MadeEntries}
use Rattle.floor_desk.specs.WorkersSteps.{HasTried}
use Rattle.floor_desk.proofs.Working.{MadeCommit, is_of_input, no_tries, tried_of, tries_append, worked_entry, worked_none, worked_then}

-- a try of this input to which a commit had to come first
abbrev pub IsTurnedBack : Input → Try → Type 0
IsTurnedBack input one = (one.input ≡ input) × IsAnsweredBehind one.answer

-- one try more than such ones
tried_last : (input : Input) (last : Result Ticket EnterFault) (before : List Try) (one : Try) → All (IsTurnedBack input) before → one.input ≡ input → one.answer ≡ last → IsTried input last (before ++ one ∷ [])
tried_last input last [] one none is answered = (is, answered)
tried_last input last (first ∷ []) one all is answered = let f = All-head (IsTurnedBack input) first [] all in (f.0, f.1, (is, answered))
tried_last input last (first ∷ (next ∷ more)) one all is answered =
    let f = All-head (IsTurnedBack input) first (next ∷ more) all in
    (f.0, f.1, tried_last input last (next ∷ more) one (All-tail (IsTurnedBack input) first (next ∷ more) all) is answered)

module _ {G : Type 0} where
  abbrev IsPart : Entry G → Type 0
  IsPart entry = IsOfInput entry ⊎ IsOfCommit entry

  -- so far a commit always had to come first
  pub record HasTurnedBack (shows : ℕ → Type 0) (p q : Known (Entry G) (CoreState × PressState G)) (input : Input) : Type 0 where
    pub entries : List (Entry G)
    pub worked : MadeEntries p q entries
    pub tries : All (IsTurnedBack input) (tries_in entries)
    pub parts : All (λ entry. IsOfInput entry ⊎ IsOfCommit entry) entries
    pub shown : AreShown shows entries

  pub turned_none : (shows : ℕ → Type 0) (p : Known (Entry G) (CoreState × PressState G)) (input : Input) → HasTurnedBack shows p p input
  turned_none shows p input = record {
    entries = [];
    worked = worked_none p;
    tries = All-nil (IsTurnedBack input);
    parts = All-nil IsPart;
    shown = All-nil (λ (one : Try). shows one.moment);
  }

  -- an entry of an input
  record IsOne (shows : ℕ → Type 0) (input : Input) (answer : Result Ticket EnterFault) (e : Entry G) : Type 0 where
    one : Try
    is : tried_by e ≡ one ∷ []
    input_is : one.input ≡ input
    answer_is : one.answer ≡ answer
    moment : shows one.moment
    part : IsPart e

  one_of : (shows : ℕ → Type 0) (memo : Noted Input) (moment : ℕ) (answer : Result Ticket EnterFault) → shows moment → IsOne shows memo.value answer (entry_for memo moment answer)
  one_of shows memo moment answer shown = record {
    one = record { input = memo.value; moment = moment; answer = answer };
    is = tried_of (entry_for memo moment answer) memo moment answer refl;
    input_is = refl;
    answer_is = refl;
    moment = shown;
    part = inl (is_of_input (entry_for memo moment answer) memo moment answer refl);
  }

  tries_snoc : (es : List (Entry G)) (e : Entry G) (one : Try) → tried_by e ≡ one ∷ [] → tries_in (es ++ e ∷ []) ≡ tries_in es ++ one ∷ []
  tries_snoc es e one is = tries_append es (e ∷ []) ∙ ap (λ z. tries_in es ++ z) (append-nil (tried_by e) ∙ is)

  shown_snoc : (shows : ℕ → Type 0) (es : List (Entry G)) (e : Entry G) (one : Try) → tried_by e ≡ one ∷ [] → shows one.moment → AreShown shows es → AreShown shows (es ++ e ∷ [])
  shown_snoc shows es e one is shown all =
      let P : Try → Type 0 = (λ t. shows t.moment) in
      subst (λ z. All P z) (sym (tries_snoc es e one is)) (All-append P (tries_in es) (one ∷ []) all (All-cons P one [] shown (All-nil P)))

  -- the last try, to which no commit had to come first
  pub tried_now : (told : G → Option Told) (size disk_faults emit_faults : G → ℕ) (origin : CoreState × PressState G) (shows : ℕ → Type 0) (p q r : Known (Entry G) (CoreState × PressState G)) (input : Input) (memo : Noted Input) (moment : ℕ) (answer : Result Ticket EnterFault) → HasTurnedBack shows p q input → memo.value ≡ input → shows moment
      → MakesEntry told size disk_faults emit_faults origin q r (entry_for memo moment answer) → (IsAnsweredBehind answer → ⊥) → HasTried shows p r input answer
  tried_now told size disk_faults emit_faults origin shows p q r input memo moment answer t is shown a not =
      let e : Entry G = entry_for memo moment answer in let o = one_of shows memo moment answer shown in record {
        entries = t.entries ++ e ∷ [];
        worked = worked_then p q r t.entries (e ∷ []) t.worked (worked_entry told size disk_faults emit_faults origin q r e a);
        tried = subst (λ z. IsTried input answer z) (sym (tries_snoc t.entries e o.one o.is)) (tried_last input answer (tries_in t.entries) o.one t.tries (o.input_is ∙ is) o.answer_is);
        parts = All-append IsPart t.entries (e ∷ []) t.parts (All-cons IsPart e [] o.part (All-nil IsPart));
        shown = shown_snoc shows t.entries e o.one o.is o.moment t.shown;
        gave_up = λ behind. absurd (not behind);
      }

  -- a try to which a commit had to come first
  pub turned_now : (told : G → Option Told) (size disk_faults emit_faults : G → ℕ) (origin : CoreState × PressState G) (shows : ℕ → Type 0) (p q r : Known (Entry G) (CoreState × PressState G)) (input : Input) (memo : Noted Input) (moment : ℕ) (answer : Result Ticket EnterFault) → HasTurnedBack shows p q input → memo.value ≡ input → shows moment
      → MakesEntry told size disk_faults emit_faults origin q r (entry_for memo moment answer) → IsAnsweredBehind answer → HasTurnedBack shows p r input
  turned_now told size disk_faults emit_faults origin shows p q r input memo moment answer t is shown a behind =
      let e : Entry G = entry_for memo moment answer in let o = one_of shows memo moment answer shown in
      let P : Try → Type 0 = IsTurnedBack input in record {
        entries = t.entries ++ e ∷ [];
        worked = worked_then p q r t.entries (e ∷ []) t.worked (worked_entry told size disk_faults emit_faults origin q r e a);
        tries = subst (λ z. All P z) (sym (tries_snoc t.entries e o.one o.is))
            (All-append P (tries_in t.entries) (o.one ∷ []) t.tries (All-cons P o.one [] (o.input_is ∙ is, subst IsAnsweredBehind (sym o.answer_is) behind) (All-nil P)));
        parts = All-append IsPart t.entries (e ∷ []) t.parts (All-cons IsPart e [] o.part (All-nil IsPart));
        shown = shown_snoc shows t.entries e o.one o.is o.moment t.shown;
      }

  commits_are_parts : (es : List (Entry G)) → All IsOfCommit es → All IsPart es
  commits_are_parts es all = λ k d in_range. inr (all k d in_range)

  -- a commit behind it
  pub turned_commit : (told : G → Option Told) (size disk_faults emit_faults : G → ℕ) (origin : CoreState × PressState G) (shows : ℕ → Type 0) (p q r : Known (Entry G) (CoreState × PressState G)) (input : Input) → HasTurnedBack shows p q input → MadeCommit told size disk_faults emit_faults origin q r → HasTurnedBack shows p r input
  turned_commit told size disk_faults emit_faults origin shows p q r input t c =
      let same : tries_in (t.entries ++ c.entries) ≡ tries_in t.entries = tries_append t.entries c.entries ∙ (ap (λ z. tries_in t.entries ++ z) (no_tries c.entries c.parts) ∙ append-nil (tries_in t.entries)) in record {
        entries = t.entries ++ c.entries;
        worked = worked_then p q r t.entries c.entries t.worked c.worked;
        tries = subst (λ z. All (IsTurnedBack input) z) (sym same) t.tries;
        parts = All-append IsPart t.entries c.entries t.parts (commits_are_parts c.entries c.parts);
        shown = subst (λ z. All (λ (one : Try). shows one.moment) z) (sym same) t.shown;
      }

  -- the last try, to which a commit had to come first that found no memory
  pub tried_none : (told : G → Option Told) (size disk_faults emit_faults : G → ℕ) (origin : CoreState × PressState G) (shows : ℕ → Type 0) (p q r s : Known (Entry G) (CoreState × PressState G)) (input : Input) (memo : Noted Input) (moment : ℕ) (answer : Result Ticket EnterFault) → HasTurnedBack shows p q input → memo.value ≡ input → shows moment
      → MakesEntry told size disk_faults emit_faults origin q r (entry_for memo moment answer) → MakesEntry told size disk_faults emit_faults origin r s (Looked (Refused commits.NoMemory)) → HasTried shows p s input answer
  tried_none told size disk_faults emit_faults origin shows p q r s input memo moment answer t is shown a b =
      let e : Entry G = entry_for memo moment answer in let o = one_of shows memo moment answer shown in
      let tried : List (Entry G) = t.entries ++ e ∷ [] in
      let none : Entry G = Looked (Refused commits.NoMemory) in
      let same : tries_in (tried ++ none ∷ []) ≡ tries_in tried = tries_append tried (none ∷ []) ∙ append-nil (tries_in tried) in record {
        entries = tried ++ none ∷ [];
        worked = worked_then p r s tried (none ∷ []) (worked_then p q r t.entries (e ∷ []) t.worked (worked_entry told size disk_faults emit_faults origin q r e a)) (worked_entry told size disk_faults emit_faults origin r s none b);
        tried = subst (λ z. IsTried input answer z) (sym (same ∙ tries_snoc t.entries e o.one o.is)) (tried_last input answer (tries_in t.entries) o.one t.tries (o.input_is ∙ is) o.answer_is);
        parts = All-append IsPart tried (none ∷ []) (All-append IsPart t.entries (e ∷ []) t.parts (All-cons IsPart e [] o.part (All-nil IsPart))) (All-cons IsPart none [] (inr tt) (All-nil IsPart));
        shown = subst (λ z. All (λ (one : Try). shows one.moment) z) (sym same) (shown_snoc shows t.entries e o.one o.is o.moment t.shown);
        gave_up = λ behind. (tried, refl);
      }
