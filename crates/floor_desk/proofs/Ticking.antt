-- Ticks and pumps, a round more each time.
use Rattle.std.proofs.Common.{Option, ◌≡◌, ℕ, List, [], ◌∷◌, ◌++◌, refl, sym, ap, ◌∙◌, subst}
use Rattle.std.proofs.lemmas.List.Elements.{All-append, All-cons, All-nil}
use Rattle.std.specs.List.{All}
use Rattle.std.proofs.lemmas.List.{append-nil}
use Rattle.std.specs.Prelude.{Result}
use Rattle.bac_values.specs.declared.input.Input.{Input}
use Rattle.bac_values.specs.declared.input.Input.TheVariants.{Tick, Pump}
use Rattle.ground_io.specs.Trace.{Told}
use Rattle.turnstile.specs.Passes.{Known}
use Rattle.noted.specs.declared.noted.Noted.{Noted}
use Rattle.alarm_core.specs.State.{CoreState}
use Rattle.alarm_journal.specs.Press.{PressState}
use Rattle.floor_desk.specs.declared.entry.Entry.{Entry}
use Rattle.floor_desk.specs.declared.entry.Ticket.{Ticket}
use Rattle.floor_desk.specs.declared.faults.EnterFault.{EnterFault}
use Rattle.floor_desk.specs.Accounts.{entry_for}
use Rattle.floor_desk.specs.Desks.{MakesEntry}
use Rattle.floor_desk.specs.Tries.{AreTicks, IsOfCommit, IsOfInput, Try, tried_by, tries_in}
use Rattle.floor_desk.specs.Workers.{HasKept, HasTicked, MadeEntries}
use Rattle.floor_desk.proofs.Working.{MadeCommit, is_of_input, tried_of, tries_append, worked_entry, worked_none, worked_then}

ticks_more : (tries more : List Try) → AreTicks tries → AreTicks more → AreTicks (tries ++ more)
ticks_more [] more none rounds = rounds
ticks_more (tick ∷ []) more one rounds = absurd one
ticks_more (tick ∷ (pump ∷ rest)) more (first, second, others) rounds = (first, second, ticks_more rest more others rounds)

module _ {G : Type 0} where
  pub ticked_none : (shows : ℕ → Type 0) (p : Known (Entry G) (CoreState × PressState G)) → HasTicked shows p p
  ticked_none shows p = record { entries = []; worked = worked_none p; ticks = tt; parts = All-nil IsOfInput; shown = All-nil (λ (one : Try). shows one.moment) }

  pub ticked_more : (shows : ℕ → Type 0) (p q r : Known (Entry G) (CoreState × PressState G)) → HasTicked shows p q → HasTicked shows q r → HasTicked shows p r
  ticked_more shows p q r a b =
      let S : Try → Type 0 = λ (t : Try). shows t.moment in
      let tries = tries_append a.entries b.entries in record {
        entries = a.entries ++ b.entries;
        worked = worked_then p q r a.entries b.entries a.worked b.worked;
        ticks = subst AreTicks (sym tries) (ticks_more (tries_in a.entries) (tries_in b.entries) a.ticks b.ticks);
        parts = All-append IsOfInput a.entries b.entries a.parts b.parts;
        shown = subst (λ z. All S z) (sym tries) (All-append S (tries_in a.entries) (tries_in b.entries) a.shown b.shown);
      }

  -- a Tick and then a Pump
  pub ticked_once : (told : G → Option Told) (size disk_faults emit_faults : G → ℕ) (origin : CoreState × PressState G) (shows : ℕ → Type 0) (p q r : Known (Entry G) (CoreState × PressState G)) (one two : Noted Input) (early late : ℕ) (first second : Result Ticket EnterFault) → one.value ≡ Tick → shows early → MakesEntry told size disk_faults emit_faults origin p q (entry_for one early first)
      → two.value ≡ Pump → shows late → MakesEntry told size disk_faults emit_faults origin q r (entry_for two late second) → HasTicked shows p r
  ticked_once told size disk_faults emit_faults origin shows p q r one two early late first second is_tick shown adds is_pump shown' adds' =
      let S : Try → Type 0 = λ (t : Try). shows t.moment in
      let e : Entry G = entry_for one early first in let f : Entry G = entry_for two late second in
      let t : Try = record { input = one.value; moment = early; answer = first } in let u : Try = record { input = two.value; moment = late; answer = second } in
      let same : tries_in (e ∷ (f ∷ [])) ≡ t ∷ (u ∷ []) = ap (λ z. z ++ (tried_by f ++ [])) (tried_of e one early first refl) ∙ ap (λ z. t ∷ (z ++ [])) (tried_of f two late second refl) in record {
        entries = e ∷ (f ∷ []);
        worked = worked_then p q r (e ∷ []) (f ∷ []) (worked_entry told size disk_faults emit_faults origin p q e adds) (worked_entry told size disk_faults emit_faults origin q r f adds');
        ticks = subst AreTicks (sym same) (is_tick, is_pump, tt);
        parts = All-cons IsOfInput e (f ∷ []) (is_of_input e one early first refl) (All-cons IsOfInput f [] (is_of_input f two late second refl) (All-nil IsOfInput));
        shown = subst (λ z. All S z) (sym same) (All-cons S t (u ∷ []) shown (All-cons S u [] shown' (All-nil S)));
      }

  -- and a look at the mark behind them
  pub ticked_looked : (shows : ℕ → Type 0) (p q r : Known (Entry G) (CoreState × PressState G)) → HasTicked shows p q → MadeEntries q r [] → HasTicked shows p r
  ticked_looked shows p q r t w = record {
    entries = t.entries;
    worked = subst (λ (z : List (Entry G)). MadeEntries p r z) (append-nil t.entries) (worked_then p q r t.entries [] t.worked w);
    ticks = t.ticks;
    parts = t.parts;
    shown = t.shown;
  }

  pub kept_none : (p : Known (Entry G) (CoreState × PressState G)) → HasKept p p
  kept_none p = record { entries = []; worked = worked_none p; parts = All-nil IsOfCommit }

  pub kept_more : (told : G → Option Told) (size disk_faults emit_faults : G → ℕ) (origin : CoreState × PressState G) (p q r : Known (Entry G) (CoreState × PressState G)) → HasKept p q → MadeCommit told size disk_faults emit_faults origin q r → HasKept p r
  kept_more told size disk_faults emit_faults origin p q r a b = record {
    entries = a.entries ++ b.entries;
    worked = worked_then p q r a.entries b.entries a.worked b.worked;
    parts = All-append IsOfCommit a.entries b.entries a.parts b.parts;
  }
