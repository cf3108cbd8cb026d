-- A last commit, Tick and Pump.
use Rattle.std.proofs.Common.{Option, ◌≡◌, ℕ, [], ◌++◌, refl, sym, ap, ◌∙◌, subst}
use Rattle.std.proofs.lemmas.List.{append-nil}
use Rattle.std.proofs.lemmas.List.Elements.{All-append}
use Rattle.std.specs.Prelude.{Result}
use Rattle.std.specs.List.{All}
use Rattle.bac_values.specs.declared.input.Input.TheVariants.{Tick, Pump}
use Rattle.ground_io.specs.Trace.{Told}
use Rattle.turnstile.specs.Passes.{Known}
use Rattle.alarm_core.specs.State.{CoreState}
use Rattle.alarm_journal.specs.Press.{PressState}
use Rattle.floor_desk.specs.declared.entry.Entry.{Entry}
use Rattle.floor_desk.specs.declared.entry.Ticket.{Ticket}
use Rattle.floor_desk.specs.declared.faults.EnterFault.{EnterFault}
use Rattle.floor_desk.specs.Serving.{AreLast}
use Rattle.floor_desk.specs.ServingSteps.{HasEnded}
use Rattle.floor_desk.specs.Tries.{Try, tries_in}
use Rattle.floor_desk.specs.WorkersSteps.{HasTried}
use Rattle.floor_desk.proofs.Working.{MadeCommit, no_tries, tries_append, worked_then}

module _ {G : Type 0} where
  pub ended : (told : G → Option Told) (size disk_faults emit_faults : G → ℕ) (origin : CoreState × PressState G) (shows : ℕ → Type 0) (p q r s : Known (Entry G) (CoreState × PressState G)) (tick pump : Result Ticket EnterFault) → MadeCommit told size disk_faults emit_faults origin p q → HasTried shows q r Tick tick → HasTried shows r s Pump pump → HasEnded shows p s tick pump
  ended told size disk_faults emit_faults origin shows p q r s tick pump c t u =
      let S : Try → Type 0 = λ (one : Try). shows one.moment in
      let both = t.entries ++ u.entries in
      let same : tries_in (c.entries ++ both) ≡ tries_in t.entries ++ tries_in u.entries = tries_append c.entries both ∙ (ap (λ z. z ++ tries_in both) (no_tries c.entries c.parts) ∙ tries_append t.entries u.entries) in record {
        entries = c.entries ++ both;
        worked = worked_then p q s c.entries both c.worked (worked_then q r s t.entries u.entries t.worked u.worked);
        ends = record {
          tries = subst (λ z. AreLast z tick pump) (sym same) (tries_in t.entries, tries_in u.entries, refl, t.tried, (tries_in u.entries, [], sym (append-nil (tries_in u.entries)), u.tried, refl));
          shown = subst (λ z. All S z) (sym same) (All-append S (tries_in t.entries) (tries_in u.entries) t.shown u.shown);
        };
      }
