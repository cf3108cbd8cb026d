-- The turns of a worker, and the calls that it made behind them.
use Rattle.std.proofs.Common.{◌≡◌, ℕ, ◌+◌, ◌≤◌, List, [], ◌∷◌, ◌++◌, arith, sym, ap, ◌∙◌, subst, append_assoc}
use mathlib.Core.Logic.{dite}
use native.Mathlib.Decide.{dec_le}
use Rattle.std.proofs.lemmas.List.{append-nil}
use Rattle.std.specs.Prelude.{Option, Result}
use Rattle.ground_io.specs.Counts.{next_count}
use Rattle.ground_io.specs.Trace.{Told}
use Rattle.ground_io.specs.declared.gate.Worker.{Worker}
use Rattle.turnstile.specs.Passes.{Known}
use Rattle.alarm_core.specs.State.{CoreState}
use Rattle.alarm_journal.specs.Press.{PressState}
use Rattle.floor_desk.specs.declared.entry.Entry.{Entry}
use Rattle.floor_desk.specs.declared.entry.Entry.TheVariants.{Event as Happened, Looked, Taken, Returned, Failed}
use Rattle.floor_desk.specs.declared.faults.CommitFault.{CommitFault}
use Rattle.floor_desk.specs.declared.steps.Steps.{Steps}
use Rattle.floor_desk.specs.Desks.{HasCommitted, MakesEntry}
use Rattle.floor_desk.specs.Workers.{GoesThrough, MadeEntries, calls_in}
use Rattle.floor_desk.proofs.Working.{calls_one, made_commit, worked_entry}

-- ---- the steps of a worker

-- the same worker has made one step more, and gone through its gate for it
record IsStepped (turn : Worker → ℕ → Type 0) (worker : Worker) (old new : Steps) : Type 0 where
  count : new.count ≡ next_count old.count
  passed : turn worker (next_count old.count)

pub worker_stays : (worker : Worker) (old new : Steps) → old.worker ≡ worker → new ≡ record old { count = next_count old.count } → new.worker ≡ worker
worker_stays worker old new is next = ap (λ (s : Steps). s.worker) next ∙ is

stepped : (turn : Worker → ℕ → Type 0) (worker : Worker) (old new : Steps) → old.worker ≡ worker → new ≡ record old { count = next_count old.count } → turn new.worker new.count → IsStepped turn worker old new
stepped turn worker old new is next passed =
    let same : new.worker ≡ worker = ap (λ (s : Steps). s.worker) next ∙ is in
    let count : new.count ≡ next_count old.count = ap (λ (s : Steps). s.count) next in
    record { count = count; passed = subst (λ (n : ℕ). turn worker n) count (subst (λ (w : Worker). turn w new.count) same passed) }

module _ {G : Type 0} where
  calls_append : (es fs : List (Entry G)) → calls_in (es ++ fs) ≡ calls_in es + calls_in fs
  calls_append [] fs = omega arith
  calls_append (Happened input moment ticket ∷ es) fs = let rest = calls_append es fs in omega (arith, rest)
  calls_append (Looked look ∷ es) fs = let rest = calls_append es fs in omega (arith, rest)
  calls_append (Taken upto ∷ es) fs = let rest = calls_append es fs in omega (arith, rest)
  calls_append (Returned upto press ∷ es) fs = calls_append es fs
  calls_append (Failed upto device ∷ es) fs = calls_append es fs

  module _ (passed : ℕ → Type 0) where
    -- before the first step
    pub through_none : (from : ℕ) (p : Known (Entry G) (CoreState × PressState G)) → GoesThrough passed from from p p
    through_none from p = record {
      entries = [];
      mine = sym (append-nil p.mine);
      turns = λ step above below. absurd (omega (arith, above, below));
      calls = omega arith;
    }

    -- one stretch behind the other
    pub through_then : (from mid to : ℕ) (p q r : Known (Entry G) (CoreState × PressState G)) → GoesThrough passed from mid p q → GoesThrough passed mid to q r → GoesThrough passed from to p r
    through_then from mid to p q r a b = record {
      entries = a.entries ++ b.entries;
      mine = b.mine ∙ (ap (λ z. z ++ b.entries) a.mine ∙ append_assoc p.mine a.entries b.entries);
      turns = λ step above below. dite (dec_le step mid) (λ few. a.turns step above few) (λ more. b.turns step (omega (arith, more)) below);
      calls = omega (arith, calls_append a.entries b.entries, a.calls, b.calls);
    }

    -- one step, and one call behind it, or none
    pub through_once : (from : ℕ) (p q : Known (Entry G) (CoreState × PressState G)) (entries : List (Entry G)) → passed (next_count from) → MadeEntries p q entries → calls_in entries ≤ 1 → GoesThrough passed from (next_count from) p q
    through_once from p q entries turn worked one = record {
      entries = entries;
      mine = ap (λ (k : Known (Entry G) (CoreState × PressState G)). k.mine) worked.same;
      turns = λ step above below. subst passed (let last : next_count from ≡ step = omega (arith, above, below) in last) turn;
      calls = omega (arith, one);
    }

  -- ---- by the steps of a worker

  module _ (turn : Worker → ℕ → Type 0) (worker : Worker) where
    -- a step more, and what was made behind it
    pub through_step : (from : ℕ) (old new : Steps) (p q r : Known (Entry G) (CoreState × PressState G)) (entries : List (Entry G)) → GoesThrough (turn worker) from old.count p q → old.worker ≡ worker → new ≡ record old { count = next_count old.count } → turn new.worker new.count
        → MadeEntries q r entries → calls_in entries ≤ 1 → GoesThrough (turn worker) from new.count p r
    through_step from old new p q r entries before is next passed worked one =
        let s = stepped turn worker old new is next passed in
        subst (λ (n : ℕ). GoesThrough (turn worker) from n p r) (sym s.count)
        (through_then (turn worker) from old.count (next_count old.count) p q r before (through_once (turn worker) old.count q r entries s.passed worked one))

    -- an input
    pub through_entry : (told : G → Option Told) (size disk_faults emit_faults : G → ℕ) (origin : CoreState × PressState G) (from : ℕ) (old new : Steps) (p q r : Known (Entry G) (CoreState × PressState G)) (e : Entry G) → GoesThrough (turn worker) from old.count p q → old.worker ≡ worker
        → new ≡ record old { count = next_count old.count } → turn new.worker new.count → MakesEntry told size disk_faults emit_faults origin q r e → GoesThrough (turn worker) from new.count p r
    through_entry told size disk_faults emit_faults origin from old new p q r e before is next passed made =
        through_step from old new p q r (e ∷ []) before is next passed (worked_entry told size disk_faults emit_faults origin q r e made) (calls_one e)

    -- a commit
    pub through_commit : (told : G → Option Told) (size disk_faults emit_faults : G → ℕ) (origin : CoreState × PressState G) (from : ℕ) (old new : Steps) (p q r : Known (Entry G) (CoreState × PressState G)) (answer : Result ℕ CommitFault) → GoesThrough (turn worker) from old.count p q → old.worker ≡ worker
        → new ≡ record old { count = next_count old.count } → turn new.worker new.count → HasCommitted told size disk_faults emit_faults origin q r answer → GoesThrough (turn worker) from new.count p r
    through_commit told size disk_faults emit_faults origin from old new p q r answer before is next passed committed =
        let made = made_commit told size disk_faults emit_faults origin q r answer committed in through_step from old new p q r made.entries before is next passed made.worked made.calls
