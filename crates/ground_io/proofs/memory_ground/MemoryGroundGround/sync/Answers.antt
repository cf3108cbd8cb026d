use Rattle.std.proofs.Common.{◌≡◌, ℕ, true, false, not, List, [], ◌∷◌, Option, refl, sym, ap, subst, ◌∙◌, arith}
use Rattle.std.specs.Prelude.{IsTrue, Contains}
use Rattle.std.specs.Option.{is_some}
use Rattle.std.proofs.lemmas.Bool.{false≢true}
use Rattle.ground_io.specs.InMemory.{MemoryGroundState, FailsAsListedOrUntold, size_of}
use Rattle.ground_io.specs.Counts.{HasCause, next_count}
use Rattle.ground_io.specs.Past.{GoesOn, told_of}
use Rattle.ground_io.specs.Trace.{Adds}
use Rattle.ground_io.specs.declared.entry.Entry.TheVariants.{Synced}
use Rattle.ground_io.specs.declared.past.Past.{Past}
use Rattle.ground_io.proofs.Grounds.{same_size, stays, rises, adds_nothing, none_adds, none_are_told, tells_where_kept, fails_listed, fails_untold, goes_well}
use Rattle.ground_io.specs.contracts.memory_ground.MemoryGround.{the_view}
use Rattle.ground_io.proofs.memory_ground.MemoryGroundGround.sync.Goals.{else-told-via-then-told+else-is_none, else-told-via-else-told}
use Rattle.ground_io.proofs.memory_ground.MemoryGroundGround.sync.Goals as goal

pub returns-then-is_listed_next : goal.returns-then-is_listed_next
returns-then-is_listed_next c =
    let past = c.self.inside.past in
    let items = c.self.inside.contents.items in
    let faults = c.saturating_add-self-inside.result in
    let listed : IsTrue c.is_listed_next.result → Contains c.self.inside.failing.items c.is_listed_next.new.calls =
    subst (λ (l : List ℕ). IsTrue c.is_listed_next.result → Contains l c.is_listed_next.new.calls) c.deref.ensures.value c.is_listed_next.ensures.listed.0 in
    let state : MemoryGroundState = record { contents = items; told = told_of past items; failing = c.self.inside.failing.items; calls = c.is_listed_next.new.calls; disk_faults = faults; emit_faults = c.self.inside.emit_faults } in
    record {
      synced = tt;
      failed = subst (λ (s : MemoryGroundState). Adds s.told (told_of past items) []) c.self.view_is (adds_nothing (told_of past items));
      same = ap size_of c.self.view_is;
      cause = subst (λ (s : MemoryGroundState). HasCause s.disk_faults faults (true ≡ true)) c.self.view_is (rises c.self.inside.disk_faults faults (omega arith) c.saturating_add-self-inside.ensures);
      emitted = ap (λ (s : MemoryGroundState). s.emit_faults) c.self.view_is;
      failing = subst (λ (s : MemoryGroundState). FailsAsListedOrUntold s state (true ≡ true)) c.self.view_is
          (fails_listed (the_view c.self.inside) state c.is_listed_next.result refl c.is_listed_next.ensures.counted listed c.if-is_listed_next.true);
      contents = ap (λ (s : MemoryGroundState). s.contents) c.self.view_is;
      tells = tt;
      failed_tells = λ at. ap (λ (s : MemoryGroundState). s.told) c.self.view_is;
      uncounted = tt;
      counted = c.saturating_add-self-inside.ensures ∙ ap (λ (s : MemoryGroundState). next_count s.disk_faults) c.self.view_is;
    }

pub returns-then-is_none : goal.returns-then-is_none
returns-then-is_none c =
    let past = c.self.inside.past in
    let after = c.after_sync.result in
    let items = c.self.inside.contents.items in
    let faults = c.saturating_add-self-inside-then-is_none.result in
    let untold : is_some after ≡ false = c.is_none.ensures ∙ ap not c.if-is_none.true in
    let told : is_some past ≡ true = sym c.is_some-told.ensures ∙ c.if-told.true in
    let size : size_of c.args.self.now ≡ size_of (the_view c.self.inside) = ap size_of (sym c.self.view_is) in
    let listed : Contains c.self.inside.failing.items c.is_listed_next.new.calls → IsTrue c.is_listed_next.result =
    subst (λ (l : List ℕ). Contains l c.is_listed_next.new.calls → IsTrue c.is_listed_next.result) c.deref.ensures.value c.is_listed_next.ensures.listed.1 in
    let state : MemoryGroundState = record { contents = items; told = told_of after items; failing = c.self.inside.failing.items; calls = c.is_listed_next.new.calls; disk_faults = faults; emit_faults = c.self.inside.emit_faults } in
    record {
      synced = tt;
      failed = none_adds c.args.self.now.told after items [] untold;
      same = same_size past after items items refl c.self.invariant (none_are_told after items untold) ∙ sym size;
      cause = subst (λ (s : MemoryGroundState). HasCause s.disk_faults faults (true ≡ true)) c.self.view_is (rises c.self.inside.disk_faults faults (omega arith) c.saturating_add-self-inside-then-is_none.ensures);
      emitted = ap (λ (s : MemoryGroundState). s.emit_faults) c.self.view_is;
      failing = subst (λ (s : MemoryGroundState). FailsAsListedOrUntold s state (true ≡ true)) c.self.view_is
          (fails_untold (the_view c.self.inside) state refl c.is_listed_next.ensures.counted (tells_where_kept past items ∙ told) (tells_where_kept after items ∙ untold));
      contents = ap (λ (s : MemoryGroundState). s.contents) c.self.view_is;
      tells = tt;
      failed_tells = λ at. absurd (false≢true (sym c.if-is_listed_next.false ∙ listed (subst (λ (s : MemoryGroundState). Contains s.failing c.is_listed_next.new.calls) (sym c.self.view_is) at)));
      uncounted = tt;
      counted = c.saturating_add-self-inside-then-is_none.ensures ∙ ap (λ (s : MemoryGroundState). next_count s.disk_faults) c.self.view_is;
    }

pub returns : goal.returns
returns c =
    let past = c.self.inside.past in
    let after = c.after_sync.result in
    let items = c.self.inside.contents.items in
    let went : GoesOn past after items items Synced = subst (λ (o : Option Past). GoesOn o after items items Synced) c.take.ensures.value (c.after_sync.ensures.goes_on items) in
    let size : size_of c.args.self.now ≡ size_of (the_view c.self.inside) = ap size_of (sym c.self.view_is) in
    let listed : Contains c.self.inside.failing.items c.is_listed_next.new.calls → IsTrue c.is_listed_next.result =
    subst (λ (l : List ℕ). Contains l c.is_listed_next.new.calls → IsTrue c.is_listed_next.result) c.deref.ensures.value c.is_listed_next.ensures.listed.1 in
    let state : MemoryGroundState = record { contents = items; told = told_of after items; failing = c.self.inside.failing.items; calls = c.is_listed_next.new.calls; disk_faults = c.self.inside.disk_faults; emit_faults = c.self.inside.emit_faults } in
    let told : is_some c.args.self.now.told ≡ true → is_some after ≡ true = elim c.else-told.branch [
      | else-told-via-then-told+else-is_none w ↦ λ before. w.is_none.ensures ∙ ap not w.if-is_none.false
      | else-told-via-else-told w ↦ λ before. absurd (false≢true (sym w.if-told.false ∙ c.is_some-told.ensures ∙ sym (tells_where_kept past items) ∙ ap (λ (s : MemoryGroundState). is_some s.told) c.self.view_is ∙ before))
    ] in
    let is : c.else-told.self ≡ state = elim c.else-told.branch [ else-told-via-then-told+else-is_none w ↦ w.self-is | else-told-via-else-told w ↦ w.self-is ] in
    record {
      synced = subst (λ (s : MemoryGroundState). Adds c.args.self.now.told s.told (Synced ∷ [])) (sym is) (subst (λ (s : MemoryGroundState). Adds s.told (told_of after items) (Synced ∷ [])) c.self.view_is went.told);
      failed = tt;
      same = ap size_of is ∙ same_size past after items items refl c.self.invariant (went.kept c.self.invariant) ∙ sym size;
      cause = subst (λ (s : MemoryGroundState). HasCause c.args.self.now.disk_faults s.disk_faults (false ≡ true)) (sym is)
          (subst (λ (s : MemoryGroundState). HasCause s.disk_faults c.self.inside.disk_faults (false ≡ true)) c.self.view_is (stays c.self.inside.disk_faults));
      emitted = ap (λ (s : MemoryGroundState). s.emit_faults) is ∙ ap (λ (s : MemoryGroundState). s.emit_faults) c.self.view_is;
      failing = subst (λ (s : MemoryGroundState). FailsAsListedOrUntold c.args.self.now s (false ≡ true)) (sym is)
          (subst (λ (s : MemoryGroundState). FailsAsListedOrUntold s state (false ≡ true)) c.self.view_is
          (goes_well (the_view c.self.inside) state c.is_listed_next.result refl c.is_listed_next.ensures.counted listed c.if-is_listed_next.false));
      contents = ap (λ (s : MemoryGroundState). s.contents) is ∙ ap (λ (s : MemoryGroundState). s.contents) c.self.view_is;
      tells = λ before. ap (λ (s : MemoryGroundState). is_some s.told) is ∙ tells_where_kept after items ∙ told before;
      failed_tells = λ at. absurd (false≢true (sym c.if-is_listed_next.false ∙ listed (subst (λ (s : MemoryGroundState). Contains s.failing c.is_listed_next.new.calls) (sym c.self.view_is) (subst (λ (s : MemoryGroundState). Contains c.args.self.now.failing s.calls) is at))));
      uncounted = ap (λ (s : MemoryGroundState). s.disk_faults) is ∙ ap (λ (s : MemoryGroundState). s.disk_faults) c.self.view_is;
      counted = tt;
    }
