use Rattle.std.proofs.Common.{◌≡◌, ℕ, true, false, List, [], refl, ap, subst, ◌∙◌, arith}
use Rattle.std.specs.Prelude.{◌↔◌, IsTrue, Contains}
use Rattle.ground_io.specs.InMemory.{MemoryGroundState, FailsAsListed, size_of}
use Rattle.ground_io.specs.Counts.{HasCause, next_count}
use Rattle.ground_io.specs.Past.{told_of}
use Rattle.ground_io.specs.Trace.{Adds}
use Rattle.ground_io.proofs.Grounds.{rises, stays, adds_nothing, fails_as_listed}
use Rattle.ground_io.specs.contracts.memory_ground.MemoryGround.{the_view}
use Rattle.ground_io.proofs.memory_ground.MemoryGroundGround.size.Goals as goal

pub returns-then-is_listed_next : goal.returns-then-is_listed_next
returns-then-is_listed_next c =
    let items = c.self.inside.contents.items in
    let told = told_of c.self.inside.past items in
    let calls = c.is_listed_next.new.calls in
    let faults = c.saturating_add-self-inside.result in
    let listed : IsTrue c.is_listed_next.result ↔ Contains c.self.inside.failing.items calls =
    subst (λ (l : List ℕ). IsTrue c.is_listed_next.result ↔ Contains l calls) c.deref.ensures.value c.is_listed_next.ensures.listed in
    let state : MemoryGroundState = record { contents = items; told = told; failing = c.self.inside.failing.items; calls = calls; disk_faults = faults; emit_faults = c.self.inside.emit_faults } in
    record {
      answer = tt;
      same = ap size_of c.self.view_is;
      told = subst (λ (s : MemoryGroundState). Adds s.told told []) c.self.view_is (adds_nothing told);
      cause = subst (λ (s : MemoryGroundState). HasCause s.disk_faults faults (true ≡ true)) c.self.view_is (rises c.self.inside.disk_faults faults (omega arith) c.saturating_add-self-inside.ensures);
      emitted = ap (λ (s : MemoryGroundState). s.emit_faults) c.self.view_is;
      failing = subst (λ (s : MemoryGroundState). FailsAsListed s state (true ≡ true)) c.self.view_is
          (fails_as_listed (the_view c.self.inside) state c.is_listed_next.result true refl c.is_listed_next.ensures.counted listed c.if-is_listed_next.true);
      contents = ap (λ (s : MemoryGroundState). s.contents) c.self.view_is;
      tells = ap (λ (s : MemoryGroundState). s.told) c.self.view_is;
      uncounted = tt;
      counted = c.saturating_add-self-inside.ensures ∙ ap (λ (s : MemoryGroundState). next_count s.disk_faults) c.self.view_is;
    }

pub returns-clause-told : goal.returns-clause-told
returns-clause-told c =
    let told = told_of c.self.inside.past c.self.inside.contents.items in
    subst (λ (s : MemoryGroundState). Adds s.told told []) c.self.view_is (adds_nothing told)

pub returns-clause-cause : goal.returns-clause-cause
returns-clause-cause c = subst (λ (s : MemoryGroundState). HasCause s.disk_faults c.self.inside.disk_faults (false ≡ true)) c.self.view_is (stays c.self.inside.disk_faults)

pub returns-clause-failing : goal.returns-clause-failing
returns-clause-failing c =
    let items = c.self.inside.contents.items in
    let calls = c.is_listed_next.new.calls in
    let listed : IsTrue c.is_listed_next.result ↔ Contains c.self.inside.failing.items calls =
    subst (λ (l : List ℕ). IsTrue c.is_listed_next.result ↔ Contains l calls) c.deref.ensures.value c.is_listed_next.ensures.listed in
    let state : MemoryGroundState = record { contents = items; told = told_of c.self.inside.past items; failing = c.self.inside.failing.items; calls = calls; disk_faults = c.self.inside.disk_faults; emit_faults = c.self.inside.emit_faults } in
    subst (λ (s : MemoryGroundState). FailsAsListed s state (false ≡ true)) c.self.view_is
    (fails_as_listed (the_view c.self.inside) state c.is_listed_next.result false refl c.is_listed_next.ensures.counted listed c.if-is_listed_next.false)
