use Rattle.std.proofs.Common.{◌≡◌, drop, ap, sym, ◌∙◌, ℕ, List, length, min, take, true, false, refl, subst, arith}
use Rattle.std.specs.Prelude.{IsTrue, Contains}
use Rattle.std.proofs.lemmas.Bool.{false≢true}
use Rattle.ground_io.specs.Counts.{HasCause}
use Rattle.ground_io.proofs.Grounds.{rises, stays}
use Rattle.ground_io.specs.InMemory.{MemorySourceState}
use Rattle.ground_io.proofs.Consuming.{consumed}
use Rattle.ground_io.proofs.memory_source.MemorySourceSource.read.Goals as goal

pub returns-clause-octets : goal.returns-clause-octets
returns-clause-octets c =
    let octets = c.self.inside.octets.items in
    let into = c.copy_front-count.new.into in
    let rest : c.rest.result.now ≡ drop c.self.inside.place octets = c.rest.ensures.rest ∙ ap (λ (l : List ℕ). drop c.self.inside.place l) c.deref-2.ensures.value in
    let same : length c.args.into.now ≡ length into = sym c.copy_front-count.auto.into in
    consumed c.args.self.now.left octets into c.self.inside.place c.copy_front-count.result (ap (λ (s : MemorySourceState). s.left) (sym c.self.view_is))
    (c.copy_front-count.ensures.count ∙ (λ i. min (length (rest i)) (same i)))
    (c.copy_front-count.ensures.copied ∙ ap (λ (l : List ℕ). take c.copy_front-count.result l) rest)

pub returns-clause-cause : goal.returns-clause-cause
returns-clause-cause c = subst (λ (s : MemorySourceState). HasCause s.faults c.self.inside.faults (false ≡ true)) c.self.view_is (stays c.self.inside.faults)

pub returns-clause-listed : goal.returns-clause-listed
returns-clause-listed c =
    let calls = c.is_listed_next.new.calls in
    let listed : Contains c.self.inside.failing.items calls → IsTrue c.is_listed_next.result =
    subst (λ (l : List ℕ). Contains l calls → IsTrue c.is_listed_next.result) c.deref.ensures.value c.is_listed_next.ensures.listed.1 in
    (λ fault. absurd (false≢true fault), λ at. sym c.if-is_listed_next.false ∙ listed (subst (λ (s : MemorySourceState). Contains s.failing calls) (sym c.self.view_is) at))

pub returns-then-is_listed_next-clause-cause : goal.returns-then-is_listed_next-clause-cause
returns-then-is_listed_next-clause-cause c =
    let faults = c.saturating_add-self-inside.result in
    subst (λ (s : MemorySourceState). HasCause s.faults faults (true ≡ true)) c.self.view_is (rises c.self.inside.faults faults (omega arith) c.saturating_add-self-inside.ensures)

pub returns-then-is_listed_next-clause-listed : goal.returns-then-is_listed_next-clause-listed
returns-then-is_listed_next-clause-listed c =
    let calls = c.is_listed_next.new.calls in
    let listed : IsTrue c.is_listed_next.result → Contains c.self.inside.failing.items calls =
    subst (λ (l : List ℕ). IsTrue c.is_listed_next.result → Contains l calls) c.deref.ensures.value c.is_listed_next.ensures.listed.0 in
    (λ so. subst (λ (s : MemorySourceState). Contains s.failing calls) c.self.view_is (listed c.if-is_listed_next.true), λ at. refl)
