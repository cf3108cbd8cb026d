use Rattle.std.proofs.Common.{◌≡◌, ℕ, true, false, List, length, drop, get_or, ◌+◌, ◌<◌, ◌≤◌, refl, sym, ap, subst, ◌∙◌, arith}
use Rattle.std.specs.Prelude.{IsTrue, Contains}
use Rattle.std.proofs.lemmas.Bool.{false≢true}
use Rattle.std.proofs.lemmas.List.{drop_all}
use Rattle.bac_values.specs.declared.note.Send.{Send}
use Rattle.ground_io.specs.Link.{Takes}
use Rattle.ground_io.specs.declared.link.Received.TheVariants.{Datagram}
use Rattle.ground_io.proofs.Links.{drop_next, fits_into, takes_next, takes_something}
use Rattle.ground_io.specs.InMemory.{MemoryLinkState}
use Rattle.ground_io.specs.Counts.{HasCause, next_count}
use Rattle.ground_io.proofs.Grounds.{stays, rises}
use Rattle.ground_io.proofs.memory_link.MemoryLinkLink.receive.Goals as goal

pub returns-then-is_listed_next : goal.returns-then-is_listed_next
returns-then-is_listed_next c =
    let faults = c.saturating_add-self-inside.result in
    let calls = c.is_listed_next.new.calls in
    let listed : IsTrue c.is_listed_next.result → Contains c.self.inside.failing.items calls =
    subst (λ (l : List ℕ). IsTrue c.is_listed_next.result → Contains l calls) c.deref.ensures.value c.is_listed_next.ensures.listed.0 in
    record {
      bound = tt;
      datagrams = ap (λ (s : MemoryLinkState). s.left) c.self.view_is;
      cause = subst (λ (s : MemoryLinkState). HasCause s.faults faults (true ≡ true)) c.self.view_is (rises c.self.inside.faults faults (omega arith) c.saturating_add-self-inside.ensures);
      uncounted = tt;
      counted = c.saturating_add-self-inside.ensures ∙ ap (λ (s : MemoryLinkState). next_count s.faults) c.self.view_is;
      failing = ap (λ (s : MemoryLinkState). s.failing) c.self.view_is;
      calls = c.is_listed_next.ensures.counted ∙ ap (λ (s : MemoryLinkState). next_count s.calls) c.self.view_is;
      listed = (λ so. subst (λ (s : MemoryLinkState). Contains s.failing calls) c.self.view_is (listed c.if-is_listed_next.true), λ at. refl);
      nothing = tt;
      kept = refl;
    }

pub returns-in_default : goal.returns-in_default
returns-in_default c =
    let items = c.self.inside.datagrams.items in
    let calls = c.is_listed_next.new.calls in
    let listed : Contains c.self.inside.failing.items calls → IsTrue c.is_listed_next.result =
    subst (λ (l : List ℕ). Contains l calls → IsTrue c.is_listed_next.result) c.deref.ensures.value c.is_listed_next.ensures.listed.1 in
    let past : length items ≤ c.self.inside.place = subst (λ (l : List Send). length l ≤ c.self.inside.place) c.deref-2.ensures.value c.in_default.ensures.lookup.3 in
    let left : drop c.self.inside.place items ≡ c.args.self.now.left = ap (λ (s : MemoryLinkState). s.left) c.self.view_is in
    record {
      bound = tt;
      datagrams = left;
      cause = subst (λ (s : MemoryLinkState). HasCause s.faults c.self.inside.faults (false ≡ true)) c.self.view_is (stays c.self.inside.faults);
      uncounted = ap (λ (s : MemoryLinkState). s.faults) c.self.view_is;
      counted = tt;
      failing = ap (λ (s : MemoryLinkState). s.failing) c.self.view_is;
      calls = c.is_listed_next.ensures.counted ∙ ap (λ (s : MemoryLinkState). next_count s.calls) c.self.view_is;
      listed = (λ fault. absurd (false≢true fault), λ at. sym c.if-is_listed_next.false ∙ listed (subst (λ (s : MemoryLinkState). Contains s.failing calls) (sym c.self.view_is) at));
      nothing = (λ none. sym left ∙ drop_all c.self.inside.place items past, λ none. refl);
      kept = tt;
    }

pub returns : goal.returns
returns c =
    let items = c.self.inside.datagrams.items in
    let place = c.self.inside.place in
    let datagram = c.in-Some.datagram.now in
    let count = c.copy_front-length.result in
    let before = c.args.into.now in
    let after = c.copy_front-length.new.into in
    let calls = c.is_listed_next.new.calls in
    let listed : Contains c.self.inside.failing.items calls → IsTrue c.is_listed_next.result =
    subst (λ (l : List ℕ). Contains l calls → IsTrue c.is_listed_next.result) c.deref.ensures.value c.is_listed_next.ensures.listed.1 in
    let at : (place < length items) × ((d : Send) → datagram ≡ get_or items place d) =
    subst (λ (l : List Send). (place < length l) × ((d : Send) → datagram ≡ get_or l place d)) c.deref-2.ensures.value c.in-Some.ensures.lookup.3 in
    let left : drop place items ≡ c.args.self.now.left = ap (λ (s : MemoryLinkState). s.left) c.self.view_is in
    record {
      bound = fits_into count (length c.as_slice.result.now) before after c.copy_front-length.ensures.count c.copy_front-length.auto.into;
      datagrams = subst (λ (l : List Send). Takes (Datagram datagram.peer count) before after l (drop (place + 1) items)) left
          (takes_next items place datagram count before after c.as_slice.result.now at.0 at.1 c.as_slice.ensures.same c.copy_front-length.ensures.count c.copy_front-length.ensures.copied c.copy_front-length.ensures.behind);
      cause = subst (λ (s : MemoryLinkState). HasCause s.faults c.self.inside.faults (false ≡ true)) c.self.view_is (stays c.self.inside.faults);
      uncounted = ap (λ (s : MemoryLinkState). s.faults) c.self.view_is;
      counted = tt;
      failing = ap (λ (s : MemoryLinkState). s.failing) c.self.view_is;
      calls = c.is_listed_next.ensures.counted ∙ ap (λ (s : MemoryLinkState). next_count s.calls) c.self.view_is;
      listed = (λ fault. absurd (false≢true fault), λ at. sym c.if-is_listed_next.false ∙ listed (subst (λ (s : MemoryLinkState). Contains s.failing calls) (sym c.self.view_is) at));
      nothing = takes_something c.args.self.now.left datagram.peer count datagram (drop (place + 1) items) (sym left ∙ drop_next items place datagram at.0 at.1);
      kept = tt;
    }
