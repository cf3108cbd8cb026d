use Rattle.std.proofs.Common.{◌≡◌, ◌⊎◌, inl, inr, ℕ, Bool, true, false, not, List, [], ◌∷◌, Option, refl, sym, ap, subst, ◌∙◌, arith}
use Rattle.std.specs.Prelude.{IsTrue, Contains}
use Rattle.std.specs.Option.{is_some}
use Rattle.std.proofs.lemmas.Bool.{false≢true}
use Rattle.ground_io.specs.InMemory.{MemoryGroundState, FailsAsListedOrUntold, size_of}
use Rattle.ground_io.specs.Counts.{HasCause, next_count}
use Rattle.ground_io.specs.Past.{GoesOn, told_of}
use Rattle.ground_io.specs.Trace.{Adds, sending}
use Rattle.ground_io.specs.declared.entry.Entry.TheVariants.{Emitted, Lost}
use Rattle.ground_io.specs.declared.past.Past.{Past}
use Rattle.ground_io.proofs.Grounds.{same_size, stays, rises, none_adds, tells_where_kept, fails_listed, fails_untold, goes_well}
use Rattle.ground_io.specs.contracts.memory_ground.MemoryGround.{the_view}
use Rattle.ground_io.proofs.memory_ground.MemoryGroundGround.emit.Goals.{then-fails-via-then-fails, then-fails-via-else-fails+then-is_none, then-told, else-told}
use Rattle.ground_io.proofs.memory_ground.MemoryGroundGround.emit.Goals as goal

pub returns-then-fails : goal.returns-then-fails
returns-then-fails c =
    let past = c.self.inside.past in
    let after = c.after_emission.result in
    let items = c.self.inside.contents.items in
    let octets = c.args.octets.now in
    let faults = c.saturating_add-self-inside.result in
    let fails = c.is_listed_next-fails.result in
    let went : GoesOn past after items items (sending fails c.args.peer octets) =
    subst (λ (o : Option Past). GoesOn o after items items (sending fails c.args.peer octets)) c.take.ensures.value (c.after_emission.ensures.goes_on items) in
    let how : (fails ≡ true) ⊎ ((is_some past ≡ true) × (is_some after ≡ false)) = elim c.then-fails.branch [
      | then-fails-via-then-fails w ↦ inl w.if-fails.true
      | then-fails-via-else-fails+then-is_none w ↦ elim w.if-told.branch [
        | then-told v ↦ inr (sym c.is_some-told.ensures ∙ v.if-told.true, v.is_none.ensures ∙ ap not (sym v.value-is ∙ w.if-is_none.true))
        | else-told v ↦ absurd (false≢true (sym v.if-told.false ∙ sym v.value-is ∙ w.if-is_none.true))
      ]
    ] in
    let size : size_of c.args.self.now ≡ size_of (the_view c.self.inside) = ap size_of (sym c.self.view_is) in
    let listed : IsTrue fails → Contains c.self.inside.failing.items c.is_listed_next-fails.new.calls =
    subst (λ (l : List ℕ). IsTrue fails → Contains l c.is_listed_next-fails.new.calls) c.deref.ensures.value c.is_listed_next-fails.ensures.listed.0 in
    let state : MemoryGroundState = record { contents = items; told = told_of after items; failing = c.self.inside.failing.items; calls = c.is_listed_next-fails.new.calls; disk_faults = c.self.inside.disk_faults; emit_faults = faults } in
    let failing : FailsAsListedOrUntold (the_view c.self.inside) state (true ≡ true) = elim how [
      | inl so ↦ fails_listed (the_view c.self.inside) state fails refl c.is_listed_next-fails.ensures.counted listed so
      | inr h ↦ fails_untold (the_view c.self.inside) state refl c.is_listed_next-fails.ensures.counted (tells_where_kept past items ∙ h.0) (tells_where_kept after items ∙ h.1)
    ] in
    let told : Adds (told_of past items) (told_of after items) (Lost c.args.peer octets ∷ []) = elim how [
      | inl so ↦ subst (λ (b : Bool). Adds (told_of past items) (told_of after items) (sending b c.args.peer octets ∷ [])) so went.told
      | inr h ↦ none_adds (told_of past items) after items (Lost c.args.peer octets ∷ []) h.1
    ] in
    record {
      told = subst (λ (s : MemoryGroundState). Adds s.told (told_of after items) (Lost c.args.peer octets ∷ [])) c.self.view_is told;
      same = same_size past after items items refl c.self.invariant (went.kept c.self.invariant) ∙ sym size;
      disk = ap (λ (s : MemoryGroundState). s.disk_faults) c.self.view_is;
      cause = subst (λ (s : MemoryGroundState). HasCause s.emit_faults faults (true ≡ true)) c.self.view_is (rises c.self.inside.emit_faults faults (omega arith) c.saturating_add-self-inside.ensures);
      failing = subst (λ (s : MemoryGroundState). FailsAsListedOrUntold s state (true ≡ true)) c.self.view_is failing;
      contents = ap (λ (s : MemoryGroundState). s.contents) c.self.view_is;
      tells = tt;
      uncounted = tt;
      counted = c.saturating_add-self-inside.ensures ∙ ap (λ (s : MemoryGroundState). next_count s.emit_faults) c.self.view_is;
    }

pub returns : goal.returns
returns c =
    let past = c.self.inside.past in
    let after = c.after_emission.result in
    let items = c.self.inside.contents.items in
    let octets = c.args.octets.now in
    let entry = Emitted c.args.peer octets in
    let went : GoesOn past after items items entry =
    subst (λ (b : Bool). GoesOn past after items items (sending b c.args.peer octets)) c.if-fails.false
    (subst (λ (o : Option Past). GoesOn o after items items (sending c.is_listed_next-fails.result c.args.peer octets)) c.take.ensures.value (c.after_emission.ensures.goes_on items)) in
    let size : size_of c.args.self.now ≡ size_of (the_view c.self.inside) = ap size_of (sym c.self.view_is) in
    let listed : Contains c.self.inside.failing.items c.is_listed_next-fails.new.calls → IsTrue c.is_listed_next-fails.result =
    subst (λ (l : List ℕ). Contains l c.is_listed_next-fails.new.calls → IsTrue c.is_listed_next-fails.result) c.deref.ensures.value c.is_listed_next-fails.ensures.listed.1 in
    let state : MemoryGroundState = record { contents = items; told = told_of after items; failing = c.self.inside.failing.items; calls = c.is_listed_next-fails.new.calls; disk_faults = c.self.inside.disk_faults; emit_faults = c.self.inside.emit_faults } in
    record {
      told = subst (λ (s : MemoryGroundState). Adds s.told (told_of after items) (entry ∷ [])) c.self.view_is went.told;
      same = same_size past after items items refl c.self.invariant (went.kept c.self.invariant) ∙ sym size;
      disk = ap (λ (s : MemoryGroundState). s.disk_faults) c.self.view_is;
      cause = subst (λ (s : MemoryGroundState). HasCause s.emit_faults c.self.inside.emit_faults (false ≡ true)) c.self.view_is (stays c.self.inside.emit_faults);
      failing = subst (λ (s : MemoryGroundState). FailsAsListedOrUntold s state (false ≡ true)) c.self.view_is
          (goes_well (the_view c.self.inside) state c.is_listed_next-fails.result refl c.is_listed_next-fails.ensures.counted listed c.if-fails.false);
      contents = ap (λ (s : MemoryGroundState). s.contents) c.self.view_is;
      tells = elim c.if-told.branch [
        | then-told w ↦ λ before. tells_where_kept after items ∙ w.is_none.ensures ∙ ap not (sym w.value-is ∙ c.if-is_none.false)
        | else-told w ↦ λ before. absurd (false≢true (sym w.if-told.false ∙ c.is_some-told.ensures ∙ sym (tells_where_kept past items) ∙ ap (λ (s : MemoryGroundState). is_some s.told) c.self.view_is ∙ before))
      ];
      uncounted = ap (λ (s : MemoryGroundState). s.emit_faults) c.self.view_is;
      counted = tt;
    }
