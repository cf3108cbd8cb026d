use Rattle.std.proofs.Common.{◌≡◌, ℕ, true, false, not, List, [], ◌∷◌, Option, ◌+◌, ◌≤◌, refl, sym, ap, subst, ◌∙◌, length, arith}
use Rattle.std.specs.Prelude.{IsTrue, Contains}
use Rattle.std.specs.Option.{is_some}
use Rattle.std.proofs.lemmas.Bool.{false≢true}
use Rattle.std.proofs.lemmas.List.{with_items_is}
use Rattle.std.specs.Vec.{with_items}
use Rattle.ground_io.specs.Disk.{with_octets, octets_at}
use Rattle.ground_io.specs.InMemory.{MemoryGroundState, FailsAsListedOrUntold, size_of}
use Rattle.ground_io.specs.Counts.{HasCause, next_count}
use Rattle.ground_io.specs.Past.{GoesOn, told_of}
use Rattle.ground_io.specs.Trace.{AddsBroken, Adds}
use Rattle.ground_io.specs.declared.entry.Entry.TheVariants.{Wrote, Broke}
use Rattle.ground_io.specs.declared.past.Past.{Past}
use Rattle.ground_io.proofs.Disks.{length-octets_at}
use Rattle.ground_io.proofs.Grounds.{size_is, same_size, stays, rises, none_adds, none_are_told, tells_where_kept, fails_listed, fails_untold, goes_well}
use Rattle.ground_io.specs.contracts.memory_ground.MemoryGround.{the_view}
use Rattle.ground_io.proofs.memory_ground.MemoryGroundGround.write_at.Goals.{else-told-via-then-told+else-is_none, else-told-via-else-told}
use Rattle.ground_io.proofs.memory_ground.MemoryGroundGround.write_at.Goals as goal

pub returns-then-is_listed_next : goal.returns-then-is_listed_next
returns-then-is_listed_next c =
    let items = c.self.inside.contents.items in
    let octets = c.args.octets.now in
    let left = octets_at c.args.place (length octets) items in
    let entry = Broke c.args.place octets left in
    let went : GoesOn c.self.inside.past c.after_failed_write.result items items entry =
    subst (λ (o : Option Past). GoesOn o c.after_failed_write.result items items entry) c.take.ensures.value
    (subst (λ (l : List ℕ). GoesOn c.take.result c.after_failed_write.result l l (Broke c.args.place octets (octets_at c.args.place (length octets) l))) c.deref-then-is_listed_next.ensures.value c.after_failed_write.ensures.goes_on) in
    let size : size_of c.args.self.now ≡ size_of (the_view c.self.inside) = ap size_of (sym c.self.view_is) in
    let fits : c.args.place + length octets ≤ length items = subst (λ (n : ℕ). c.args.place + length octets ≤ n) (size ∙ size_is items (told_of c.self.inside.past items) c.self.invariant) c.requires in
    let listed : IsTrue c.is_listed_next.result → Contains c.self.inside.failing.items c.is_listed_next.new.calls =
    subst (λ (l : List ℕ). IsTrue c.is_listed_next.result → Contains l c.is_listed_next.new.calls) c.deref.ensures.value c.is_listed_next.ensures.listed.0 in
    record {
      wrote = tt;
      broke = subst (λ (s : MemoryGroundState). AddsBroken s.told (told_of c.after_failed_write.result items) c.args.place octets) c.self.view_is (left, length-octets_at c.args.place (length octets) items fits, went.told);
      same = same_size c.self.inside.past c.after_failed_write.result items items refl c.self.invariant (went.kept c.self.invariant) ∙ sym size;
      cause = subst (λ (s : MemoryGroundState). HasCause s.disk_faults c.saturating_add-self-inside.result (true ≡ true)) c.self.view_is (rises c.self.inside.disk_faults c.saturating_add-self-inside.result (omega arith) c.saturating_add-self-inside.ensures);
      emitted = ap (λ (s : MemoryGroundState). s.emit_faults) c.self.view_is;
      failing = subst (λ (s : MemoryGroundState). FailsAsListedOrUntold s (record { contents = items; told = told_of c.after_failed_write.result items; failing = c.self.inside.failing.items; calls = c.is_listed_next.new.calls; disk_faults = c.saturating_add-self-inside.result; emit_faults = c.self.inside.emit_faults }) (true ≡ true)) c.self.view_is
          (fails_listed (the_view c.self.inside) (record { contents = items; told = told_of c.after_failed_write.result items; failing = c.self.inside.failing.items; calls = c.is_listed_next.new.calls; disk_faults = c.saturating_add-self-inside.result; emit_faults = c.self.inside.emit_faults }) c.is_listed_next.result refl c.is_listed_next.ensures.counted listed c.if-is_listed_next.true);
      contents = tt;
      left = ap (λ (s : MemoryGroundState). s.contents) c.self.view_is;
      tells = tt;
      uncounted = tt;
      counted = c.saturating_add-self-inside.ensures ∙ ap (λ (s : MemoryGroundState). next_count s.disk_faults) c.self.view_is;
    }

pub returns-then-is_none : goal.returns-then-is_none
returns-then-is_none c =
    let past = c.self.inside.past in
    let after = c.after_write.result in
    let items = c.self.inside.contents.items in
    let octets = c.args.octets.now in
    let faults = c.saturating_add-self-inside-then-is_none.result in
    let untold : is_some after ≡ false = c.is_none.ensures ∙ ap not c.if-is_none.true in
    let told : is_some past ≡ true = sym c.is_some-told.ensures ∙ c.if-told.true in
    let size : size_of c.args.self.now ≡ size_of (the_view c.self.inside) = ap size_of (sym c.self.view_is) in
    let state : MemoryGroundState = record { contents = items; told = told_of after items; failing = c.self.inside.failing.items; calls = c.is_listed_next.new.calls; disk_faults = faults; emit_faults = c.self.inside.emit_faults } in
    record {
      wrote = tt;
      broke = (octets, refl, none_adds c.args.self.now.told after items (Broke c.args.place octets octets ∷ []) untold);
      same = same_size past after items items refl c.self.invariant (none_are_told after items untold) ∙ sym size;
      cause = subst (λ (s : MemoryGroundState). HasCause s.disk_faults faults (true ≡ true)) c.self.view_is (rises c.self.inside.disk_faults faults (omega arith) c.saturating_add-self-inside-then-is_none.ensures);
      emitted = ap (λ (s : MemoryGroundState). s.emit_faults) c.self.view_is;
      failing = subst (λ (s : MemoryGroundState). FailsAsListedOrUntold s state (true ≡ true)) c.self.view_is
          (fails_untold (the_view c.self.inside) state refl c.is_listed_next.ensures.counted (tells_where_kept past items ∙ told) (tells_where_kept after items ∙ untold));
      contents = tt;
      left = ap (λ (s : MemoryGroundState). s.contents) c.self.view_is;
      tells = tt;
      uncounted = tt;
      counted = c.saturating_add-self-inside-then-is_none.ensures ∙ ap (λ (s : MemoryGroundState). next_count s.disk_faults) c.self.view_is;
    }

pub returns : goal.returns
returns c =
    let items = c.self.inside.contents.items in
    let octets = c.args.octets.now in
    let entry = Wrote c.args.place octets in
    let put = with_items_is c.self.inside.contents c.put.new.contents (c.put.auto.contents ∙ c.deref_mut.ensures.len) in
    let now = (with_items c.self.inside.contents c.put.new.contents).items in
    let stands : now ≡ with_octets c.args.place octets items = put ∙ c.put.ensures.put ∙ ap (λ (l : List ℕ). with_octets c.args.place octets l) c.deref_mut.ensures.value in
    let count : length now ≡ length items = ap length put ∙ c.put.auto.contents ∙ ap length c.deref_mut.ensures.value in
    let went : GoesOn c.self.inside.past c.after_write.result items now entry =
    subst (λ (l : List ℕ). GoesOn c.self.inside.past c.after_write.result items l entry) (sym stands)
    (subst (λ (o : Option Past). GoesOn o c.after_write.result items (with_octets c.args.place octets items) entry) c.take-2.ensures.value
    (subst (λ (l : List ℕ). GoesOn c.take-2.result c.after_write.result l (with_octets c.args.place octets l) entry) c.deref-2.ensures.value c.after_write.ensures.goes_on)) in
    let size : size_of c.args.self.now ≡ size_of (the_view c.self.inside) = ap size_of (sym c.self.view_is) in
    let listed : Contains c.self.inside.failing.items c.is_listed_next.new.calls → IsTrue c.is_listed_next.result =
    subst (λ (l : List ℕ). Contains l c.is_listed_next.new.calls → IsTrue c.is_listed_next.result) c.deref.ensures.value c.is_listed_next.ensures.listed.1 in
    let state : MemoryGroundState = record { contents = now; told = told_of c.after_write.result now; failing = c.self.inside.failing.items; calls = c.is_listed_next.new.calls; disk_faults = c.self.inside.disk_faults; emit_faults = c.self.inside.emit_faults } in
    record {
      wrote = subst (λ (s : MemoryGroundState). Adds s.told (told_of c.after_write.result now) (entry ∷ [])) c.self.view_is went.told;
      broke = tt;
      same = same_size c.self.inside.past c.after_write.result items now count c.self.invariant (went.kept c.self.invariant) ∙ sym size;
      cause = subst (λ (s : MemoryGroundState). HasCause s.disk_faults c.self.inside.disk_faults (false ≡ true)) c.self.view_is (stays c.self.inside.disk_faults);
      emitted = ap (λ (s : MemoryGroundState). s.emit_faults) c.self.view_is;
      failing = subst (λ (s : MemoryGroundState). FailsAsListedOrUntold s state (false ≡ true)) c.self.view_is
          (goes_well (the_view c.self.inside) state c.is_listed_next.result refl c.is_listed_next.ensures.counted listed c.if-is_listed_next.false);
      contents = stands ∙ ap (λ (s : MemoryGroundState). with_octets c.args.place octets s.contents) c.self.view_is;
      left = tt;
      tells = elim c.else-told.branch [
        | else-told-via-then-told+else-is_none w ↦ λ before. tells_where_kept c.after_write.result now ∙ w.is_none.ensures ∙ ap not w.if-is_none.false
        | else-told-via-else-told w ↦ λ before. absurd (false≢true (sym w.if-told.false ∙ c.is_some-told.ensures ∙ sym (tells_where_kept c.self.inside.past items) ∙ ap (λ (s : MemoryGroundState). is_some s.told) c.self.view_is ∙ before))
      ];
      uncounted = ap (λ (s : MemoryGroundState). s.disk_faults) c.self.view_is;
      counted = tt;
    }
