-- Three passes that have worked, joined.
use Rattle.std.proofs.Common.{◌≡◌, ℕ, List, [], ◌∷◌, ◌++◌, ap, ◌∙◌}
use Rattle.std.specs.Prelude.{Option}
use Rattle.bac_values.specs.declared.note.Send.{Send}
use Rattle.turnstile.specs.Passes.{Identity, IsNewFrom, Joins, Known, SameShare, all_calls, first_pass}
use Rattle.turnstile.proofs.Shares.{halves_share, same_share, whole_share}
use Rattle.alarm_core.specs.State.{CoreState}
use Rattle.alarm_journal.specs.Press.{PressState}
use Rattle.floor_desk.specs.declared.entry.Entry.{Entry}
use Rattle.floor_desk.specs.declared.receiver.Ends.{Ends}
use Rattle.floor_desk.specs.ServingSteps.{WorkedTogether}
use Rattle.floor_desk.specs.Workers.{HasKept, HasReceived, HasTicked, MadeEntries}

module _ {G : Type 0} where
  -- who worked has the share that it had
  pub worked_share : (p q : Known (Entry G) (CoreState × PressState G)) (es : List (Entry G)) → MadeEntries p q es → SameShare p q
  worked_share p q es w = same_share p q (ap (λ (k : Known (Entry G) (CoreState × PressState G)). k.number) w.same) (ap (λ (k : Known (Entry G) (CoreState × PressState G)). k.carried) w.same) (ap (λ (k : Known (Entry G) (CoreState × PressState G)). k.split_off) w.same)

  -- a pass that was new when it began to work carries none, and has made this
  new_calls : (p a b : Known (Entry G) (CoreState × PressState G)) (es : List (Entry G)) → IsNewFrom p a → MadeEntries a b es → all_calls b ≡ (a.number, es) ∷ []
  new_calls p a b es new w =
      let number : b.number ≡ a.number = ap (λ (k : Known (Entry G) (CoreState × PressState G)). k.number) w.same in
      let mine : b.mine ≡ es = ap (λ (k : Known (Entry G) (CoreState × PressState G)). k.mine) w.same ∙ ap (λ (z : List (Entry G)). z ++ es) (ap (λ (k : Known (Entry G) (CoreState × PressState G)). k.mine) new) in
      let carried : b.carried ≡ [] = ap (λ (k : Known (Entry G) (CoreState × PressState G)). k.carried) w.same ∙ ap (λ (k : Known (Entry G) (CoreState × PressState G)). k.carried) new in
      ap (λ (n : ℕ). (n, b.mine) ∷ b.carried) number ∙ (ap (λ (z : List (Entry G)). (a.number, z) ∷ b.carried) mine ∙ ap (λ (z : List (ℕ × List (Entry G))). (a.number, es) ∷ z) carried)

  pub joined : (shows : ℕ → Type 0) (old new : Option (List Send)) (t : Identity (CoreState × PressState G)) (p p1 tk p2 cm r tk' cm' j q : Known (Entry G) (CoreState × PressState G)) (ends : Ends) → p ≡ first_pass t
      → p1 ≡ record p { split_off = tk.number ∷ p.split_off } → IsNewFrom p tk → p2 ≡ record p1 { split_off = cm.number ∷ p1.split_off } → IsNewFrom p1 cm
      → HasReceived shows old new p2 r ends → HasTicked shows tk tk' → HasKept cm cm' → Joins r cm' j → Joins j tk' q → WorkedTogether shows old new q ends
  joined shows old new t p p1 tk p2 cm r tk' cm' j q ends first split1 new1 split2 new2 h ticks kept join1 join2 =
      let all2 : p2 ≡ record (record p { split_off = tk.number ∷ p.split_off }) { split_off = cm.number ∷ p1.split_off } = split2 ∙ ap (λ (k : Known (Entry G) (CoreState × PressState G)). record k { split_off = cm.number ∷ p1.split_off }) split1 in
      let number : q.number ≡ 0 =
      ap (λ (k : Known (Entry G) (CoreState × PressState G)). k.number) join2.same ∙ (ap (λ (k : Known (Entry G) (CoreState × PressState G)). k.number) join1.same
      ∙ (ap (λ (k : Known (Entry G) (CoreState × PressState G)). k.number) h.worked.same ∙ (ap (λ (k : Known (Entry G) (CoreState × PressState G)). k.number) all2 ∙ ap (λ (k : Known (Entry G) (CoreState × PressState G)). k.number) first))) in
      let mine2 : p2.mine ≡ [] = ap (λ (k : Known (Entry G) (CoreState × PressState G)). k.mine) all2 ∙ ap (λ (k : Known (Entry G) (CoreState × PressState G)). k.mine) first in
      let mine : q.mine ≡ h.entries =
      ap (λ (k : Known (Entry G) (CoreState × PressState G)). k.mine) join2.same ∙ (ap (λ (k : Known (Entry G) (CoreState × PressState G)). k.mine) join1.same
      ∙ (ap (λ (k : Known (Entry G) (CoreState × PressState G)). k.mine) h.worked.same ∙ ap (λ (z : List (Entry G)). z ++ h.entries) mine2)) in
      let carried_r : r.carried ≡ [] =
      ap (λ (k : Known (Entry G) (CoreState × PressState G)). k.carried) h.worked.same ∙ (ap (λ (k : Known (Entry G) (CoreState × PressState G)). k.carried) all2 ∙ ap (λ (k : Known (Entry G) (CoreState × PressState G)). k.carried) first) in
      let calls_cm : all_calls cm' ≡ (cm.number, kept.entries) ∷ [] = new_calls p1 cm cm' kept.entries new2 kept.worked in
      let calls_tk : all_calls tk' ≡ (tk.number, ticks.entries) ∷ [] = new_calls p tk tk' ticks.entries new1 ticks.worked in
      let carried_j : j.carried ≡ (cm.number, kept.entries) ∷ [] =
      ap (λ (k : Known (Entry G) (CoreState × PressState G)). k.carried) join1.same ∙ (ap (λ (z : List (ℕ × List (Entry G))). z ++ all_calls cm') carried_r ∙ calls_cm) in
      let carried : q.carried ≡ (cm.number, kept.entries) ∷ ((tk.number, ticks.entries) ∷ []) =
      ap (λ (k : Known (Entry G) (CoreState × PressState G)). k.carried) join2.same ∙ (ap (λ (z : List (ℕ × List (Entry G))). z ++ all_calls tk') carried_j ∙ ap (λ (z : List (ℕ × List (Entry G))). (cm.number, kept.entries) ∷ z) calls_tk) in
      let half : SameShare p1 j = halves_share p1 p2 cm r cm' j split2 new2 (worked_share p2 r h.entries h.worked) (worked_share cm cm' kept.entries kept.worked) join1 in
      let share : SameShare p q = halves_share p p1 tk j tk' q split1 new1 half (worked_share tk tk' ticks.entries ticks.worked) join2 in record {
        workings = record { server = 0; ticker = tk.number; committer = cm.number; received = h.entries; last = []; ticked = ticks.entries; kept = kept.entries };
        attempts = h.attempts;
        are = record { received = h.received; ticks = ticks.ticks; only_ticks = ticks.parts; ticks_shown = ticks.shown; commits = kept.parts };
        number = number;
        mine = mine;
        carried = carried;
        whole = whole_share t p q first share;
        count = h.count;
        lost = h.lost;
        tried = h.tried;
      }
