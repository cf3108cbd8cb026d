use Rattle.std.proofs.Common.{◌≡◌, ◌+◌, ◌<◌, [], ◌∷◌, ◌++◌, length, take, arith, ap, sym, ◌∙◌, subst, List, ℕ, refl}
use Rattle.std.proofs.lemmas.List.{take_more}
use Rattle.bac_values.specs.declared.note.Send.{Send}
use Rattle.alarm_journal.specs.Emissions.{EmitsAll}
use Rattle.alarm_journal.proofs.Emitting.{emits_sent, emits_lost}
use Rattle.alarm_journal.proofs.press.emit_each.Goals as goal
use Rattle.alarm_journal.proofs.press.emit_each.Goals.{in-Ok, in-Err}

one_more : (n : ℕ) → n + 1 ≡ 0 → ⊥
one_more n h = omega (arith, h)

pub loop-send-preserved : goal.loop-send-preserved
loop-send-preserved g c =
    let i = c.loop-send.send-index in
    let lt : i < length c.args.sends.now = omega arith in
    let item : Send = c.send-item.result in
    let taken : take (i + 1) c.args.sends.now ≡ take i c.args.sends.now ++ item ∷ [] = take_more c.args.sends.now i item lt ∙ ap (λ (x : Send). take i c.args.sends.now ++ x ∷ []) (sym c.send-item.is) in
    let P : List Send → ℕ → ℕ → Type 0 = λ l sent lost. EmitsAll l sent lost (g.G.Ground.told c.args.device.now) (g.G.Ground.told c.emit.new.self) in
    record {
      same = c.emit.ensures.same ∙ c.loop-send.invariant.same;
      disk = c.emit.ensures.disk ∙ c.loop-send.invariant.disk;
      told = elim c.match-emit.branch [
        | in-Ok w ↦ subst (λ (l : List Send). P l c.match-emit.sent c.match-emit.lost) (sym taken)
            (subst (λ (n : ℕ). P (take i c.args.sends.now ++ item ∷ []) n c.match-emit.lost) (sym w.sent-is)
            (subst (λ (n : ℕ). P (take i c.args.sends.now ++ item ∷ []) (c.loop-send.sent + 1) n) (sym w.lost-is)
            (emits_sent (take i c.args.sends.now) c.loop-send.sent c.loop-send.lost item c.as_slice.result.now _ _ _ c.as_slice.ensures.same c.loop-send.invariant.told w.in-Ok.ensures.told)))
        | in-Err w ↦ subst (λ (l : List Send). P l c.match-emit.sent c.match-emit.lost) (sym taken)
            (subst (λ (n : ℕ). P (take i c.args.sends.now ++ item ∷ []) n c.match-emit.lost) (sym w.sent-is)
            (subst (λ (n : ℕ). P (take i c.args.sends.now ++ item ∷ []) c.loop-send.sent n) (sym w.lost-is)
            (emits_lost (take i c.args.sends.now) c.loop-send.sent c.loop-send.lost item c.as_slice.result.now _ _ _ c.as_slice.ensures.same c.loop-send.invariant.told w.in-Err.ensures.told)))
      ];
      all = elim c.match-emit.branch [ in-Ok w ↦ omega arith | in-Err w ↦ omega arith ];
      cause = elim c.match-emit.branch [
        | in-Ok w ↦ record {
          later = omega (arith, c.loop-send.invariant.cause.later, c.emit.ensures.cause.later);
          rose = λ lost. let before : 0 < c.loop-send.lost = omega (arith, w.lost-is, lost) in omega (arith, c.loop-send.invariant.cause.rose before, c.emit.ensures.cause.later);
        }
        | in-Err w ↦ record {
          later = omega (arith, c.loop-send.invariant.cause.later, c.emit.ensures.cause.later);
          rose = λ lost. omega (arith, c.loop-send.invariant.cause.later, w.in-Err.ensures.cause.rose refl);
        }
      ];
      uncounted = elim c.match-emit.branch [
        | in-Ok w ↦ λ none. w.in-Ok.ensures.uncounted ∙ c.loop-send.invariant.uncounted (sym w.lost-is ∙ none)
        | in-Err w ↦ λ none. absurd (one_more c.loop-send.lost (sym w.lost-is ∙ none))
      ];
    }
