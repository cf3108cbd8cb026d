use Rattle.std.proofs.Common.{◌∙◌, ◌++◌, List, ap, sym, take, drop}
use Rattle.std.proofs.lemmas.List.{drop-drop}
use Rattle.bac_values.specs.declared.note.Note.{Note}
use Rattle.outbox.proofs.Laws.{take_sum}
use Rattle.outbox.proofs.restoring.take_next.Goals as goal

pub loop-index-preserved : goal.loop-index-preserved
loop-index-preserved c =
    let notes = c.args.notes.now.items in
    let i = c.loop-index._index in
    let first : List Note → List Note = take 1 in
    let rest : List Note → List Note = drop 1 in
    record {
      taken = c.in_ok-move_first.ensures.moved ∙ ap (λ xs. xs ++ first c.loop-index.notes.items) c.loop-index.invariant.taken ∙ ap (λ xs. take i notes ++ first xs) c.loop-index.invariant.left ∙ sym (take_sum i 1 notes);
      left = c.in_ok-move_first.ensures.left ∙ ap rest c.loop-index.invariant.left ∙ drop-drop 1 i notes;
    }
