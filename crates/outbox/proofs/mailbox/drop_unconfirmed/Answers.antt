use Rattle.std.proofs.Common.{◌∙◌, ap, sym, refl, arith, drop}
use Rattle.std.specs.List.{position_or_len}
use Rattle.bac_values.specs.declared.note.Note.{Note}
use Rattle.std.proofs.Common.{List}
use Rattle.outbox.specs.Delivery.{is_confirmed}
use Rattle.outbox.proofs.Fronts.{first_dropped}
use Rattle.outbox.proofs.mailbox.drop_unconfirmed.Goals as goal

pub loop-note-preserved-else-note : goal.loop-note-preserved-else-note
loop-note-preserved-else-note c =
    let rest : List Note → List Note = λ xs. drop (position_or_len is_confirmed xs) xs in
    c.loop-note.invariant
    ∙ first_dropped is_confirmed c.loop-note.notes.items c.in-Some.note.now (omega (arith, c.in-Some.ensures.variant.0 refl, c.loop-note.notes.ok)) c.in-Some.ensures.lookup c.if-note.false
    ∙ ap rest (sym c.pop_front-sent.ensures.rest)
