use Rattle.std.proofs.Common.{Err, ap, sym, refl, ◌∙◌, inl, inr, arith}
use Rattle.event_services.proofs.LateFaults.{values_never}
use Rattle.event_services.proofs.read_note.optional_values.Goals as goal

pub returns-in-Err-NoMemory-clause-exact : goal.returns-in-Err-NoMemory-clause-exact
returns-in-Err-NoMemory-clause-exact c =
    elim c.in-Err-NoMemory.ensures.exact [
      | inl same ↦ absurd (values_never c.args.kind c.args.input.now c.args.at (λ i. omega (arith, c.type_inv.input i)) c.requires (sym same ∙ ap Err c.in-Err-NoMemory.field-0-is))
      | inr wanted ↦ inr (refl, wanted.1)
    ]
