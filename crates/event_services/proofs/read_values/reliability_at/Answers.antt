use Rattle.std.proofs.Common.{Err, ap, sym, ◌∙◌, arith}
use Rattle.std.proofs.lemmas.Result.{err_from_is_err_and}
use Rattle.event_services.specs.NoteGrammar.{SpellsReliability, SpellsFlags}
use Rattle.event_services.specs.NoteReadingSteps.{flags_at, reliability_number_at, properties_at, reliability_at}
use Rattle.event_services.specs.NoteTexts.{IsAfter, IsTextOfProperties, IsTextOfReliability}
use Rattle.event_services.proofs.NoteReaders.{flags_reader}
use Rattle.event_services.proofs.ToldReaders.{reliability_reader}
use Rattle.event_services.proofs.TextPlaces.{passes, after, properties_fail}
use Rattle.event_services.proofs.read_values.reliability_at.Goals as goal

pub returns-in_err-property-clause-exact : goal.returns-in_err-property-clause-exact
returns-in_err-property-clause-exact c =
    let p = err_from_is_err_and c.from_residual-in_err-property.result c.from_residual-in_err-property.ensures.1 in
    let input = c.args.input.now in
    passes (IsTextOfProperties input c.in_ok-flags.at) (IsTextOfReliability input c.args.at) c.in_err-property.field-0.0 (properties_at input c.in_ok-flags.at) c.from_residual-in_err-property.result (reliability_at input c.args.at) c.in_err-property.ensures.exact (p.1 ∙ ap Err p.2)
    (λ h. properties_fail input c.args.at c.in_ok-reliability.reliability c.in_ok-reliability.at c.in_ok-flags.flags c.in_ok-flags.at c.in_err-property.field-0.0 (sym c.in_ok-reliability.ensures.exact) (sym c.in_ok-flags.ensures.exact) h)
    (λ text. after (SpellsReliability 0) (reliability_number_at 0) (reliability_reader 0) (IsAfter SpellsFlags IsTextOfProperties) input c.args.at c.in_ok-reliability.reliability c.in_ok-reliability.at (λ i. omega (arith, c.type_inv.input i)) c.requires (sym c.in_ok-reliability.ensures.exact)
    (after SpellsFlags flags_at flags_reader IsTextOfProperties input c.in_ok-reliability.at c.in_ok-flags.flags c.in_ok-flags.at (λ i. omega (arith, c.type_inv.input i)) c.in_ok-reliability.ensures.within.1 (sym c.in_ok-flags.ensures.exact) text))
