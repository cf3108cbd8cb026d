use Rattle.std.proofs.Common.{sym, ap, subst, ◌∙◌}
use Rattle.bac_values.specs.declared.value.Value.TheVariants as values
use Rattle.bac_tags.specs.ReadingSteps.{IsText}
use Rattle.bac_tags.proofs.Texts.{is_text, no_text}
use Rattle.bac_tags.proofs.value.characters_in.Goals as goal

pub returns-in_default-clause-value : goal.returns-in_default-clause-value
returns-in_default-clause-value c = sym (no_text c.args.octets.now c.if-octets-gt-MOST_TEXT_OCTETS.false c.in_default.ensures.cases.0)

pub returns-in-Ok-new-clause-value : goal.returns-in-Ok-new-clause-value
returns-in-Ok-new-clause-value c =
    ap values.Text (c.in-Ok-new.ensures.same ∙ c.in-Ok.ensures.cases.0) ∙ sym (is_text c.args.octets.now c.if-octets-gt-MOST_TEXT_OCTETS.false c.in-Ok.ensures.cases.1)

pub returns-in-Err-clause-no_memory : goal.returns-in-Err-clause-no_memory
returns-in-Err-clause-no_memory c = subst IsText (sym (is_text c.args.octets.now c.if-octets-gt-MOST_TEXT_OCTETS.false c.in-Ok.ensures.cases.1)) tt
