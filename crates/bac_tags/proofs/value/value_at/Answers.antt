use Rattle.std.proofs.Common.{refl, sym, ◌∙◌, inr}
use Rattle.bac_tags.proofs.Texts.{text_at}
use Rattle.bac_tags.proofs.value.value_at.Goals as goal

pub returns-in-Err-clause-exact : goal.returns-in-Err-clause-exact
returns-in-Err-clause-exact c =
    inr (refl, text_at c.args.input.now c.args.at c.in_ok-kind.kind c.in_ok-kind.length c.in_ok-kind.start c.in_ok-content.content.now (sym c.in_ok-kind.ensures.exact) (sym c.has_length.ensures ∙ c.if-not-has_length.false) c.in-Err.ensures.no_memory.1 c.in_ok-content.ensures.exact c.in-Err.ensures.no_memory.0)
