use Rattle.std.proofs.Common.{◌≡◌, length, sym, ◌∙◌, arith}
use Rattle.bac_tags.specs.declared.fault.TagFault.TheVariants.{Truncated}
use Rattle.bac_tags.specs.Tags.{SpellsTag}
use Rattle.bac_tags.specs.ReadingSteps.{tag_at}
use Rattle.bac_tags.proofs.Answered.{is_found, is_only, all_faults}
use Rattle.bac_tags.proofs.TagLaws.{tag_found, tag_again}
use Rattle.bac_tags.proofs.Cut.{tag_cut, tag_truncated}
use Rattle.bac_tags.proofs.tag.read_tag.Goals as goal

pub returns-clause-found : goal.returns-clause-found
returns-clause-found c =
    is_found SpellsTag c.args.input.now c.args.at c.tag_at.result (tag_at c.args.input.now c.args.at) c.tag_at.ensures.exact (λ x e. tag_found c.args.input.now c.args.at x (λ i. omega (arith, c.type_inv.input i)) e)

pub returns-clause-only : goal.returns-clause-only
returns-clause-only c = λ tag end s.
    c.tag_at.ensures.exact ∙ is_only SpellsTag c.args.input.now c.args.at (tag_at c.args.input.now c.args.at) (λ octets x end h p. tag_again c.args.input.now c.args.at octets x end h p) tag end s

pub returns-clause-truncated : goal.returns-clause-truncated
returns-clause-truncated c =
    let t = tag_truncated c.args.input.now c.args.at (λ i. omega (arith, c.type_inv.input i)) in
    (λ h. t.0 (sym c.tag_at.ensures.exact ∙ h), λ cut. c.tag_at.ensures.exact ∙ t.1 cut)

pub returns-clause-only_truncated : goal.returns-clause-only_truncated
returns-clause-only_truncated c =
    all_faults (λ e. e ≡ Truncated (length c.args.input.now)) c.tag_at.result (tag_at c.args.input.now c.args.at) c.tag_at.ensures.exact (λ e h. (tag_cut c.args.input.now c.args.at e (λ i. omega (arith, c.type_inv.input i)) h).1)
