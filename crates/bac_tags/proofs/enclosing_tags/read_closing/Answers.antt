use Rattle.std.proofs.Common.{arith}
use Rattle.bac_tags.specs.EnclosingTags.{closing}
use Rattle.bac_tags.proofs.TagReaders.{ReadsTag, reads_closing}
use Rattle.bac_tags.proofs.enclosing_tags.read_closing.Goals as goal

-- all that the clauses say
all : (c : goal.After-closing_at) → ReadsTag (closing c.args.number) c.args.input.now c.args.at c.closing_at.result
all c = reads_closing c.args.number c.args.input.now c.args.at c.closing_at.result (λ i. omega (arith, c.type_inv.input i)) c.closing_at.ensures.exact

pub returns-clause-found : goal.returns-clause-found
returns-clause-found c = (all c).found

pub returns-clause-only : goal.returns-clause-only
returns-clause-only c = (all c).only

pub returns-clause-truncated : goal.returns-clause-truncated
returns-clause-truncated c = (all c).truncated

pub returns-clause-wrong_tag : goal.returns-clause-wrong_tag
returns-clause-wrong_tag c = (all c).wrong_tag
