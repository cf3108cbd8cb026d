use Rattle.std.proofs.Common.{arith}
use Rattle.bac_tags.specs.Contents.{IsObject}
use Rattle.bac_tags.specs.ReadingSteps.{identifier_of, object_at}
use Rattle.bac_tags.proofs.Readers.{Reads, reads}
use Rattle.bac_tags.proofs.Numbers.{identifier_values}
use Rattle.bac_tags.proofs.object.read_object.Goals as goal

-- all that the clauses say
all : (c : goal.After-object_at) → Reads 12 c.args.context 4 4 IsObject c.args.input.now c.args.at c.object_at.result
unfolding object_at
all c =
    reads 12 c.args.context 4 4 identifier_of IsObject identifier_values c.args.input.now c.args.at c.object_at.result (λ i. omega (arith, c.type_inv.input i)) c.requires c.object_at.ensures.exact

pub returns-clause-found : goal.returns-clause-found
returns-clause-found c = (all c).found

pub returns-clause-only : goal.returns-clause-only
returns-clause-only c = (all c).only

pub returns-clause-truncated : goal.returns-clause-truncated
returns-clause-truncated c = (all c).truncated

pub returns-clause-wrong_tag : goal.returns-clause-wrong_tag
returns-clause-wrong_tag c = (all c).wrong_tag

pub returns-clause-bad_length : goal.returns-clause-bad_length
returns-clause-bad_length c = (all c).bad_length
