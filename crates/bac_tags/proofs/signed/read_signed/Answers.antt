use Rattle.std.proofs.Common.{arith}
use Rattle.bac_tags.specs.Contents.{IsSigned}
use Rattle.bac_tags.specs.ReadingSteps.{signed_of, signed_at}
use Rattle.bac_tags.proofs.Readers.{Reads, reads}
use Rattle.bac_tags.proofs.Numbers.{signed_values}
use Rattle.bac_tags.proofs.signed.read_signed.Goals as goal

-- all that the clauses say
all : (c : goal.After-signed_at) → Reads 3 c.args.context 1 4 IsSigned c.args.input.now c.args.at c.signed_at.result
unfolding signed_at
all c =
    reads 3 c.args.context 1 4 signed_of IsSigned signed_values c.args.input.now c.args.at c.signed_at.result (λ i. omega (arith, c.type_inv.input i)) c.requires c.signed_at.ensures.exact

pub returns-clause-found : goal.returns-clause-found
returns-clause-found c = (all c).found

pub returns-clause-only : goal.returns-clause-only
returns-clause-only c = (all c).only

pub returns-clause-truncated : goal.returns-clause-truncated
returns-clause-truncated c = (all c).truncated

pub returns-clause-wrong_tag : goal.returns-clause-wrong_tag
returns-clause-wrong_tag c = (all c).wrong_tag

pub returns-clause-bad_length : goal.returns-clause-bad_length
returns-clause-bad_length c = (all c).bad_length
