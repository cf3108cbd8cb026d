use Rattle.std.proofs.Common.{arith}
use Rattle.bac_tags.specs.Contents.{IsBits}
use Rattle.bac_tags.specs.ReadingSteps.{bits_of, bits_at}
use Rattle.bac_tags.proofs.Readers.{ReadsForm, reads_form}
use Rattle.bac_tags.proofs.Numbers.{bits_forms}
use Rattle.bac_tags.proofs.bits.read_bits.Goals as goal

-- all that the clauses say
all : (c : goal.After-bits_at) → ReadsForm 8 c.args.context 1 9 IsBits c.args.input.now c.args.at c.bits_at.result
unfolding bits_at
all c =
    reads_form 8 c.args.context 1 9 bits_of IsBits bits_forms c.args.input.now c.args.at c.bits_at.result (λ i. omega (arith, c.type_inv.input i)) c.requires c.bits_at.ensures.exact

pub returns-clause-found : goal.returns-clause-found
returns-clause-found c = (all c).found

pub returns-clause-only : goal.returns-clause-only
returns-clause-only c = (all c).only

pub returns-clause-truncated : goal.returns-clause-truncated
returns-clause-truncated c = (all c).truncated

pub returns-clause-wrong_tag : goal.returns-clause-wrong_tag
returns-clause-wrong_tag c = (all c).wrong_tag

pub returns-clause-bad_length : goal.returns-clause-bad_length
returns-clause-bad_length c = (all c).bad_length
