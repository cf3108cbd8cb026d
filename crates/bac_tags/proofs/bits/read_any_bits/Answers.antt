use Rattle.std.proofs.Common.{None, arith}
use Rattle.bac_tags.specs.Elements.{longest_content}
use Rattle.bac_tags.specs.Contents.{IsAnyBits}
use Rattle.bac_tags.specs.ReadingSteps.{any_bits_of, any_bits_at}
use Rattle.bac_tags.proofs.Readers.{ReadsForm, reads_form}
use Rattle.bac_tags.proofs.LongReaders.{IsShort, any_bits_forms, reads_any_bits}
use Rattle.bac_tags.proofs.bits.read_any_bits.Goals as goal

-- all that the clauses say
all : (c : goal.After-any_bits_at) → ReadsForm 8 None 1 longest_content IsAnyBits c.args.input.now c.args.at c.any_bits_at.result
unfolding any_bits_at
all c =
    reads_any_bits c.args.input.now c.args.at c.any_bits_at.result (λ i. omega (arith, c.type_inv.input i))
    (reads_form 8 None 1 longest_content any_bits_of (IsShort IsAnyBits) any_bits_forms c.args.input.now c.args.at c.any_bits_at.result (λ i. omega (arith, c.type_inv.input i)) c.requires c.any_bits_at.ensures.exact)

pub returns-clause-found : goal.returns-clause-found
returns-clause-found c = (all c).found

pub returns-clause-only : goal.returns-clause-only
returns-clause-only c = (all c).only

pub returns-clause-truncated : goal.returns-clause-truncated
returns-clause-truncated c = (all c).truncated

pub returns-clause-wrong_tag : goal.returns-clause-wrong_tag
returns-clause-wrong_tag c = (all c).wrong_tag

pub returns-clause-bad_length : goal.returns-clause-bad_length
returns-clause-bad_length c = (all c).bad_length
