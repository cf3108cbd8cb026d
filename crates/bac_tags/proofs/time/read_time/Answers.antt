use Rattle.std.proofs.Common.{None, ◌∙◌, arith}
use Rattle.bac_tags.specs.Stamps.{IsFour}
use Rattle.bac_tags.specs.ReadingSteps.{content_at, time_at}
use Rattle.bac_tags.proofs.Readers.{Reads, reads}
use Rattle.bac_tags.proofs.Numbers.{four_values}
use Rattle.bac_tags.proofs.LongReaders.{as_it_is}
use Rattle.bac_tags.proofs.time.read_time.Goals as goal

-- all that the clauses say
all : (c : goal.After-time_at) → Reads 11 None 4 4 IsFour c.args.input.now c.args.at c.time_at.result
unfolding time_at
all c =
    reads 11 None 4 4 (λ octets. octets) IsFour four_values c.args.input.now c.args.at c.time_at.result (λ i. omega (arith, c.type_inv.input i)) c.requires (c.time_at.ensures.exact ∙ as_it_is (content_at c.args.input.now c.args.at 11 None 4 4))

pub returns-clause-found : goal.returns-clause-found
returns-clause-found c = (all c).found

pub returns-clause-only : goal.returns-clause-only
returns-clause-only c = (all c).only

pub returns-clause-truncated : goal.returns-clause-truncated
returns-clause-truncated c = (all c).truncated

pub returns-clause-wrong_tag : goal.returns-clause-wrong_tag
returns-clause-wrong_tag c = (all c).wrong_tag

pub returns-clause-bad_length : goal.returns-clause-bad_length
returns-clause-bad_length c = (all c).bad_length
