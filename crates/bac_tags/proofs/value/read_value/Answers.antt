use Rattle.std.proofs.Common.{arith}
use Rattle.bac_tags.proofs.ValueLaws.{ReadsValue, reads_value}
use Rattle.bac_tags.proofs.value.read_value.Goals as goal

-- all that the clauses say
all : (c : goal.After-value_at) → ReadsValue c.args.input.now c.args.at c.value_at.result
all c =
    reads_value c.args.input.now c.args.at c.value_at.result (λ i. omega (arith, c.type_inv.input i)) c.requires c.value_at.ensures.exact

pub returns-clause-found : goal.returns-clause-found
returns-clause-found c = (all c).found

pub returns-clause-only : goal.returns-clause-only
returns-clause-only c = (all c).only

pub returns-clause-truncated : goal.returns-clause-truncated
returns-clause-truncated c = (all c).truncated

pub returns-clause-wrong_tag : goal.returns-clause-wrong_tag
returns-clause-wrong_tag c = (all c).wrong_tag

pub returns-clause-bad_length : goal.returns-clause-bad_length
returns-clause-bad_length c = (all c).bad_length

pub returns-clause-no_memory : goal.returns-clause-no_memory
returns-clause-no_memory c = (all c).no_memory
