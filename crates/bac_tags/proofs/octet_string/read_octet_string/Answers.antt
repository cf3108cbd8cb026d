use Rattle.std.proofs.Common.{arith}
use Rattle.bac_tags.proofs.LongReaders.{ReadsOctetString, reads_octet_string}
use Rattle.bac_tags.proofs.octet_string.read_octet_string.Goals as goal

-- all that the clauses say
all : (c : goal.After-octet_string_at) → ReadsOctetString c.args.input.now c.args.at c.octet_string_at.result
all c =
    reads_octet_string c.args.input.now c.args.at c.octet_string_at.result (λ i. omega (arith, c.type_inv.input i)) c.requires c.octet_string_at.ensures.exact

pub returns-clause-found : goal.returns-clause-found
returns-clause-found c = (all c).found

pub returns-clause-only : goal.returns-clause-only
returns-clause-only c = (all c).only

pub returns-clause-truncated : goal.returns-clause-truncated
returns-clause-truncated c = (all c).truncated

pub returns-clause-wrong_tag : goal.returns-clause-wrong_tag
returns-clause-wrong_tag c = (all c).wrong_tag

pub returns-clause-no_other : goal.returns-clause-no_other
returns-clause-no_other c = (all c).no_other
