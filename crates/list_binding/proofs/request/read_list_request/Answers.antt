use Rattle.std.proofs.Common.{arith}
use Rattle.list_binding.proofs.Listing.{ReadsList, reads_list}
use Rattle.list_binding.proofs.request.read_list_request.Goals as goal

-- all that the clauses say
all : (c : goal.After-list_request_of) → ReadsList c.args.bytes.now c.list_request_of.result
all c = reads_list c.args.bytes.now c.list_request_of.result (λ i. omega (arith, c.type_inv.bytes i)) c.list_request_of.ensures.exact

pub returns-clause-found : goal.returns-clause-found
returns-clause-found c = (all c).found

pub returns-clause-only : goal.returns-clause-only
returns-clause-only c = (all c).only

pub returns-clause-refused : goal.returns-clause-refused
returns-clause-refused c = (all c).refused
