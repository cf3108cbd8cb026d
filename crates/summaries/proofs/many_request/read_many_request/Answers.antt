use Rattle.std.proofs.Common.{arith}
use Rattle.summaries.proofs.Grouped.{ReadsSpec, reads_spec, read_many_answers}
use Rattle.summaries.proofs.many_request.read_many_request.Goals as goal

-- all that the clauses say
all : (c : goal.After-many_request_of) → ReadsSpec c.args.bytes.now c.args.index c.many_request_of.result
all c = reads_spec c.args.bytes.now c.args.index c.many_request_of.result c.many_request_of.ensures.exact (read_many_answers c.args.bytes.now (λ i. omega (arith, c.type_inv.bytes i)))

pub returns-clause-found : goal.returns-clause-found
returns-clause-found c = (all c).found

pub returns-clause-only : goal.returns-clause-only
returns-clause-only c = (all c).only

pub returns-clause-refused : goal.returns-clause-refused
returns-clause-refused c = (all c).refused
