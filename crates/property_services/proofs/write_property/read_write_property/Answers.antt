use Rattle.std.proofs.Common.{length, arith}
use Rattle.property_services.proofs.Missing.{missing_in_write_property, both}
use Rattle.property_services.proofs.Writes.{ReadsWrite, reads_write}
use Rattle.property_services.proofs.write_property.read_write_property.Goals as goal

-- all that the clauses say
all : (c : goal.After-write_property_of) → ReadsWrite c.args.bytes.now c.write_property_of.result
all c = reads_write c.args.bytes.now c.write_property_of.result (λ i. omega (arith, c.type_inv.bytes i)) c.write_property_of.ensures.exact

pub returns-clause-found : goal.returns-clause-found
returns-clause-found c = (all c).found

pub returns-clause-only : goal.returns-clause-only
returns-clause-only c = (all c).only

pub returns-clause-refused : goal.returns-clause-refused
returns-clause-refused c = (all c).refused

pub returns-clause-missing : goal.returns-clause-missing
returns-clause-missing c = both ((all c).refused 5 (length c.args.bytes.now)) (missing_in_write_property c.args.bytes.now)
