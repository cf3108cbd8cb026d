use Rattle.std.proofs.Common.{arith}
use Rattle.event_services.proofs.InformationLaws.{Asks, asks}
use Rattle.event_services.proofs.information.read_information_request.Goals as goal

-- all that the clauses say
all : (c : goal.After-information_request_of) → Asks c.args.bytes.now c.information_request_of.result
all c = asks c.args.bytes.now c.information_request_of.result (λ i. omega (arith, c.type_inv.bytes i)) c.information_request_of.ensures

pub returns-clause-found : goal.returns-clause-found
returns-clause-found c = (all c).found

pub returns-clause-only : goal.returns-clause-only
returns-clause-only c = (all c).only

pub returns-clause-too_many : goal.returns-clause-too_many
returns-clause-too_many c = (all c).too_many

pub returns-clause-invalid : goal.returns-clause-invalid
returns-clause-invalid c = (all c).invalid

pub returns-clause-refusals : goal.returns-clause-refusals
returns-clause-refusals c = (all c).refusals
