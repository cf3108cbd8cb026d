use Rattle.std.proofs.Common.{arith}
use Rattle.bac_tags.proofs.ParameterAnswers.{ReadsWhole, reads_whole}
use Rattle.summaries.specs.Requests.{SpellsFilter}
use Rattle.summaries.specs.Refusals.{RefusesEnrollmentRequest}
use Rattle.summaries.specs.RequestSteps.{enrollment_request_of}
use Rattle.summaries.proofs.Filters.{request_answers}
use Rattle.summaries.proofs.read_enrollment.read_enrollment_request.Goals as goal

-- all that the clauses say
all : (c : goal.After-enrollment_request_of) → ReadsWhole (SpellsFilter c.args.bytes.now) (RefusesEnrollmentRequest c.args.bytes.now) c.enrollment_request_of.result
all c =
    reads_whole (SpellsFilter c.args.bytes.now) (RefusesEnrollmentRequest c.args.bytes.now) c.enrollment_request_of.result (enrollment_request_of c.args.bytes.now) c.enrollment_request_of.ensures.exact (request_answers c.args.bytes.now (λ i. omega (arith, c.type_inv.bytes i)))

pub returns-clause-found : goal.returns-clause-found
returns-clause-found c = (all c).found

pub returns-clause-only : goal.returns-clause-only
returns-clause-only c = (all c).only

pub returns-clause-refused : goal.returns-clause-refused
returns-clause-refused c = (all c).refused
