use Rattle.std.proofs.Common.{length, arith}
use Rattle.bac_tags.specs.Refusals.{missing_parameter}
use Rattle.property_services.specs.Requests.{SpellsReadRange}
use Rattle.property_services.specs.Refusals.{RefusesReadRange}
use Rattle.property_services.specs.ReadingSteps.{read_range_of}
use Rattle.property_services.proofs.Missing.{missing_in_read_range, both}
use Rattle.bac_tags.proofs.ParameterAnswers.{ReadsWhole, reads_whole}
use Rattle.property_services.proofs.RangeLaws.{read_range_answers}
use Rattle.property_services.proofs.read_range.read_read_range.Goals as goal

-- all that the clauses say
all : (c : goal.After-read_range_of) → ReadsWhole (SpellsReadRange c.args.bytes.now) (RefusesReadRange c.args.bytes.now) c.read_range_of.result
all c =
    reads_whole (SpellsReadRange c.args.bytes.now) (RefusesReadRange c.args.bytes.now) c.read_range_of.result (read_range_of c.args.bytes.now) c.read_range_of.ensures.exact (read_range_answers c.args.bytes.now (λ i. omega (arith, c.type_inv.bytes i)))

pub returns-clause-found : goal.returns-clause-found
returns-clause-found c = (all c).found

pub returns-clause-only : goal.returns-clause-only
returns-clause-only c = (all c).only

pub returns-clause-refused : goal.returns-clause-refused
returns-clause-refused c = (all c).refused

pub returns-clause-missing : goal.returns-clause-missing
returns-clause-missing c =
    both ((all c).refused (missing_parameter (length c.args.bytes.now))) (missing_in_read_range c.args.bytes.now)
