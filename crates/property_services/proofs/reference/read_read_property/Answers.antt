use Rattle.std.proofs.Common.{length, arith}
use Rattle.bac_tags.specs.Refusals.{missing_parameter}
use Rattle.property_services.specs.Requests.{SpellsReadProperty}
use Rattle.property_services.specs.Refusals.{RefusesReadProperty}
use Rattle.property_services.specs.ReadingSteps.{read_property_of}
use Rattle.property_services.proofs.Missing.{missing_in_read_property, both}
use Rattle.bac_tags.proofs.ParameterAnswers.{ReadsWhole, reads_whole}
use Rattle.property_services.proofs.References.{read_property_answers}
use Rattle.property_services.proofs.reference.read_read_property.Goals as goal

-- all that the clauses say
all : (c : goal.After-read_property_of) → ReadsWhole (SpellsReadProperty c.args.bytes.now) (RefusesReadProperty c.args.bytes.now) c.read_property_of.result
all c =
    reads_whole (SpellsReadProperty c.args.bytes.now) (RefusesReadProperty c.args.bytes.now) c.read_property_of.result (read_property_of c.args.bytes.now) c.read_property_of.ensures.exact (read_property_answers c.args.bytes.now (λ i. omega (arith, c.type_inv.bytes i)))

pub returns-clause-found : goal.returns-clause-found
returns-clause-found c = (all c).found

pub returns-clause-only : goal.returns-clause-only
returns-clause-only c = (all c).only

pub returns-clause-refused : goal.returns-clause-refused
returns-clause-refused c = (all c).refused

pub returns-clause-missing : goal.returns-clause-missing
returns-clause-missing c =
    both ((all c).refused (missing_parameter (length c.args.bytes.now))) (missing_in_read_property c.args.bytes.now)
