use Rattle.std.proofs.Common.{length, arith}
use Rattle.bac_tags.specs.Refusals.{missing_parameter}
use Rattle.property_services.specs.Requests.{SpellsWhoIs}
use Rattle.property_services.specs.Refusals.{RefusesWhoIs}
use Rattle.property_services.specs.ReadingSteps.{who_is_of}
use Rattle.property_services.proofs.Missing.{missing_in_who_is, both}
use Rattle.bac_tags.proofs.ParameterAnswers.{ReadsWhole, reads_whole}
use Rattle.property_services.proofs.Limits.{who_is_answers}
use Rattle.property_services.proofs.who_is.read_who_is.Goals as goal

-- all that the clauses say
all : (c : goal.After-who_is_of) → ReadsWhole (SpellsWhoIs c.args.bytes.now) (RefusesWhoIs c.args.bytes.now) c.who_is_of.result
all c =
    reads_whole (SpellsWhoIs c.args.bytes.now) (RefusesWhoIs c.args.bytes.now) c.who_is_of.result (who_is_of c.args.bytes.now) c.who_is_of.ensures.exact (who_is_answers c.args.bytes.now (λ i. omega (arith, c.type_inv.bytes i)))

pub returns-clause-found : goal.returns-clause-found
returns-clause-found c = (all c).found

pub returns-clause-only : goal.returns-clause-only
returns-clause-only c = (all c).only

pub returns-clause-refused : goal.returns-clause-refused
returns-clause-refused c = (all c).refused

pub returns-clause-missing : goal.returns-clause-missing
returns-clause-missing c =
    both ((all c).refused (missing_parameter (length c.args.bytes.now))) (missing_in_who_is c.args.bytes.now)
