use Rattle.std.proofs.Common.{Some}
use Rattle.bac_tags.specs.Contents.{SpellsObject}
use Rattle.bac_tags.proofs.RequiredReaders.{ReadsRequired, reads_required}
use Rattle.bac_tags.proofs.element_parameters.required_object.Goals as goal

-- all that the clauses say
all : (c : goal.After-required) → ReadsRequired (SpellsObject (Some c.args.number)) c.args.input.now c.args.at c.required.result
all c =
    reads_required (SpellsObject (Some c.args.number)) c.args.input.now c.args.at c.read_object.result c.required.result c.requires c.read_object.ensures.found c.read_object.ensures.only c.read_object.ensures.within c.required.ensures.exact

pub returns-clause-only : goal.returns-clause-only
returns-clause-only c = (all c).only

pub returns-clause-invalid : goal.returns-clause-invalid
returns-clause-invalid c = (all c).invalid
