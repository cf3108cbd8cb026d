use Rattle.std.proofs.Common.{Some}
use Rattle.bac_tags.specs.Contents.{SpellsUnsigned}
use Rattle.bac_tags.proofs.RequiredReaders.{ReadsOptional, reads_optional}
use Rattle.bac_tags.proofs.element_parameters.optional_unsigned.Goals as goal

-- all that the clauses say
all : (c : goal.After-optional) → ReadsOptional (SpellsUnsigned (Some c.args.number)) c.args.number c.args.input.now c.args.at c.optional.result
all c =
    reads_optional (SpellsUnsigned (Some c.args.number)) 2 c.args.number c.args.input.now c.args.at c.read_unsigned.result c.optional.result c.requires c.read_unsigned.ensures.found c.read_unsigned.ensures.only c.read_unsigned.ensures.within c.read_unsigned.ensures.wrong_tag c.optional.ensures.exact

pub returns-clause-found : goal.returns-clause-found
returns-clause-found c = (all c).found

pub returns-clause-only : goal.returns-clause-only
returns-clause-only c = (all c).only

pub returns-clause-invalid : goal.returns-clause-invalid
returns-clause-invalid c = (all c).invalid
