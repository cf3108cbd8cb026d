use Rattle.script_lines.proofs.ObjectText.{named}
use Rattle.script_lines.proofs.object.read_object.Goals as goal

pub returns-clause-written : goal.returns-clause-written
returns-clause-written c = λ object. named object c.args.text.now c.object.result c.object.ensures.object
