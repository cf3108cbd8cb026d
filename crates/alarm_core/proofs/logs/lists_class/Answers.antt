use Rattle.std.proofs.Common.{◌∙◌}
use Rattle.alarm_core.proofs.Halving.{among}
use Rattle.alarm_core.proofs.logs.lists_class.Goals as goal

pub returns : goal.returns
returns c = record {
  same = c.is_ok.ensures.value ∙ among c.args.class.now.instance c.args.instances.now c.binary_search.result c.requires.ascending c.binary_search.ensures.bound c.binary_search.ensures.position;
}
