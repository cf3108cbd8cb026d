use Rattle.std.proofs.Common.{◌≡◌, ◌++◌, ◌∙◌, ap, sym, string_bytes, rules}
use Rattle.work_load.proofs.Lines.{objects-next, objects-none}
use Rattle.work_load.proofs.site.objects_text.Goals as goal

pub loop-instance-init : goal.loop-instance-init
loop-instance-init c = c.new-text.ensures.bytes ∙ sym objects-none

pub loop-instance-preserved : goal.loop-instance-preserved
loop-instance-preserved c = rw (objects-next, ← c.loop-instance.invariant, ← c.in_ok-object_text.ensures.text, ← c.as_str.ensures.value) (search rules)
