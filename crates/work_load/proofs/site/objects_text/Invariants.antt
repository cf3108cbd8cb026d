use Rattle.std.proofs.Common.{◌≡◌, string_bytes}
use Rattle.work_load.specs.Site.{objects_text}
use Rattle.work_load.proofs.site.objects_text.Given as goal

-- the objects so far
abbrev pub invariant-loop-instance : goal.invariant-loop-instance
invariant-loop-instance l = string_bytes l.text ≡ objects_text l.instance
