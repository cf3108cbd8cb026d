use Rattle.std.proofs.Common.{◌≡◌, take, count_by}
use Rattle.state_codec.specs.Sizes.{has_alarm}
use Rattle.state_codec.proofs.sizes.count_alarms.Given as goal

abbrev pub invariant-loop-site : goal.invariant-loop-site
invariant-loop-site l = l.count ≡ count_by has_alarm (take l.site-index l.objects)
