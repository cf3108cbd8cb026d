use Rattle.std.proofs.Common.{◌≡◌, take}
use Rattle.event_log.proofs.log_site.copy_of_logs.Given as goal

abbrev pub invariant-loop-site : goal.invariant-loop-site
invariant-loop-site l = l.copy.items ≡ take l.site-index l.sites
