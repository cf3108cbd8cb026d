use Rattle.std.proofs.Common.{[]}
use Rattle.site_tests.proofs.ground_io_tests.what_has_no_disk_below_is_not_synced.Given as goal

abbrev pub ghost-new : goal.ghost-new
ghost-new g a = record { first = []; left = [] }
