use Rattle.std.proofs.Common.{[]}
use Rattle.site_tests.proofs.ground_io_tests.expect_kept_by.Given as goal

abbrev pub ghost-new : goal.ghost-new
ghost-new g a = record { first = []; left = [] }
