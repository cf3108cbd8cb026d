use Rattle.std.proofs.Common.{[]}
use Rattle.site_tests.proofs.ground_io_tests.links.expect_failing.Given as goal

abbrev pub ghost-new : goal.ghost-new
ghost-new g a = []
