use Rattle.std.proofs.Common.{[]}
use Rattle.site_tests.proofs.ground_io_tests.without_a_file_there_is_no_device.Given as goal

abbrev pub ghost-new : goal.ghost-new
ghost-new g a = record { first = []; left = [] }
