use Rattle.std.proofs.Common.{[]}
use Rattle.site_tests.proofs.ground_io_tests.a_file_fails_where_it_can_not_be_written_or_is_cut.Given as goal

abbrev pub ghost-new : goal.ghost-new
ghost-new g a = record { first = []; left = [] }
