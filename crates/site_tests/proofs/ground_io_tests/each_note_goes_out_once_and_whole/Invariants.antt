use Rattle.std.proofs.Common.{[]}
use Rattle.site_tests.proofs.ground_io_tests.each_note_goes_out_once_and_whole.Given as goal

abbrev pub ghost-new : goal.ghost-new
ghost-new g a = record { first = []; left = [] }
