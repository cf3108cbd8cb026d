use Rattle.std.proofs.Common.{[]}
use Rattle.site_tests.proofs.ground_io_tests.links.udp_link_hears_a_socket_and_finds_nothing_when_its_time_is_up.Given as goal

abbrev pub ghost-new : goal.ghost-new
ghost-new g a = []
