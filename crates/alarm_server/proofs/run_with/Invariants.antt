use Rattle.std.proofs.Common.{[]}
use Rattle.alarm_server.proofs.run_with.Given as goal

abbrev pub ghost-run_real : goal.ghost-run_real
ghost-run_real g a = record { site = []; script = []; disk = record { first = []; left = [] } }
