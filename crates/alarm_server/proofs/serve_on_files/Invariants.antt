use Rattle.std.proofs.Common.{[]}
use Rattle.alarm_server.proofs.serve_on_files.Given as goal

abbrev pub ghost-serve_real : goal.ghost-serve_real
ghost-serve_real g a = record { site = []; disk = record { first = []; left = [] }; datagrams = [] }
