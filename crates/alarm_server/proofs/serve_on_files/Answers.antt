use Rattle.std.proofs.Common.{rules}
use Rattle.alarm_server.proofs.serve_on_files.Goals as goal

pub serve_real-source-requires : goal.serve_real-source-requires
serve_real-source-requires g c κs within = (search rules, (search rules, (search rules, search rules)))
